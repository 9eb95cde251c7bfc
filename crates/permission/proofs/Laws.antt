-- What is read from bytes is the well-formed term that they encode, and the covering test answers for that term.
use Rattle.std.proofs.Common.{◌≡◌, ℕ, ◌≤◌, Bool, true, false, cond, eqb, leb, List, [], length, is_some, Some, None, Ok, Err, Decides, Option, Result, sym, refl, ap, ◌∙◌, ap₂, arith}
use Rattle.std.proofs.lemmas.List.{append-nil, nil_from_length}
use Rattle.std.proofs.lemmas.Bool.{false≢true, eqb-true, leb-true, le-leb}
use Rattle.std.proofs.lemmas.Bool.Decides.{not_from_Decides}
use Rattle.refusal.specs.declared.Refusal.{Refusal}
use Rattle.refusal.specs.declared.Refusal.TheVariants.{Malformed}
use Rattle.permission.specs.Names.{IsName}
use Rattle.permission.specs.Terms.{Term, Term.all, Term.elt, Term.prefix, Term.range, Term.set, Encodes, WellFormed, encoding}
use Rattle.permission.specs.Reading.{Reading, is_name, ended, term_in, term_of, well_formed, covered, verdict, covering}
use Rattle.permission.specs.Answers.{SomeWellFormedTerm, Answers}
use Rattle.permission.proofs.Names.{is_name_decides}
use Rattle.permission.proofs.Covered.{covered_decides}
use Rattle.permission.proofs.Found.{nothing_is_not_something, same_found, test_held}
use Rattle.permission.proofs.Decoding.{TermAt, term_found}
use Rattle.permission.proofs.Encoding.{term_read}

encoding_has_a_form : (term : Term) → 1 ≤ length (encoding term)
encoding_has_a_form all = omega arith
encoding_has_a_form (elt name) = omega arith
encoding_has_a_form (prefix front) = omega arith
encoding_has_a_form (range low high) = omega arith
encoding_has_a_form (set members) = omega arith

ended_found : (reading : Reading Term) (term : Term) → ended reading ≡ Some term → reading ≡ Some (term, [])
ended_found None term e = absurd (nothing_is_not_something e)
ended_found (Some p) term e =
    let held = test_held (eqb (length p.1) 0) (Some p.0) term e in
    let nothing-over : p.1 ≡ [] = nil_from_length p.1 (eqb-true (length p.1) 0 held.0) in
    ap₂ (λ t r. Some (t, r)) (same_found held.1) nothing-over

pub term_of_encoded : (bytes : List ℕ) (term : Term) → term_of bytes ≡ Some term → WellFormed term × Encodes term bytes
unfolding term_of
term_of_encoded bytes term e =
    let held = test_held (leb (length bytes) 48) (ended (term_in 4 bytes)) term e in
    let found : TermAt 4 bytes (term, []) = term_found 4 bytes (term, []) (ended_found (term_in 4 bytes) term held.1) in
    let written : encoding term ≡ bytes = sym (append-nil (encoding term)) ∙ found.written in
    let short : length bytes ≤ 48 = leb-true (length bytes) 48 held.0 in
    (record { sound = found.sound; shallow = found.shallow; some = encoding_has_a_form term; short = rw written short }, written)

pub encoded_term_of : (bytes : List ℕ) (term : Term) → WellFormed term → Encodes term bytes → term_of bytes ≡ Some term
unfolding term_of
encoded_term_of bytes term well written =
    let read : term_in 4 bytes ≡ Some (term, []) = ap (term_in 4) (sym written ∙ sym (append-nil (encoding term))) ∙ term_read term 4 [] well.sound well.shallow in
    let short : leb (length bytes) 48 ≡ true = ap (λ b. leb (length b) 48) (sym written) ∙ le-leb (length (encoding term)) 48 well.short in
    ap (λ b. cond b (ended (term_in 4 bytes)) None) short ∙ ap ended read

pub well_formed_decides : (bytes : List ℕ) → Decides (well_formed bytes) (SomeWellFormedTerm bytes)
well_formed_decides bytes = (go (term_of bytes) refl, λ some. ap is_some (encoded_term_of bytes some.0 some.1 some.2))
  where
    go : (o : Option Term) → term_of bytes ≡ o → is_some o ≡ true → SomeWellFormedTerm bytes
    go None found e = absurd (false≢true e)
    go (Some term) found e = let h = term_of_encoded bytes term found in (term, h.0, h.1)

not-true : (b : Bool) → (b ≡ true → ⊥) → b ≡ false
not-true true never = absurd (never refl)
not-true false never = refl

module _ (bytes name : List ℕ) where
  answers_for_a_term : (term : Term) → WellFormed term → Encodes term bytes → (named covers : Bool) → is_name name ≡ named → covered term name ≡ covers → Answers bytes name (cond named (Ok covers) (Err Malformed))
  answers_for_a_term term well written true true n c = ((is_name_decides name).0 n, (term, well, written, (covered_decides term name).0 c))
  answers_for_a_term term well written true false n c =
      ((is_name_decides name).0 n, (term, well, written, not_from_Decides (covered term name) (covered_decides term name) c))
  answers_for_a_term term well written false covers n c = (refl, λ named _. false≢true (sym n ∙ (is_name_decides name).1 named))

  -- the covering test answers for the term that the bytes encode
  pub covering_answers : Answers bytes name (covering bytes name)
  unfolding covering
  covering_answers = go (term_of bytes) refl
    where
      go : (o : Option Term) → term_of bytes ≡ o → Answers bytes name (verdict o name)
      go None none = (refl, λ named some. nothing_is_not_something (sym none ∙ encoded_term_of bytes some.0 some.1 some.2))
      go (Some term) found =
          let h = term_of_encoded bytes term found in
          answers_for_a_term term h.0 h.1 (is_name name) (covered term name) refl refl

  yes_or_no : (term : Term) (covers : Bool) → IsName name → WellFormed term → Encodes term bytes → covered term name ≡ covers → Ok covers ≡ covering bytes name
  unfolding covering
  yes_or_no term covers named well written c =
      sym
      (ap (λ o. verdict o name) (encoded_term_of bytes term well written)
      ∙ ap (λ b. cond b (Ok (covered term name)) (Err Malformed)) ((is_name_decides name).1 named)
      ∙ ap Ok c)

  refused : (o : Option Term) → term_of bytes ≡ o → (IsName name → SomeWellFormedTerm bytes → ⊥) → Err Malformed ≡ verdict o name
  refused None none out = refl
  refused (Some term) found out =
      let h = term_of_encoded bytes term found in
      let unnamed : is_name name ≡ false = not-true (is_name name) (λ n. out ((is_name_decides name).0 n) (term, h.0, h.1)) in
      sym (ap (λ b. cond b (Ok (covered term name)) (Err Malformed)) unnamed)

  -- and nothing else answers for them
  pub only_covering_answers : (answer : Result Bool Refusal) → Answers bytes name answer → answer ≡ covering bytes name
  unfolding covering
  only_covering_answers (Ok true) (named, (term, well, written, covers)) =
      yes_or_no term true named well written ((covered_decides term name).1 covers)
  only_covering_answers (Ok false) (named, (term, well, written, outside)) =
      yes_or_no term false named well written (not-true (covered term name) (λ c. outside ((covered_decides term name).0 c)))
  only_covering_answers (Err why) (malformed, out) = ap Err malformed ∙ refused (term_of bytes) refl out

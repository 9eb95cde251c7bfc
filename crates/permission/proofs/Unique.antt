-- Bytes encode at most one term: no encoding is the front of another's.
use Rattle.std.proofs.Common.{◌≡◌, ℕ, false, eqb, List, [], ◌∷◌, ◌++◌, length, take, drop, sym, refl, ap, ◌∙◌, ap₂, append_assoc, arith}
use Rattle.std.proofs.lemmas.List.{take_at, drop_at, append-nil}
use Rattle.std.proofs.lemmas.Bool.Decides.{nat_tests}
use Rattle.permission.specs.Terms.{Term, Term.all, Term.elt, Term.prefix, Term.range, Term.set, Members, Members.none, Members.member, count, counted, encoding, encodings}
use Rattle.permission.specs.Answers.{OneTermAtMost}

same_head : {a b : ℕ} {xs ys : List ℕ} → a ∷ xs ≡ b ∷ ys → a ≡ b
same_head e = cc

same_tail : {a b : ℕ} {xs ys : List ℕ} → a ∷ xs ≡ b ∷ ys → xs ≡ ys
same_tail e = cc

other_form : {a b : ℕ} {xs ys : List ℕ} → eqb a b ≡ false → a ∷ xs ≡ b ∷ ys → ⊥
other_form apart e = let same = same_head e in grind (arith, nat_tests)

counted_apart : (xs ys p q : List ℕ) → counted xs ++ p ≡ counted ys ++ q → (xs ≡ ys) × (p ≡ q)
counted_apart xs ys p q e =
    let long : length ys ≡ length xs = sym (same_head e) in (
      sym (take_at xs p (length xs) refl) ∙ ap (take (length xs)) (same_tail e) ∙ take_at ys q (length xs) long,
      sym (drop_at xs p (length xs) refl) ∙ ap (drop (length xs)) (same_tail e) ∙ drop_at ys q (length xs) long,
    )

mutual
  term_apart : (s t : Term) (p q : List ℕ) → encoding s ++ p ≡ encoding t ++ q → (s ≡ t) × (p ≡ q)
  term_apart all all p q e = (refl, same_tail e)
  term_apart all (elt b) p q e = absurd (other_form refl e)
  term_apart all (prefix b) p q e = absurd (other_form refl e)
  term_apart all (range b c) p q e = absurd (other_form refl e)
  term_apart all (set ns) p q e = absurd (other_form refl e)
  term_apart (elt a) all p q e = absurd (other_form refl e)
  term_apart (elt a) (elt b) p q e = let h = counted_apart a b p q (same_tail e) in (ap elt h.0, h.1)
  term_apart (elt a) (prefix b) p q e = absurd (other_form refl e)
  term_apart (elt a) (range b c) p q e = absurd (other_form refl e)
  term_apart (elt a) (set ns) p q e = absurd (other_form refl e)
  term_apart (prefix a) all p q e = absurd (other_form refl e)
  term_apart (prefix a) (elt b) p q e = absurd (other_form refl e)
  term_apart (prefix a) (prefix b) p q e = let h = counted_apart a b p q (same_tail e) in (ap prefix h.0, h.1)
  term_apart (prefix a) (range b c) p q e = absurd (other_form refl e)
  term_apart (prefix a) (set ns) p q e = absurd (other_form refl e)
  term_apart (range a d) all p q e = absurd (other_form refl e)
  term_apart (range a d) (elt b) p q e = absurd (other_form refl e)
  term_apart (range a d) (prefix b) p q e = absurd (other_form refl e)
  term_apart (range a d) (range b c) p q e =
      let low = counted_apart a b (counted d ++ p) (counted c ++ q) (sym (append_assoc (counted a) (counted d) p) ∙ same_tail e ∙ append_assoc (counted b) (counted c) q) in
      let high = counted_apart d c p q low.1 in
      (ap₂ range low.0 high.0, high.1)
  term_apart (range a d) (set ns) p q e = absurd (other_form refl e)
  term_apart (set ms) all p q e = absurd (other_form refl e)
  term_apart (set ms) (elt b) p q e = absurd (other_form refl e)
  term_apart (set ms) (prefix b) p q e = absurd (other_form refl e)
  term_apart (set ms) (range b c) p q e = absurd (other_form refl e)
  term_apart (set ms) (set ns) p q e =
      let h = members_apart ms ns p q (same_head (same_tail e)) (same_tail (same_tail e)) in (ap set h.0, h.1)

  members_apart : (ms ns : Members) (p q : List ℕ) → count ms ≡ count ns → encodings ms ++ p ≡ encodings ns ++ q → (ms ≡ ns) × (p ≡ q)
  members_apart none none p q n e = (refl, e)
  members_apart none (member t ts) p q n e = absurd (omega arith)
  members_apart (member s ss) none p q n e = absurd (omega arith)
  members_apart (member s ss) (member t ts) p q n e =
      let first = term_apart s t (encodings ss ++ p) (encodings ts ++ q) (sym (append_assoc (encoding s) (encodings ss) p) ∙ e ∙ append_assoc (encoding t) (encodings ts) q) in
      let others = members_apart ss ts p q (omega arith) first.1 in
      (ap₂ member first.0 others.0, others.1)

pub one_term_at_most : (bytes : List ℕ) → OneTermAtMost bytes
one_term_at_most bytes s t e f = (term_apart s t [] [] (append-nil (encoding s) ∙ e ∙ sym f ∙ sym (append-nil (encoding t)))).0

-- Every sound term is read back from the bytes that encode it, whatever follows them.
use Rattle.std.proofs.Common.{◌≡◌, ℕ, zero, suc, ◌≤◌, true, cond, ◌&&◌, leb, List, ◌++◌, length, take, drop, Some, None, refl, ap, ◌∙◌, append_assoc, arith}
use native.Mathlib.Nat.{le-max_left, le-max_right}
use Rattle.std.proofs.lemmas.List.{take_at, drop_at, length-append}
use Rattle.std.proofs.lemmas.Bool.{le-leb}
use Rattle.permission.specs.Names.{IsText, IsName}
use Rattle.permission.specs.Terms.{Term, Term.all, Term.elt, Term.prefix, Term.range, Term.set, Members, Members.none, Members.member, count, counted, encoding, encodings, depth, deepest, Sound, EachSound}
use Rattle.permission.specs.Reading.{Reading, then, all_graphic, text_in, name_in, not_after, range_in, members_in, set_in, term_in}
use Rattle.permission.proofs.Names.{all_graphic_decides, not_after_decides}

text_read : (text rest : List ℕ) → IsText text → text_in (counted text ++ rest) ≡ Some (text, rest)
unfolding text_in
text_read text rest sound =
    let n : ℕ = length text in
    let front : take n (text ++ rest) ≡ text = take_at text rest n refl in
    let short : leb n 16 ≡ true = le-leb n 16 sound.short in
    let within : leb n (length (text ++ rest)) ≡ true = le-leb n (length (text ++ rest)) (simp length-append (omega arith)) in
    let graphic : all_graphic (take n (text ++ rest)) ≡ true = ap all_graphic front ∙ (all_graphic_decides text).1 sound.graphic in
    let found : Reading (List ℕ) = Some (take n (text ++ rest), drop n (text ++ rest)) in
    ap (λ b. cond ((b && leb n (length (text ++ rest))) && all_graphic (take n (text ++ rest))) found None) short
    ∙ ap (λ b. cond (b && all_graphic (take n (text ++ rest))) found None) within
    ∙ ap (λ b. cond b found None) graphic
    ∙ ap (λ f. Some (f, drop n (text ++ rest))) front
    ∙ ap (λ r. Some (text, r)) (drop_at text rest n refl)

name_read : (name rest : List ℕ) → IsName name → name_in (counted name ++ rest) ≡ Some (name, rest)
name_read name rest sound =
    ap (λ o. then o (λ text. cond (leb 1 (length text.0)) (Some text) None)) (text_read name rest sound.text)
    ∙ ap (λ b. cond b (Some (name, rest)) None) (le-leb 1 (length name) sound.some)

mutual
  unfolding set_in

  pub term_read : (term : Term) (deep : ℕ) (rest : List ℕ) → Sound term → depth term ≤ deep → term_in deep (encoding term ++ rest) ≡ Some (term, rest)
  term_read all deep rest sound shallow = refl
  term_read (elt name) deep rest sound shallow = ap (λ o. then o (λ own. Some (elt own.0, own.1))) (name_read name rest sound)
  term_read (prefix front) deep rest sound shallow = ap (λ o. then o (λ own. Some (prefix own.0, own.1))) (text_read front rest sound)
  term_read (range low high) deep rest sound shallow =
      ap range_in (append_assoc (counted low) (counted high) rest)
      ∙ ap (λ o. then o (λ l. then (name_in l.1) (λ h. cond (not_after l.0 h.0) (Some (range l.0 h.0, h.1)) None))) (name_read low (counted high ++ rest) sound.0)
      ∙ ap (λ o. then o (λ h. cond (not_after low h.0) (Some (range low h.0, h.1)) None)) (name_read high rest sound.1)
      ∙ ap (λ b. cond b (Some (range low high, rest)) None) ((not_after_decides low high).1 sound.2)
  term_read (set members) zero rest sound shallow = absurd (omega arith)
  term_read (set members) (suc deep) rest sound shallow =
      ap (λ b. cond b (then (members_in (term_in deep) (count members) (encodings members ++ rest)) (λ m. Some (set m.0, m.1))) None) (le-leb (count members) 8 sound.0)
      ∙ ap (λ o. then o (λ m. Some (set m.0, m.1))) (members_read members deep rest sound.1 (omega arith))

  members_read : (members : Members) (deep : ℕ) (rest : List ℕ) → EachSound members → deepest members ≤ deep → members_in (term_in deep) (count members) (encodings members ++ rest) ≡ Some (members, rest)
  members_read none deep rest sound shallow = refl
  members_read (member term others) deep rest sound shallow =
      ap (members_in (term_in deep) (suc (count others))) (append_assoc (encoding term) (encodings others) rest)
      ∙ ap (λ o. then o (λ first. then (members_in (term_in deep) (count others) first.1) (λ m. Some (member first.0 m.0, m.1)))) (term_read term deep (encodings others ++ rest) sound.0 (omega (arith, le-max_left (depth term) (deepest others))))
      ∙ ap (λ o. then o (λ m. Some (member term m.0, m.1))) (members_read others deep rest sound.1 (omega (arith, le-max_right (depth term) (deepest others))))

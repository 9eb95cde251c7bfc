-- Whatever is read from bytes is a sound term that those bytes encode.
use Rattle.std.proofs.Common.{◌≡◌, ℕ, zero, suc, ◌≤◌, Bool, true, false, cond, ◌&&◌, eqb, leb, List, [], ◌∷◌, ◌++◌, length, take, drop, Some, None, sym, refl, ap, ◌∙◌, subst, append_assoc, suc-le-suc, zero-le}
use native.Mathlib.Nat.{max-le}
use Rattle.std.proofs.lemmas.List.{take-append-drop, length-take-le}
use Rattle.std.proofs.lemmas.Bool.{and_parts, eqb-true, leb-true}
use Rattle.permission.specs.Names.{IsText, IsName}
use Rattle.permission.specs.Terms.{Term, Term.all, Term.elt, Term.prefix, Term.range, Term.set, Members, Members.member, count, counted, encoding, encodings, depth, deepest, Sound, EachSound}
use Rattle.permission.specs.Reading.{Reading, then, all_graphic, text_in, name_in, not_after, elt_in, prefix_in, range_in, members_in, counted_in, form_in, set_in, term_in}
use Rattle.permission.proofs.Found.{nothing_is_not_something, same_found, then_found, test_held}
use Rattle.permission.proofs.Names.{all_graphic_decides, not_after_decides}

-- a text, or a name, that stands at the front of bytes, with the bytes after it
record TextAt (Holds : List ℕ → Type 0) (bytes : List ℕ) (p : List ℕ × List ℕ) : Type 0 where
  pub written : counted p.0 ++ p.1 ≡ bytes
  pub sound : Holds p.0

text_found : (bytes : List ℕ) (p : List ℕ × List ℕ) → text_in bytes ≡ Some p → TextAt IsText bytes p
unfolding text_in
text_found [] p e = absurd (nothing_is_not_something e)
text_found (n ∷ rest) p e =
    let held = test_held ((leb n 16 && leb n (length rest)) && all_graphic (take n rest)) (Some (take n rest, drop n rest)) p e in
    let tests = and_parts (leb n 16 && leb n (length rest)) (all_graphic (take n rest)) held.0 in
    let lengths = and_parts (leb n 16) (leb n (length rest)) tests.0 in
    let long : length (take n rest) ≡ n = length-take-le n rest (leb-true n (length rest) lengths.1) in
    let short : n ≤ 16 = leb-true n 16 lengths.0 in
    subst (TextAt IsText (n ∷ rest)) (same_found held.1)
    (record {
      written = ap (λ l. l ∷ (take n rest ++ drop n rest)) long ∙ ap (λ r. n ∷ r) (take-append-drop n rest);
      sound = record { short = rw long short; graphic = (all_graphic_decides (take n rest)).0 tests.1 };
    })

name_found : (bytes : List ℕ) (p : List ℕ × List ℕ) → name_in bytes ≡ Some p → TextAt IsName bytes p
name_found bytes p e =
    let found = then_found (text_in bytes) (λ text. cond (leb 1 (length text.0)) (Some text) None) p e in
    let text = text_found bytes found.0 found.1 in
    let held = test_held (leb 1 (length found.0.0)) (Some found.0) p found.2 in
    subst (TextAt IsName bytes) (same_found held.1)
    (record { written = text.written; sound = record { text = text.sound; some = leb-true 1 (length found.0.0) held.0 } })

-- a sound term, no deeper than allowed, that stands at the front of bytes, with the bytes after it
pub record TermAt (deep : ℕ) (bytes : List ℕ) (p : Term × List ℕ) : Type 0 where
  pub written : encoding p.0 ++ p.1 ≡ bytes
  pub sound : Sound p.0
  pub shallow : depth p.0 ≤ deep

elt_found : (deep : ℕ) (bytes : List ℕ) (p : Term × List ℕ) → elt_in bytes ≡ Some p → TermAt deep (0x02 ∷ bytes) p
elt_found deep bytes p e =
    let found = then_found (name_in bytes) (λ own. Some (elt own.0, own.1)) p e in
    let own = name_found bytes found.0 found.1 in
    subst (TermAt deep (0x02 ∷ bytes)) (same_found found.2)
    (record { written = ap (λ b. 0x02 ∷ b) own.written; sound = own.sound; shallow = zero-le })

prefix_found : (deep : ℕ) (bytes : List ℕ) (p : Term × List ℕ) → prefix_in bytes ≡ Some p → TermAt deep (0x03 ∷ bytes) p
prefix_found deep bytes p e =
    let found = then_found (text_in bytes) (λ front. Some (prefix front.0, front.1)) p e in
    let front = text_found bytes found.0 found.1 in
    subst (TermAt deep (0x03 ∷ bytes)) (same_found found.2)
    (record { written = ap (λ b. 0x03 ∷ b) front.written; sound = front.sound; shallow = zero-le })

range_found : (deep : ℕ) (bytes : List ℕ) (p : Term × List ℕ) → range_in bytes ≡ Some p → TermAt deep (0x04 ∷ bytes) p
range_found deep bytes p e =
    let low-found = then_found (name_in bytes) (λ low. then (name_in low.1) (λ high. cond (not_after low.0 high.0) (Some (range low.0 high.0, high.1)) None)) p e in
    let low = low-found.0 in
    let low-name = name_found bytes low low-found.1 in
    let high-found = then_found (name_in low.1) (λ high. cond (not_after low.0 high.0) (Some (range low.0 high.0, high.1)) None) p low-found.2 in
    let high = high-found.0 in
    let high-name = name_found low.1 high high-found.1 in
    let held = test_held (not_after low.0 high.0) (Some (range low.0 high.0, high.1)) p high-found.2 in
    subst (TermAt deep (0x04 ∷ bytes)) (same_found held.1)
    (record {
      written = ap (λ b. 0x04 ∷ b) (append_assoc (counted low.0) (counted high.0) high.1 ∙ ap (λ r. counted low.0 ++ r) high-name.written ∙ low-name.written);
      sound = (low-name.sound, high-name.sound, (not_after_decides low.0 high.0).0 held.0);
      shallow = zero-le;
    })

-- a row of members likewise
record MembersAt (deep n : ℕ) (bytes : List ℕ) (p : Members × List ℕ) : Type 0 where
  pub written : encodings p.0 ++ p.1 ≡ bytes
  pub sound : EachSound p.0
  pub shallow : deepest p.0 ≤ deep
  pub many : count p.0 ≡ n

module _ (deep : ℕ) (one : List ℕ → Reading Term) (one_Found : (bytes : List ℕ) (p : Term × List ℕ) → one bytes ≡ Some p → TermAt deep bytes p) where
  members_found : (n : ℕ) (bytes : List ℕ) (p : Members × List ℕ) → members_in one n bytes ≡ Some p → MembersAt deep n bytes p
  members_found zero bytes p e =
      subst (MembersAt deep zero bytes) (same_found e) (record { written = refl; sound = tt; shallow = zero-le; many = refl })
  members_found (suc n) bytes p e =
      let first_found = then_found (one bytes) (λ first. then (members_in one n first.1) (λ others. Some (member first.0 others.0, others.1))) p e in
      let first = first_found.0 in
      let term = one_Found bytes first first_found.1 in
      let others-found = then_found (members_in one n first.1) (λ others. Some (member first.0 others.0, others.1)) p first_found.2 in
      let others = others-found.0 in
      let rest = members_found n first.1 others others-found.1 in
      subst (MembersAt deep (suc n) bytes) (same_found others-found.2)
      (record {
        written = append_assoc (encoding first.0) (encodings others.0) others.1 ∙ ap (λ r. encoding first.0 ++ r) rest.written ∙ term.written;
        sound = (term.sound, rest.sound);
        shallow = max-le term.shallow rest.shallow;
        many = ap suc rest.many;
      })

  counted_found : (bytes : List ℕ) (p : Term × List ℕ) → counted_in one bytes ≡ Some p → TermAt (suc deep) (0x05 ∷ bytes) p
  counted_found [] p e = absurd (nothing_is_not_something e)
  counted_found (n ∷ rest) p e =
      let held = test_held (leb n 8) (then (members_in one n rest) (λ members. Some (set members.0, members.1))) p e in
      let found = then_found (members_in one n rest) (λ members. Some (set members.0, members.1)) p held.1 in
      let members = found.0 in
      let row = members_found n rest members found.1 in
      let few : n ≤ 8 = leb-true n 8 held.0 in
      subst (TermAt (suc deep) (0x05 ∷ n ∷ rest)) (same_found found.2)
      (record {
        written = ap (λ k. 0x05 ∷ k ∷ (encodings members.0 ++ members.1)) row.many ∙ ap (λ r. 0x05 ∷ n ∷ r) row.written;
        sound = (rw row.many few, row.sound);
        shallow = suc-le-suc row.shallow;
      })

form_found : (deep : ℕ) (sets : List ℕ → Reading Term) → ((bytes : List ℕ) (p : Term × List ℕ) → sets bytes ≡ Some p → TermAt deep (0x05 ∷ bytes) p) → (bytes : List ℕ) (p : Term × List ℕ) → form_in sets bytes ≡ Some p → TermAt deep bytes p
form_found deep sets set_found [] p e = absurd (nothing_is_not_something e)
form_found deep sets set_found (form ∷ rest) p e = go (eqb form 1) (eqb form 2) (eqb form 3) (eqb form 4) (eqb form 5) refl refl refl refl refl e
  where
    at : (k : ℕ) → eqb form k ≡ true → TermAt deep (k ∷ rest) p → TermAt deep (form ∷ rest) p
    at k e found = subst (λ f. TermAt deep (f ∷ rest) p) (sym (eqb-true form k e)) found

    go : (is-1 is-2 is-3 is-4 is-5 : Bool) → eqb form 1 ≡ is-1 → eqb form 2 ≡ is-2 → eqb form 3 ≡ is-3 → eqb form 4 ≡ is-4 → eqb form 5 ≡ is-5 → cond is-1 (Some (all, rest)) (cond is-2 (elt_in rest) (cond is-3 (prefix_in rest) (cond is-4 (range_in rest) (cond is-5 (sets rest) None)))) ≡ Some p → TermAt deep (form ∷ rest) p
    go true is-2 is-3 is-4 is-5 e1 e2 e3 e4 e5 e =
        at 1 e1 (subst (TermAt deep (1 ∷ rest)) (same_found e) (record { written = refl; sound = tt; shallow = zero-le }))
    go false true is-3 is-4 is-5 e1 e2 e3 e4 e5 e = at 2 e2 (elt_found deep rest p e)
    go false false true is-4 is-5 e1 e2 e3 e4 e5 e = at 3 e3 (prefix_found deep rest p e)
    go false false false true is-5 e1 e2 e3 e4 e5 e = at 4 e4 (range_found deep rest p e)
    go false false false false true e1 e2 e3 e4 e5 e = at 5 e5 (set_found rest p e)
    go false false false false false e1 e2 e3 e4 e5 e = absurd (nothing_is_not_something e)

set_found : (deep : ℕ) (bytes : List ℕ) (p : Term × List ℕ) → set_in deep bytes ≡ Some p → TermAt deep (0x05 ∷ bytes) p
unfolding set_in
set_found zero bytes p e = absurd (nothing_is_not_something e)
set_found (suc deep) bytes p e = counted_found deep (term_in deep) (form_found deep (set_in deep) (set_found deep)) bytes p e

pub term_found : (deep : ℕ) (bytes : List ℕ) (p : Term × List ℕ) → term_in deep bytes ≡ Some p → TermAt deep bytes p
term_found deep bytes p e = form_found deep (set_in deep) (set_found deep) bytes p e

-- What stands at the front of bytes as a term or as members, by the tests that the walk makes.
use Rattle.std.proofs.Common.{◌≡◌, ℕ, zero, suc, ◌-◌, ◌≤◌, ◌<◌, Bool, true, false, cond, ◌||◌, leb, List, [], ◌∷◌, Some, None, sym, refl, ap, ◌∙◌, ap₂, arith}
use Rattle.std.proofs.lemmas.Bool.Decides.{nat_tests}
use Rattle.permission.specs.Terms.{Term, Term.set, Members, Members.none, Members.member}
use Rattle.permission.specs.Reading.{Reading, then, covered, members_in, count_in, set_in, term_in, judged, any_judged}
use Rattle.permission.proofs.Found.{nothing_is_not_something, same_found}

-- a set covers what any of its members covers
set_judged : (name : List ℕ) (reading : Reading Members) → any_judged name reading ≡ judged name (then reading (λ ms. Some (set ms.0, ms.1)))
set_judged name None = refl
set_judged name (Some ms) = refl

-- a count that is read, and one that is not
module _ (bs rest : List ℕ) (n : ℕ) (front : bs ≡ n ∷ rest) where
  pub a_count : (deep : ℕ) → 0 < deep → n ≤ 8 → Some (n, rest) ≡ count_in deep bs
  a_count zero some few = absurd (omega arith)
  a_count (suc deep) some few = let t : leb n 8 ≡ true = grind (arith, nat_tests) in sym (ap (λ b. cond b (Some (n, rest)) None) t) ∙ sym (ap (count_in (suc deep)) front)

  pub no_count : (deep : ℕ) → (0 < deep → n ≤ 8 → ⊥) → None ≡ count_in deep bs
  no_count zero out = refl
  no_count (suc deep) out =
      let many : n ≤ 8 → ⊥ = out (omega arith) in
      let t : leb n 8 ≡ false = grind (arith, nat_tests) in
      sym (ap (λ b. cond b (Some (n, rest)) None) t) ∙ sym (ap (count_in (suc deep)) front)

pub no_count_in_nothing : (deep : ℕ) → None ≡ count_in deep []
no_count_in_nothing zero = refl
no_count_in_nothing (suc deep) = refl

-- a set is its count and that many members
module _ (name : List ℕ) where
  set_of : (deep m : ℕ) (bs : List ℕ) → Reading Term
  set_of deep m bs = then (members_in (term_in deep) m bs) (λ ms. Some (set ms.0, ms.1))

  pub a_set : (deep n : ℕ) (bs rest : List ℕ) → Some (n, rest) ≡ count_in deep bs → any_judged name (members_in (term_in (deep - 1)) n rest) ≡ judged name (set_in deep bs)
  unfolding set_in set_of
  a_set zero n bs rest e = absurd (nothing_is_not_something (sym e))
  a_set (suc deep) n [] rest e = absurd (nothing_is_not_something (sym e))
  a_set (suc deep) n (m ∷ bs) rest e =
      let k : suc deep - 1 ≡ deep = omega arith in ap (λ d. any_judged name (members_in (term_in d) n rest)) k ∙ go (leb m 8) e
    where
      go : (few : Bool) → ◌≡◌ {A = Reading ℕ} (Some (n, rest)) (cond few (Some (m, bs)) None) → any_judged name (members_in (term_in deep) n rest) ≡ judged name (cond few (set_of deep m bs) None)
      go true e = ap (λ (p : ℕ × List ℕ). any_judged name (members_in (term_in deep) p.0 p.1)) (same_found e) ∙ set_judged name (members_in (term_in deep) m bs)
      go false e = absurd (nothing_is_not_something (sym e))

  pub no_set : (deep : ℕ) (bs : List ℕ) → None ≡ count_in deep bs → None ≡ judged name (set_in deep bs)
  unfolding set_in set_of
  no_set zero bs e = refl
  no_set (suc deep) [] e = refl
  no_set (suc deep) (m ∷ bs) e = go (leb m 8) e
    where
      go : (few : Bool) → ◌≡◌ {A = Reading ℕ} None (cond few (Some (m, bs)) None) → None ≡ judged name (cond few (set_of deep m bs) None)
      go true e = absurd (nothing_is_not_something e)
      go false e = refl

-- what was found so far, or else what is still to come
abbrev pub or_else : Bool → Reading Bool → Reading Bool
or_else found others = then others (λ p. Some (found || p.0, p.1))

or_nothing : (b : Bool) → (b || false) ≡ b
or_nothing true = refl
or_nothing false = refl

-- a row of one term covers what the term covers
pub row_of_one : (name : List ℕ) (reading : Reading Term) → any_judged name (then reading (λ first. Some (member first.0 none, first.1))) ≡ judged name reading
row_of_one name None = refl
row_of_one name (Some p) = ap (λ (b : Bool). Some (b, p.1)) (or_nothing (covered p.0 name))

-- some members are the first of them and the others
module _ (one : List ℕ → Reading Term) (name : List ℕ) where
  abbrev pub members_left : Bool → ℕ → List ℕ → Reading Bool
  members_left found n bs = or_else found (any_judged name (members_in one n bs))

  after_first : ℕ → Reading Term → Reading Members
  after_first n first = then first (λ f. then (members_in one n f.1) (λ others. Some (member f.0 others.0, others.1)))

  members_by_first : (n : ℕ) (bs : List ℕ) → 0 < n → members_in one n bs ≡ after_first (n - 1) (one bs)
  unfolding after_first
  members_by_first zero bs some = absurd (omega arith)
  members_by_first (suc n) bs some = let k : n ≡ suc n - 1 = omega arith in ap (λ m. after_first m (one bs)) k

  pub no_members_without_first : (found : Bool) (n : ℕ) (bs : List ℕ) → 0 < n → None ≡ judged name (one bs) → None ≡ members_left found n bs
  unfolding after_first
  no_members_without_first found n bs some e = ap (or_else found) (go (one bs) e ∙ sym (ap (any_judged name) (members_by_first n bs some)))
    where
      go : (first : Reading Term) → None ≡ judged name first → None ≡ any_judged name (after_first (n - 1) first)
      go None e = refl
      go (Some p) e = absurd (nothing_is_not_something e)

-- where the last member is a set, its members are what is left
module _ (name : List ℕ) (deep : ℕ) (bs inner : List ℕ) (front : bs ≡ 5 ∷ inner) where
  pub members_of_the_last : (found : Bool) (n count : ℕ) (members : List ℕ) → n ≡ 1 → Some (count, members) ≡ count_in deep inner → members_left (term_in (deep - 1)) name found count members ≡ members_left (term_in deep) name found n bs
  members_of_the_last found n count members last counted =
      ap (or_else found) (a_set name deep count inner members counted ∙ sym (row_of_one name (term_in deep (5 ∷ inner))))
      ∙ sym (ap₂ (members_left (term_in deep) name found) last front)

  pub no_members_of_the_last : (found : Bool) (n : ℕ) → n ≡ 1 → None ≡ count_in deep inner → None ≡ members_left (term_in deep) name found n bs
  no_members_of_the_last found n last none-counted =
      no_members_without_first (term_in deep) name found n bs (omega arith) (no_set name deep inner none-counted ∙ sym (ap (λ b. judged name (term_in deep b)) front))

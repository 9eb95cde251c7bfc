-- Lists and the places of their records.
use Rattle.std.proofs.Common.{◌≡◌, ℕ, suc, ◌+◌, ◌-◌, ◌<◌, ◌≤◌, Bool, false, cond, ltb, List, [], ◌∷◌, length, take, Some, None, Decides, Option, arith, rules, sym, ◌∙◌}
use Rattle.std.specs.List.{position, position_or_len, copy_within, remove}
use Rattle.std.proofs.lemmas.List.{take_all, drop_all, append-nil, same_lists, places}
use Rattle.std.proofs.lemmas.List.Quantifiers.{position-Some}
use Rattle.std.proofs.lemmas.List.Sums.{fails_before_first}
use Rattle.std.proofs.lemmas.Bool.{cases_lt, false≢true}
use Rattle.std.proofs.lemmas.Bool.Decides.{nat_tests}
use Rattle.tables.specs.Place.{FirstPlace}

-- the first n elements, of which the i-th is gone and each one after it has moved down by one
pub closed : {X : Type 0} (xs : List X) (n i : ℕ) → i < n → n ≤ length xs
    → take (n - 1) (copy_within xs (i + 1) n i) ≡ remove (take n xs) i
closed xs n i lt le =
    same_lists _ _ (search (rules, places)) (λ k d h. grind (arith, places, cases_lt k i))

-- where no place i is, nothing goes
pub nothing_to_remove : {X : Type 0} (xs : List X) (i : ℕ) → length xs ≤ i → remove xs i ≡ xs
nothing_to_remove xs i h = simp (take_all i xs h, drop_all (suc i) xs (omega arith), append-nil)

-- where a search finds nothing, it passed the whole list over
nowhere : (a n : ℕ) → cond (ltb a n) (Some a) None ≡ None → n ≤ a
nowhere a n e = grind (arith, nat_tests)

-- a search by a test that decides P answers the first place of which P holds
module _ {X : Type 0} (test : X → Bool) (P : X → Type 0) (decides : (x : X) → Decides (test x) (P x)) where
  fails : (x : X) → test x ≡ false → P x → ⊥
  fails x f p = false≢true (sym f ∙ (decides x).1 p)

  pub FirstPlace-position : (xs : List X) (o : Option ℕ) → position test xs ≡ o → FirstPlace P xs o
  unfolding FirstPlace
  FirstPlace-position [] None e = λ j s. absurd (omega (arith, s.0))
  FirstPlace-position [] (Some i) e = cc
  FirstPlace-position (x ∷ xs) None e =
      let past = nowhere (position_or_len test (x ∷ xs)) (length (x ∷ xs)) e in
      λ j s. fails _ (fails_before_first test (x ∷ xs) j x (omega (arith, s.0))) (s.1 x)
  FirstPlace-position (x ∷ xs) (Some i) e =
      let found = λ (d : X). position-Some test (x ∷ xs) i d e in (
        ((found x).0, λ d. (decides _).0 (found d).1),
        λ j before s. fails _ ((found x).2 j before) (s.1 x),
      )

-- Walks along a list of records.
use Rattle.std.proofs.Common.{◌≡◌, ℕ, zero, suc, ◌+◌, ◌<◌, Bool, ◌&&◌, ◌||◌, List, [], ◌∷◌, length, get_or, take, set, ◌++◌, reverse, inl, inr, ◌-◌, sym, refl, ap, ◌∙◌, add-one, arith}
use Rattle.std.specs.List.{list_any, zip}
use Rattle.std.proofs.lemmas.Bool.{cases_lt}
use Rattle.std.proofs.lemmas.List.{places, get_or-reverse}
use Rattle.std.proofs.lemmas.List.Recursion.{same_from_clauses}
use Rattle.records.specs.declared.types.Certificate.{Certificate}
use Rattle.machine.specs.Lists.{Member, any_of}
use Rattle.delegation.specs.declared.types.Mark.{Mark}
use Rattle.delegation.specs.Marks.{leads, marked, any_leading}

pub list_any_is : {X : Type 0} (test : X → Bool) (xs : List X) → list_any test xs ≡ any_of test xs
list_any_is test xs = same_from_clauses (list_any test) (any_of test) (λ x b. test x || b) refl (λ x xs. refl) (λ x xs. refl) xs

-- the certificates and the marks as pairs
pub any_leading_zip : (test : Certificate → Bool) (cs : List Certificate) (ms : List Mark) → list_any (λ (p : Certificate × Mark). leads p.1 && test p.0) (zip cs ms) ≡ any_leading test cs ms
any_leading_zip test [] ms = refl
any_leading_zip test (c ∷ cs) [] = refl
any_leading_zip test (c ∷ cs) (m ∷ ms) = ap (λ b. (leads m && test c) || b) (any_leading_zip test cs ms)

pub member_at : {X : Type 0} (xs : List X) (i : ℕ) (d : X) → i < length xs → Member (get_or xs i d) xs
member_at [] i d h = absurd (omega (arith, h))
member_at (x ∷ xs) zero d h = inl refl
member_at (x ∷ xs) (suc i) d h = inr (member_at xs i d (omega (arith, h)))

-- a record that a walk along the list and back comes to
pub member_there_and_back : {X : Type 0} (xs : List X) (i : ℕ) (x : X) → i < length (reverse xs ++ xs) → x ≡ get_or (reverse xs ++ xs) i x → Member x xs
member_there_and_back xs i x h is = elim (cases_lt i (length xs)) [
  | inl l ↦
      let at : get_or (reverse xs ++ xs) i x ≡ get_or xs (length xs - 1 - i) x = grind (arith, places, get_or-reverse) in
      rw (is, at) (member_at xs (length xs - 1 - i) x (omega arith))
  | inr l ↦
      let at : get_or (reverse xs ++ xs) i x ≡ get_or xs (i - length xs) x = grind (arith, places) in
      rw (is, at) (member_at xs (i - length xs) x (grind (arith, places)))
]

-- one more look
look_at : (look : Certificate → Mark → Mark) (cs : List Certificate) (ms : List Mark) (i : ℕ) (c : Certificate) (m : Mark) → i < length cs → i < length ms → marked look (take (suc i) cs) ms ≡ set (marked look (take i cs) ms) i (look (get_or cs i c) (get_or (marked look (take i cs) ms) i m))
look_at look [] ms i c m h k = absurd (omega (arith, h))
look_at look (d ∷ cs) [] i c m h k = absurd (omega (arith, k))
look_at look (d ∷ cs) (n ∷ ms) zero c m h k = refl
look_at look (d ∷ cs) (n ∷ ms) (suc i) c m h k = ap (λ z. look d n ∷ z) (look_at look cs ms i c m (omega (arith, h)) (omega (arith, k)))

pub look_more : (look : Certificate → Mark → Mark) (cs : List Certificate) (ms ns : List Mark) (i : ℕ) (c : Certificate) (m r : Mark) → i < length cs → i < length ms → ns ≡ marked look (take i cs) ms → r ≡ look (get_or cs i c) (get_or ns i m) → set ns i r ≡ marked look (take (i + 1) cs) ms
look_more look cs ms ns i c m r h k e is =
    ap (set ns i) is
    ∙ ap (λ z. set z i (look (get_or cs i c) (get_or z i m))) e
    ∙ rw add-one (sym (look_at look cs ms i c m h k))

pub length_marked : (look : Certificate → Mark → Mark) (cs : List Certificate) (ms : List Mark) → length (marked look cs ms) ≡ length ms
length_marked look [] ms = refl
length_marked look (c ∷ cs) [] = refl
length_marked look (c ∷ cs) (m ∷ ms) = ap suc (length_marked look cs ms)

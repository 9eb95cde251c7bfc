-- What stands in a list, and what appending, removing and testing do to it.
use Rattle.std.proofs.Common.{◌≡◌, ◌+◌, ◌≤◌, Bool, true, false, cond, ◌⊎◌, List, [], ◌∷◌, ◌++◌, length, Decides, sym, refl, ap, ◌∙◌, subst, inl, inr, arith}
use Rattle.std.proofs.lemmas.Bool.{true≢false, false≢true, or_cases, or_left, or_right}
use Rattle.machine.specs.Lists.{Member, Distinct, any_of, all_of, without}

-- ## Appending

pub member_appended : {X : Type 0} (x y : X) (xs : List X) → Member x (xs ++ y ∷ []) → (x ≡ y) ⊎ Member x xs
member_appended x y [] (inl e) = inl e
member_appended x y [] (inr m) = elim m [ ]
member_appended x y (z ∷ zs) (inl e) = inr (inl e)
member_appended x y (z ∷ zs) (inr m) = elim (member_appended x y zs m) [ inl e ↦ inl e | inr k ↦ inr (inr k) ]

pub appended_member : {X : Type 0} (x y : X) (xs : List X) → (x ≡ y) ⊎ Member x xs → Member x (xs ++ y ∷ [])
appended_member x y [] (inl e) = inl e
appended_member x y [] (inr m) = elim m [ ]
appended_member x y (z ∷ zs) (inl e) = inr (appended_member x y zs (inl e))
appended_member x y (z ∷ zs) (inr (inl e)) = inl e
appended_member x y (z ∷ zs) (inr (inr m)) = inr (appended_member x y zs (inr m))

pub distinct_appended : {X : Type 0} (y : X) (xs : List X) → Distinct xs → (Member y xs → ⊥) → Distinct (xs ++ y ∷ [])
distinct_appended y [] d n = (λ m. m, tt)
distinct_appended y (z ∷ zs) d n =
    (λ m. elim (member_appended z y zs m) [ inl e ↦ n (inl (sym e)) | inr k ↦ d.0 k ], distinct_appended y zs d.1 (λ m. n (inr m)))

-- ## Tests

pub decided_true : {P : Type 0} (b : Bool) → Decides b P → P → b ≡ true
decided_true b d p = d.1 p

pub decided_false : {P : Type 0} (b : Bool) → Decides b P → (P → ⊥) → b ≡ false
decided_false true d n = absurd (n (d.0 refl))
decided_false false d n = refl

pub decided_not : {P : Type 0} (b : Bool) → Decides b P → b ≡ false → P → ⊥
decided_not b d e p = true≢false (sym (d.1 p) ∙ e)

pub decided_cases : {P : Type 0} (b : Bool) → Decides b P → P ⊎ (P → ⊥)
decided_cases true d = inl (d.0 refl)
decided_cases false d = inr (λ p. true≢false (sym (d.1 p)))

-- some record passes
pub any_passes : {X : Type 0} (test : X → Bool) (xs : List X) → any_of test xs ≡ true → (x : X) × Member x xs × (test x ≡ true)
any_passes test [] e = absurd (false≢true e)
any_passes test (x ∷ xs) e = elim (or_cases (test x) (any_of test xs) e) [
  | inl h ↦ (x, inl refl, h)
  | inr h ↦ let r = any_passes test xs h in (r.0, inr r.1, r.2)
]

pub passes_any : {X : Type 0} (test : X → Bool) (xs : List X) (x : X) → Member x xs → test x ≡ true → any_of test xs ≡ true
passes_any test [] x m h = elim m [ ]
passes_any test (y ∷ ys) x (inl e) h = or_left (test y) (any_of test ys) (ap test (sym e) ∙ h)
passes_any test (y ∷ ys) x (inr m) h = or_right (test y) (any_of test ys) (passes_any test ys x m h)

-- the records that pass
pub all_passing : {X : Type 0} (test : X → Bool) (xs : List X) (x : X) → Member x (all_of test xs) → Member x xs × (test x ≡ true)
all_passing test [] x m = elim m [ ]
all_passing test (y ∷ ys) x m = go (test y) refl (all_passing test ys x) m
  where
    go : (b : Bool) → test y ≡ b → (Member x (all_of test ys) → Member x ys × (test x ≡ true)) → Member x (cond b (y ∷ all_of test ys) (all_of test ys)) → Member x (y ∷ ys) × (test x ≡ true)
    go true e ih (inl h) = (inl h, ap test h ∙ e)
    go true e ih (inr m) = let r = ih m in (inr r.0, r.1)
    go false e ih m = let r = ih m in (inr r.0, r.1)

pub passing_all : {X : Type 0} (test : X → Bool) (xs : List X) (x : X) → Member x xs → test x ≡ true → Member x (all_of test xs)
passing_all test [] x m h = elim m [ ]
passing_all test (y ∷ ys) x m h = go (test y) refl (λ k. passing_all test ys x k h) m
  where
    go : (b : Bool) → test y ≡ b → (Member x ys → Member x (all_of test ys)) → Member x (y ∷ ys) → Member x (cond b (y ∷ all_of test ys) (all_of test ys))
    go true e ih (inl q) = inl q
    go true e ih (inr k) = inr (ih k)
    go false e ih (inl q) = absurd (true≢false (sym h ∙ (ap test q ∙ e)))
    go false e ih (inr k) = ih k

-- ## Removing

pub without_member : {X : Type 0} (test : X → Bool) (xs : List X) (x : X) → Member x (without test xs) → Member x xs
without_member test [] x m = m
without_member test (y ∷ ys) x m = go (test y) (without_member test ys x) m
  where
    go : (b : Bool) → (Member x (without test ys) → Member x ys) → Member x (cond b ys (y ∷ without test ys)) → Member x (y ∷ ys)
    go true ih m = inr m
    go false ih (inl e) = inl e
    go false ih (inr m) = inr (ih m)

pub member_without : {X : Type 0} (test : X → Bool) (xs : List X) (x : X) → Member x xs → test x ≡ false → Member x (without test xs)
member_without test [] x m h = m
member_without test (y ∷ ys) x m h = go (test y) refl (λ k. member_without test ys x k h) m
  where
    go : (b : Bool) → test y ≡ b → (Member x ys → Member x (without test ys)) → Member x (y ∷ ys) → Member x (cond b ys (y ∷ without test ys))
    go true e ih (inl q) = absurd (true≢false (sym e ∙ (ap test (sym q) ∙ h)))
    go true e ih (inr k) = k
    go false e ih (inl q) = inl q
    go false e ih (inr k) = inr (ih k)

pub distinct_without : {X : Type 0} (test : X → Bool) (xs : List X) → Distinct xs → Distinct (without test xs)
distinct_without test [] d = tt
distinct_without test (y ∷ ys) d = go (test y) (distinct_without test ys d.1)
  where
    go : (b : Bool) → Distinct (without test ys) → Distinct (cond b ys (y ∷ without test ys))
    go true ih = d.1
    go false ih = (λ m. d.0 (without_member test ys y m), ih)

-- the record that the test names is gone
pub without_gone : {X : Type 0} (test : X → Bool) (z : X) → ((x : X) → test x ≡ true → x ≡ z) → (xs : List X) → Distinct xs → test z ≡ true → Member z (without test xs) → ⊥
without_gone test z only [] d t m = m
without_gone test z only (y ∷ ys) d t m = go (test y) refl (without_gone test z only ys d.1 t) m
  where
    go : (b : Bool) → test y ≡ b → (Member z (without test ys) → ⊥) → Member z (cond b ys (y ∷ without test ys)) → ⊥
    go true e ih m = d.0 (subst (λ q. Member q ys) (sym (only y e)) m)
    go false e ih (inl q) = true≢false (sym t ∙ (ap test q ∙ e))
    go false e ih (inr m) = ih m

pub length_without : {X : Type 0} (test : X → Bool) (xs : List X) → any_of test xs ≡ true → length (without test xs) + 1 ≡ length xs
length_without test [] e = absurd (false≢true e)
length_without test (y ∷ ys) e = go (test y) refl (length_without test ys) (or_cases (test y) (any_of test ys) e)
  where
    go : (b : Bool) → test y ≡ b → (any_of test ys ≡ true → length (without test ys) + 1 ≡ length ys) → (test y ≡ true) ⊎ (any_of test ys ≡ true) → length (cond b ys (y ∷ without test ys)) + 1 ≡ length (y ∷ ys)
    go true q ih c = omega arith
    go false q ih (inl h) = absurd (true≢false (sym h ∙ q))
    go false q ih (inr h) = let r = ih h in omega arith

pub member_some : {X : Type 0} (x : X) (xs : List X) → Member x xs → 1 ≤ length xs
member_some x [] m = elim m [ ]
member_some x (y ∷ ys) m = omega arith

pub no_member : {X : Type 0} (x : X) (xs : List X) → length xs ≡ 0 → Member x xs → ⊥
no_member x xs e m = let l = member_some x xs m in omega arith

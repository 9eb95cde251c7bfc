-- A table and the record of answers agree on what is in force, through every change.
use Rattle.std.proofs.Common.{◌≡◌, Bool, true, false, ◌⊎◌, List, [], ◌∷◌, ◌++◌, sym, refl, subst, inl, inr}
use Rattle.machine.specs.Lists.{Member, Distinct, without}
use Rattle.machine.specs.History.{Change, Change.nothing, Change.adds, Change.removes, Change.empties, StillInForce}
use Rattle.machine.proofs.Members.{member_appended, appended_member, distinct_appended, without_member, member_without, distinct_without, without_gone}

-- the list holds each record once, and exactly those of which P holds
pub record Agree {X : Type 0} (xs : List X) (P : X → Type 0) : Type 0 where
  pub distinct : Distinct xs
  pub only : (x : X) → Member x xs → P x
  pub all : (x : X) → P x → Member x xs

-- a test that only one record passes
pub record Names {X : Type 0} (test : X → Bool) (y : X) : Type 0 where
  pub only : (x : X) → test x ≡ true → x ≡ y
  pub passes : test y ≡ true

-- what a change makes of a table
abbrev pub Applies : {X : Type 0} → Change X → List X → List X → Type 0
Applies nothing xs ys = ys ≡ xs
Applies (adds y) xs ys = (ys ≡ xs ++ y ∷ []) × (Member y xs → ⊥)
Applies {X} (removes y) xs ys = (test : X → Bool) × Names test y × (ys ≡ without test xs)
Applies empties xs ys = ys ≡ []

-- no record is in force at the making, nor after a reset
pub agree_none : {X : Type 0} → Agree {X = X} [] (λ x. ⊥)
agree_none = record { distinct = tt; only = λ x m. m; all = λ x m. m }

agree_added : {X : Type 0} (y : X) (xs : List X) (P : X → Type 0) → Agree xs P → (Member y xs → ⊥) → Agree (xs ++ y ∷ []) (λ x. (x ≡ y) ⊎ P x)
agree_added y xs P a n = record {
  distinct = distinct_appended y xs a.distinct n;
  only = λ x m. elim (member_appended x y xs m) [ inl e ↦ inl e | inr k ↦ inr (a.only x k) ];
  all = λ x p. appended_member x y xs (elim p [ inl e ↦ inl e | inr k ↦ inr (a.all x k) ]);
}

not_passing : {X : Type 0} (test : X → Bool) (y x : X) → Names test y → (x ≡ y → ⊥) → (b : Bool) → test x ≡ b → test x ≡ false
not_passing test y x t n true e = absurd (n (t.only x e))
not_passing test y x t n false e = e

agree_removed : {X : Type 0} (test : X → Bool) (y : X) → Names test y → (xs : List X) (P : X → Type 0) → Agree xs P → Agree (without test xs) (λ x. (x ≡ y → ⊥) × P x)
agree_removed test y t xs P a = record {
  distinct = distinct_without test xs a.distinct;
  only = λ x m. (λ e. without_gone test y t.only xs a.distinct t.passes (subst (λ z. Member z (without test xs)) e m), a.only x (without_member test xs x m));
  all = λ x p. member_without test xs x (a.all x p.1) (not_passing test y x t p.0 (test x) refl);
}

pub agree_changed : {X : Type 0} (c : Change X) (xs ys : List X) (P : X → Type 0) → Agree xs P → Applies c xs ys → Agree ys (λ x. StillInForce c x (P x))
agree_changed nothing xs ys P a e = subst (λ z. Agree z P) (sym e) a
agree_changed (adds y) xs ys P a e = subst (λ z. Agree z (λ x. (x ≡ y) ⊎ P x)) (sym e.0) (agree_added y xs P a e.1)
agree_changed (removes y) xs ys P a e = subst (λ z. Agree z (λ x. (x ≡ y → ⊥) × P x)) (sym e.2) (agree_removed e.0 y e.1 xs P a)
agree_changed empties xs ys P a e = subst (λ z. Agree z (λ x. ⊥)) (sym e) agree_none

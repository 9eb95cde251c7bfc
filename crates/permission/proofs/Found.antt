-- A reading that found something found each of its parts.
use Rattle.std.proofs.Common.{◌≡◌, ℕ, Bool, true, false, cond, Some, None, Option, refl, arith}
use Rattle.permission.specs.Reading.{then}

pub nothing_is_not_something : {X : Type 0} {x : X} → None ≡ Some x → ⊥
nothing_is_not_something e = let z : ◌≡◌ {A = ℕ} 0 1 = cc in omega arith

pub same_found : {X : Type 0} {x y : X} → Some x ≡ Some y → x ≡ y
same_found e = cc

pub then_found : {X Y : Type 0} (first : Option X) (next : X → Option Y) (y : Y) → then first next ≡ Some y → (x : X) × (first ≡ Some x) × (next x ≡ Some y)
then_found None next y e = absurd (nothing_is_not_something e)
then_found (Some x) next y e = (x, refl, e)

pub test_held : {X : Type 0} (test : Bool) (found : Option X) (x : X) → cond test found None ≡ Some x → (test ≡ true) × (found ≡ Some x)
test_held true found x e = (refl, e)
test_held false found x e = absurd (nothing_is_not_something e)

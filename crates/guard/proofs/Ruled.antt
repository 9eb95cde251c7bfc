-- What the two rules of every table answer and leave.
use Rattle.std.proofs.Common.{◌≡◌, Bool, true, false, List, Ok, Err, sym, ap, ◌∙◌}
use Rattle.refusal.specs.declared.Refusal.TheVariants.{NotListed}
use Rattle.std.specs.List.{position, remove}
use Rattle.std.specs.Option.{option_map_or}
use Rattle.machine.specs.Lists.{without}
use Rattle.machine.specs.Machine.{accepted, passing}
use Rattle.guard.proofs.Finding.{removed_is_without}

pub not_there : (listed : Bool) → listed ≡ false → Err NotListed ≡ passing listed NotListed accepted
not_there listed e = sym (ap (λ z. passing z NotListed accepted) e)

pub there : (listed : Bool) → true ≡ listed → Ok tt ≡ passing listed NotListed accepted
there listed e = ap (λ z. passing z NotListed accepted) e

pub removed_after : {X : Type 0} (test : X → Bool) (xs ys : List X) → ys ≡ option_map_or (remove xs) (position test xs) xs → ys ≡ without test xs
removed_after test xs ys e = e ∙ removed_is_without test xs

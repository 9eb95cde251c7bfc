-- The tests of a scope decide whether it is well formed.
use Rattle.std.specs.Prelude.{◌≡◌, ℕ, ◌≤◌, List, Decides, nat_eq, nat_le, refl}
use Rattle.std.specs.List.{AllByRecursion}
use Rattle.std.proofs.lemmas.Bool.{leb-true, le-leb}
use Rattle.std.proofs.lemmas.Bool.Decides.{Decides-and, Decides-like, Decides-eqb}
use Rattle.std.proofs.ByRecursion.{Decides-by_and}
use Rattle.permission.proofs.Laws.{well_formed_decides}
use Rattle.records.specs.declared.types.Scope.{Scope}
use Rattle.records.specs.Records.{all_zero, sound_scope, term_bytes, filling}
use Rattle.records.specs.Inverse.{WellFormedScope}

pub decides_leb : (a b : ℕ) → Decides (nat_le a b) (a ≤ b)
decides_leb a b = (leb-true a b, le-leb a b)

all_zero_decides : (bytes : List ℕ) → Decides (all_zero bytes) (AllByRecursion (λ b. b ≡ 0) bytes)
all_zero_decides = Decides-by_and (λ b. nat_eq b 0) (λ b. b ≡ 0) all_zero (λ b. Decides-eqb b 0) refl (λ _ _. refl)

pub sound_scope_decides : (s : Scope) → Decides (sound_scope s) (WellFormedScope s)
sound_scope_decides s =
    Decides-like (sound_scope s)
    (λ h. record { window = h.0.0.0; term_within = h.0.0.1; term = h.0.1; filled_with_zeros = h.1 })
    (λ w. (((w.window, w.term_within), w.term), w.filled_with_zeros))
    (Decides-and _ _ (Decides-and _ _ (Decides-and _ _ (decides_leb s.not_before s.not_after) (decides_leb s.term_length 48)) (well_formed_decides (term_bytes s))) (all_zero_decides (filling s)))

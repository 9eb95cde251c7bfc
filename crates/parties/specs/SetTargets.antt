-- What the sizes of a SetTarget are.
use Rattle.std.specs.Prelude.{◌≡◌, ℕ, ◌≤◌, true, ◌&&◌, length, codes, ◌==◌, nat_lt, slice_index, refl}
use Rattle.std.proofs.Common.{sym, ap, subst}
use Rattle.std.specs.Str.{bytes_eq}
use Rattle.std.proofs.lemmas.Slice.Eq.{bytes_eq-Decides}
use Rattle.std.proofs.lemmas.Bool.{eqb-true, leb-true, and_parts}
use Rattle.parties.specs.Commands.{Command, WellSized}
use Rattle.parties.specs.Relays.{is_set_target}

pub target_is_well_sized : (c : Command) → is_set_target c.name c.payload ≡ true → WellSized c
unfolding is_set_target
target_is_well_sized c e =
    let parts = and_parts (bytes_eq c.name (codes "SetTarget")) _ e in
    let sized = and_parts (length c.payload == 2) (nat_lt (slice_index c.payload 0) 8 && nat_lt (slice_index c.payload 1) 2) parts.1 in
    let named : length c.name ≡ 9 = ap length ((bytes_eq-Decides c.name (codes "SetTarget")).0 parts.0) in
    let two : length c.payload ≡ 2 = eqb-true (length c.payload) 2 sized.0 in
    record {
      named = subst (λ (n : ℕ). 1 ≤ n) (sym named) (leb-true 1 9 refl);
      short_name = subst (λ (n : ℕ). n ≤ 16) (sym named) (leb-true 9 16 refl);
      short_payload = subst (λ (n : ℕ). n ≤ 512) (sym two) (leb-true 2 512 refl);
    }

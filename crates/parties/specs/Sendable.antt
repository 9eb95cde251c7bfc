-- What the sizes of a command that can be sent are.
use Rattle.std.specs.Prelude.{◌≡◌, ℕ, ◌≤◌, true, ◌&&◌, List, length, nat_le, refl}
use Rattle.std.proofs.Math.Nat.{le_trans}
use Rattle.std.proofs.lemmas.Bool.{leb-true, and_parts}
use Rattle.parties.specs.Commands.{Command, WellSized}
use Rattle.parties.specs.Waiting.{is_sendable}

module _ (name payload : List ℕ) where
  pub sendable_fits : is_sendable name payload ≡ true → (1 ≤ length name) × (length name ≤ 16) × (length payload ≤ 16)
  unfolding is_sendable
  sendable_fits e =
      let parts = and_parts (nat_le 1 (length name) && nat_le (length name) 16) (nat_le (length payload) 16) e in
      let sizes = and_parts (nat_le 1 (length name)) (nat_le (length name) 16) parts.0 in
      (leb-true 1 (length name) sizes.0, leb-true (length name) 16 sizes.1, leb-true (length payload) 16 parts.1)

pub sendable_is_well_sized : (c : Command) → is_sendable c.name c.payload ≡ true → WellSized c
sendable_is_well_sized c e =
    let sizes = sendable_fits c.name c.payload e in
    record { named = sizes.0; short_name = sizes.1; short_payload = le_trans sizes.2 (leb-true 16 512 refl) }

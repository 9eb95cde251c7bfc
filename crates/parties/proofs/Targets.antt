-- Which commands are a SetTarget.
use Rattle.std.specs.Prelude.{◌≡◌, ℕ, Bool, true, false, ◌&&◌, List, [], ◌∷◌, length, codes, Decides, ◌==◌, ◌≢◌, nat_lt, slice_index, refl}
use Rattle.std.proofs.Math.Path.{ap}
use Rattle.std.proofs.Common.{◌∙◌, arith}
use Rattle.std.specs.Str.{bytes_eq}
use Rattle.std.proofs.lemmas.Slice.Eq.{bytes_eq-Decides}
use Rattle.std.proofs.lemmas.Bool.{ne_eqb, eq-eqb, eqb-true, ltb-true, and_parts, and_left, and_right}
use Rattle.std.proofs.lemmas.Bool.Decides.{same_from_decides}
use Rattle.parties.specs.Relays.{is_set_target, Requested}

two_bytes : (xs : List ℕ) → length xs ≡ 2 → xs ≡ (slice_index xs 0 ∷ slice_index xs 1 ∷ [])
two_bytes [] e = absurd (omega arith)
two_bytes (a ∷ []) e = absurd (omega arith)
two_bytes (a ∷ b ∷ []) e = refl
two_bytes (a ∷ b ∷ c ∷ xs) e = absurd (omega arith)

regrouped : (a b c : Bool) → (a && (true && (b && c))) ≡ ((a && b) && c)
regrouped false b c = refl
regrouped true b c = refl

module _ (name payload : List ℕ) where
  pub other_payload_is_no_target : (length payload ≢ 2) → is_set_target name payload ≡ false
  unfolding is_set_target
  other_payload_is_no_target other = and_right _ _ (and_left _ _ (ne_eqb (length payload) 2 other))

  pub target_is_tested : (named : Bool) → Decides named (name ≡ codes "SetTarget") → length payload ≡ 2 → is_set_target name payload ≡ ((named && nat_lt (slice_index payload 0) 8) && nat_lt (slice_index payload 1) 2)
  unfolding is_set_target
  target_is_tested named d two =
      ap (λ b. b && (length payload == 2 && (nat_lt (slice_index payload 0) 8 && nat_lt (slice_index payload 1) 2))) (same_from_decides (bytes_eq name (codes "SetTarget")) named (bytes_eq-Decides name (codes "SetTarget")) d)
      ∙ ap (λ b. named && (b && (nat_lt (slice_index payload 0) 8 && nat_lt (slice_index payload 1) 2))) (eq-eqb (length payload) 2 two)
      ∙ regrouped named (nat_lt (slice_index payload 0) 8) (nat_lt (slice_index payload 1) 2)

  pub target_is_requested : is_set_target name payload ≡ true → Requested name payload (slice_index payload 0 ∷ slice_index payload 1 ∷ [])
  unfolding is_set_target
  target_is_requested e =
      let parts = and_parts (bytes_eq name (codes "SetTarget")) _ e in
      let sized = and_parts (length payload == 2) _ parts.1 in
      let states = and_parts (nat_lt (slice_index payload 0) 8) _ sized.1 in
      record {
        name_is = (bytes_eq-Decides name (codes "SetTarget")).0 parts.0;
        payload_is = two_bytes payload (eqb-true (length payload) 2 sized.0);
        relay = ltb-true (slice_index payload 0) 8 states.0;
      }

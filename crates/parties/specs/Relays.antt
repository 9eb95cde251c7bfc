-- The relay panel: eight relays, and the command that sets one.
use Rattle.std.specs.Prelude.{◌≡◌, ℕ, ◌<◌, Bool, ◌&&◌, List, length, codes, Option, ◌==◌, nat_lt, slice_index, slice_index_or, slice_set}
use Rattle.std.specs.Option.{option_map}
use Rattle.std.specs.Str.{bytes_eq}
use Rattle.parties.specs.declared.relay_panel.RelayPanel.{RelayPanel}
use Rattle.parties.specs.Commands.{Command, command, limit}

-- SetTarget with two bytes of payload: a relay, 0 to 7, and its state, 0 or 1.
unfoldable pub is_set_target : List ℕ → List ℕ → Bool
is_set_target name payload = bytes_eq name (codes "SetTarget") && (length payload == 2 && (nat_lt (slice_index payload 0) 8 && nat_lt (slice_index payload 1) 2))

abbrev pub panel_verdict : RelayPanel → Command → Bool
panel_verdict p c = nat_lt p.log.done limit && is_set_target c.name c.payload

abbrev pub panel_last : RelayPanel → Option Command
panel_last p = option_map (λ t. command (codes "SetTarget") t.payload t.clock) p.log.last

-- The relays after SetTarget: the one that it names has the state that it names, and no other has changed.
abbrev pub switched : List Bool → List ℕ → List Bool
switched relays payload = slice_set relays (slice_index payload 0) (slice_index payload 1 == 1)

-- t holds the payload of a SetTarget.
pub record Requested (name payload t : List ℕ) : Type 0 where
  pub name_is : name ≡ codes "SetTarget"
  pub payload_is : payload ≡ t
  pub relay : slice_index_or t 0 0 < 8

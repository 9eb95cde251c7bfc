use Rattle.std.proofs.Common.{◌≡◌, ◌++◌, length, vec_items}
use Rattle.std.specs.Option.{option_map}
use Rattle.hexadecimal.specs.Hex.{hex_bytes}
use Rattle.hexadecimal.proofs.decode.Given as goal

abbrev pub invariant-loop-high : goal.invariant-loop-high
invariant-loop-high l = hex_bytes l.fn.hex ≡ option_map (λ bytes. vec_items l.out ++ bytes) (hex_bytes l.rest)

abbrev pub decreases-loop-high : goal.decreases-loop-high
decreases-loop-high l = length l.rest

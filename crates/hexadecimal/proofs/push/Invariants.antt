use Rattle.std.proofs.Common.{◌≡◌, ◌++◌, take, vec_items}
use Rattle.hexadecimal.specs.Hex.{hex_text}
use Rattle.hexadecimal.proofs.push.Given as goal

abbrev pub invariant-loop-b : goal.invariant-loop-b
invariant-loop-b l = vec_items l.out ≡ vec_items l.initial.out ++ hex_text (take l.b-index l.bytes)

use Rattle.std.proofs.Common.{◌≡◌, ◌++◌, drop, vec_items}
use Rattle.account.specs.Repeats.{repeats_after, repeats}
use Rattle.account.proofs.repeats_in.Given as goal

abbrev pub invariant-loop-hash : goal.invariant-loop-hash
invariant-loop-hash l = vec_items l.out ++ repeats_after l.current l.listed (drop l.hash-index l.rest) ≡ repeats l.sorted

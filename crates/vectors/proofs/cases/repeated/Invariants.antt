use Rattle.sha1_hmac.specs.Stream.{Absorbed}
use Rattle.vectors.specs.Copies.{copies}
use Rattle.vectors.proofs.cases.repeated.Given as goal

abbrev pub invariant-loop-i : goal.invariant-loop-i
invariant-loop-i l = Absorbed l.state (copies l._i l.text)

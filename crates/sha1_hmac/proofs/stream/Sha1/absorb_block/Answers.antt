use Rattle.std.proofs.Common.{◌≡◌, ◌+◌, ◌%◌, length, ap, arith}
use Rattle.sha1_hmac.proofs.Absorbing.{absorbed_full}
use Rattle.sha1_hmac.proofs.stream.Sha1.absorb_block.Goals as goal

pub returns-clause-absorbs : goal.returns-clause-absorbs
returns-clause-absorbs c = λ m a.
    let t = a.total in
    let h : length m % 64 ≡ 0 = omega arith in
    absorbed_full c.args.self.now _ m c.args.block.now a c.args.block.now (omega arith) (rw h) c.work_in.ensures (ap (λ n. (c.args.self.now.total + n) % 18446744073709551616) (omega arith))

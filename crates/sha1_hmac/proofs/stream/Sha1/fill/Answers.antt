use Rattle.std.proofs.Common.{◌≡◌, ◌%◌, length, refl, arith, rules}
use Rattle.std.proofs.lemmas.Slice.{overwrites}
use Rattle.sha1_hmac.proofs.Absorbing.{absorbed_below, absorbed_full}
use Rattle.sha1_hmac.proofs.stream.Sha1.fill.Goals as goal

pub returns-then-end-eq-BLOCK-clause-absorbs : goal.returns-then-end-eq-BLOCK-clause-absorbs
returns-then-end-eq-BLOCK-clause-absorbs c = λ m a.
    let t = a.total in
    let h : c.held-held.result ≡ length m % 64 = omega arith in
    absorbed_full c.args.self.now _ m c.args.part.now a _ (omega arith) (rw (← h) (search (rules, overwrites))) c.work_in.ensures refl

pub returns-else-end-eq-BLOCK-clause-absorbs : goal.returns-else-end-eq-BLOCK-clause-absorbs
returns-else-end-eq-BLOCK-clause-absorbs c = λ m a.
    let t = a.total in
    let h : c.held-held.result ≡ length m % 64 = omega arith in
    absorbed_below c.args.self.now _ m c.args.part.now a (omega arith) refl (rw (← h) (search (rules, overwrites))) refl

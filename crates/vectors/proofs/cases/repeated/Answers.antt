use Rattle.std.proofs.Common.{◌≡◌, sym, ap, ◌∙◌, subst, add-one, arith}
use Rattle.sha1_hmac.specs.Message.{digest}
use Rattle.sha1_hmac.specs.Stream.{Absorbed}
use Rattle.vectors.specs.Copies.{copies}
use Rattle.vectors.proofs.cases.repeated.Goals as goal

pub loop-i-preserved : goal.loop-i-preserved
loop-i-preserved c =
    subst (λ n. Absorbed c.update.new.self (copies n c.args.text.now)) (sym (add-one c.loop-i._i)) (c.update.ensures.absorbs _ c.loop-i.invariant)

pub returns : goal.returns
returns c =
    let all : c.loop-i._i ≡ c.args.count = omega arith in
    c.finish.ensures.digests _ c.loop-i.invariant ∙ ap (λ n. digest (copies n c.args.text.now)) all

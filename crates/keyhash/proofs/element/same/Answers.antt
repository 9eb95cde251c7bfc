use Rattle.std.proofs.Common.{true, ◌&&◌, eqb, arith, rules, tests}
use Rattle.std.proofs.lemmas.Iterator.{YieldsList-from_slice, YieldsList-from_zip}
use Rattle.std.proofs.lemmas.Iterator.Consumers.{fold_from_yields_List}
use Rattle.keyhash.proofs.Elements.{same_decides}
use Rattle.keyhash.proofs.element.same.Goals as goal

pub returns : goal.returns
returns g c =
    same_decides c.args.a.now c.args.b.now c.fold.result (omega arith)
    (fold_from_yields_List _ (λ all p. all && eqb p.0 p.1) true c.fold.result c.fold.ensures.ran (YieldsList-from_zip (YieldsList-from_slice c.args.a.now cc) (YieldsList-from_slice c.args.b.now cc)) (λ all x b q k. search (rules, tests)))

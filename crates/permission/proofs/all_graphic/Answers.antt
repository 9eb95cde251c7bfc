use Rattle.std.proofs.Common.{true, ◌&&◌, rules, tests}
use Rattle.std.proofs.lemmas.Iterator.{YieldsList-from_slice}
use Rattle.std.proofs.lemmas.Iterator.Consumers.{fold_from_yields_List}
use Rattle.permission.specs.Reading.{graphic}
use Rattle.permission.proofs.Names.{all_graphic_in_turn}
use Rattle.permission.proofs.all_graphic.Goals as goal

pub returns : goal.returns
returns c =
    all_graphic_in_turn c.args.bytes.now c.fold.result
    (fold_from_yields_List _ (λ all byte. all && graphic byte) true c.fold.result c.fold.ensures.ran (YieldsList-from_slice c.args.bytes.now cc) (λ all x b q k. search (rules, tests)))

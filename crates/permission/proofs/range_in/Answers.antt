use Rattle.std.proofs.Common.{◌≡◌, true, false, not, sym, ap, ◌∙◌, rules}
use Rattle.permission.specs.Reading.{not_after}
use Rattle.permission.proofs.Names.{gt_is_after}
use Rattle.permission.proofs.range_in.Goals as goal

pub returns-then-gt : goal.returns-then-gt
returns-then-gt c =
    let out_of_order : not_after c.in_ok-low.low.now c.in_ok-high.high.now ≡ false = sym (gt_is_after c.in_ok-low.low.now c.in_ok-high.high.now _ c.gt.ensures) ∙ ap not c.if-gt.true in
    search rules

pub returns : goal.returns
returns c =
    let in_order : not_after c.in_ok-low.low.now c.in_ok-high.high.now ≡ true = sym (gt_is_after c.in_ok-low.low.now c.in_ok-high.high.now _ c.gt.ensures) ∙ ap not c.if-gt.false in
    search rules

use Rattle.std.proofs.Common.{◌≡◌, ◌-◌, ◌<◌, length, get_or, ap, ◌∙◌, arith, rules}
use Rattle.std.proofs.lemmas.List.{take_rest}
use Rattle.permission.specs.Reading.{term_in}
use Rattle.permission.proofs.Fronts.{first_and_rest}
use Rattle.permission.proofs.Walks.{a_set, no_set, members_left, members_of_the_last, no_members_of_the_last}
use Rattle.permission.proofs.+members_in_set_in_term_in.Goals as goal

pub set_in-returns-in_err-n : goal.set_in-returns-in_err-n
set_in-returns-in_err-n t c = simp c.from_residual.ensures (no_set c.args.name.now c.args.deep c.args.bytes.now c.in_err-n.ensures)

pub set_in-returns : goal.set_in-returns
set_in-returns t c = c.members_in.ensures ∙ a_set c.args.name.now c.args.deep _ c.args.bytes.now _ c.in_ok-n.ensures

pub members_in-returns-in_err-count-in-5 : goal.members_in-returns-in_err-count-in-5
members_in-returns-in_err-count-in-5 t c =
    let some : 0 < length c.loop-left.rest.now = search rules in
    let form : get_or c.loop-left.rest.now 0 0 ≡ 5 = search rules in
    let last : c.loop-left.left ≡ 1 = search rules in
    simp c.from_residual.ensures
    (no_members_of_the_last c.args.name.now c.loop-left.deep c.loop-left.rest.now _ (first_and_rest _ _ some form) c.loop-left.any c.loop-left.left last c.in_err-count-in-5.ensures
    ∙ c.loop-left.invariant.1)

pub members_in-loop-left-preserved-then-left-eq1 : goal.members_in-loop-left-preserved-then-left-eq1
members_in-loop-left-preserved-then-left-eq1 t c =
    let some : 0 < length c.loop-left.rest.now = search rules in
    let form : get_or c.loop-left.rest.now 0 0 ≡ 5 = search rules in
    let last : c.loop-left.left ≡ 1 = search rules in (
      omega arith,
      ap (members_left (term_in (c.loop-left.deep - 1)) c.args.name.now c.loop-left.any c.in_ok-count-in-5.count) (take_rest c.in_ok-count-in-5.members.now 0)
          ∙ members_of_the_last c.args.name.now c.loop-left.deep c.loop-left.rest.now _ (first_and_rest _ _ some form) c.loop-left.any c.loop-left.left c.in_ok-count-in-5.count c.in_ok-count-in-5.members.now last c.in_ok-count-in-5.ensures
          ∙ c.loop-left.invariant.1,
    )

pub members_in-loop-left-preserved : goal.members_in-loop-left-preserved
members_in-loop-left-preserved t c = simp (take_rest c.in_ok-covers-in_default.after.now 0) (search rules)

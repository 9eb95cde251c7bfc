use Rattle.std.proofs.Common.{◌≤◌, ◌<◌, length, sym, ap, subst, arith, rules}
use Rattle.delegation.specs.Given.{Asked}
use Rattle.delegation.proofs.Following.{Sought, unfollowed, sought_first, sought_next, sought_tells, falls}
use Rattle.delegation.proofs.types.Question.leading.Goals as goal

pub loop-i-init : goal.loop-i-init
loop-i-init c = subst (Sought c.args.self.now) (sym c.mark_links.ensures) (sought_first c.args.self.now)

pub loop-i-smaller : goal.loop-i-smaller
loop-i-smaller c =
    let open-there = c.in-Some.ensures.1 in
    subst (λ ms. unfollowed ms < unfollowed c.loop-i.marks) (sym c.mark_links-in-Some.ensures) (search (rules, falls))

pub loop-i-preserved : goal.loop-i-preserved
loop-i-preserved c =
    let asked = c.args.self.now in
    let links = ap (λ (a : Asked). a.tables.certificates) c.self-in-loop-i.view_is in
    let few : length asked.tables.certificates ≤ 16 = omega (arith, ap length links) in
    subst (Sought asked) (sym c.mark_links-in-Some.ensures)
    (sought_next asked c.self-in-loop-i.inside.links.now links c.loop-i.marks c.in-Some.i _ c.loop-i.invariant few c.in-Some.ensures.0 c.in-Some.ensures.1)

pub returns : goal.returns
returns c =
    let asked = c.args.self.now in
    let links = ap (λ (a : Asked). a.tables.certificates) c.self.view_is in
    let few : length asked.tables.certificates ≤ 16 = omega (arith, ap length links) in
    record { tells = sought_tells asked c.loop-i.marks c.loop-i.invariant few c.in_default.ensures; enough = omega arith }

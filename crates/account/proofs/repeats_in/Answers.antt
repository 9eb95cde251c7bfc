use Rattle.std.proofs.Common.{◌-◌, ◌<◌, false, [], ◌∷◌, ◌++◌, length, get_or, take, drop, vec_items, sym, refl, ap, ◌∙◌, rules}
use Rattle.std.proofs.lemmas.List.{append-nil, at_drop_all}
use Rattle.std.proofs.lemmas.Slice.Eq.{bytes_eq-Decides}
use Rattle.std.proofs.lemmas.Slice.{pushed}
use Rattle.std.proofs.lemmas.Bool.Decides.{not_from_Decides}
use Rattle.account.specs.Repeats.{repeats_after}
use Rattle.account.proofs.Repeated.{at_the_start, at_another, at_a_listed, at_a_second}
use Rattle.account.proofs.repeats_in.Goals as goal
use Rattle.account.proofs.repeats_in.Goals.{then-eq+then-not-listed+in_ok-push, then-eq+else-not-listed, else-eq}

pub loop-hash-init : goal.loop-hash-init
loop-hash-init c =
    let some : 0 < length c.args.sorted.now = search rules in
    ap (λ xs. xs ++ repeats_after (get_or c.args.sorted.now 0 []) false (take (length c.args.sorted.now - 1) (drop 1 c.args.sorted.now))) c.new-out.ensures.items ∙ at_the_start c.args.sorted.now some

pub loop-hash-preserved : goal.loop-hash-preserved
loop-hash-preserved c =
    let rest = take (length c.args.sorted.now - 1) (drop 1 c.args.sorted.now) in
    let same = bytes_eq-Decides c.loop-hash.current (get_or rest c.loop-hash.hash-index []) in
    elim c.if-eq.branch [
      | then-eq+then-not-listed+in_ok-push w ↦
          at_a_second c.loop-hash.current c.loop-hash.listed rest c.loop-hash.hash-index c.loop-hash-test.true _ _ c.loop-hash.invariant _ _ _
          (same.0 (sym w.if-eq.ensures)) w.if-not-listed.true (ap vec_items w.out-is ∙ pushed (c.loop-hash.current ∷ []) refl w.in_ok-push.was w.push.ensures.items) w.current-is w.listed-is
      | then-eq+else-not-listed w ↦
          at_a_listed c.loop-hash.current c.loop-hash.listed rest c.loop-hash.hash-index c.loop-hash-test.true _ _ c.loop-hash.invariant _ _ _
          (same.0 (sym w.if-eq.ensures)) w.if-not-listed.false (ap vec_items w.out-is) w.current-is w.listed-is
      | else-eq w ↦
          at_another c.loop-hash.current c.loop-hash.listed rest c.loop-hash.hash-index c.loop-hash-test.true _ _ c.loop-hash.invariant _ _ _
          (not_from_Decides _ same (sym w.if-eq.ensures)) (ap vec_items w.out-is) w.current-is w.listed-is
    ]

pub returns : goal.returns
returns c =
    sym (append-nil (vec_items c.loop-hash.out))
    ∙ ap (λ xs. vec_items c.loop-hash.out ++ xs) (sym (at_drop_all (repeats_after c.loop-hash.current c.loop-hash.listed) _ c.loop-hash.hash-index c.loop-hash-test.false))
    ∙ c.loop-hash.invariant

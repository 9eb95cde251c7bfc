use Rattle.std.proofs.Common.{◌≡◌, ℕ, List, vec_items, sym, refl, ap, ◌∙◌, subst}
use Rattle.std.specs.List.Sorted.{IsPermutation}
use Rattle.std.proofs.lemmas.Result.{IfOk-weaker}
use Rattle.account.specs.Repeats.{ListsEachRepeatedHashOnce, repeats}
use Rattle.account.proofs.Repeated.{sorted_repeats}
use Rattle.account.proofs.repeats_among.Goals as goal

pub returns : goal.returns
returns c =
    let hashes = c.args.hashes.now in
    let sorted = vec_items c.sort_unstable.new.self in
    let copied = c.in_ok-sorted.ensures.items in
    let moved = subst (λ (xs : List (List ℕ)). IsPermutation xs (vec_items c.sort_unstable.new.self)) copied c.sort_unstable.ensures.permutation in
    let lists = sorted_repeats hashes sorted _ moved refl c.sort_unstable.ensures.sorted in
    IfOk-weaker c.repeats_in.result (λ v. vec_items v ≡ repeats c.as_slice.result.now) (λ v. ListsEachRepeatedHashOnce c.args.hashes.now (vec_items v))
    (λ v e. subst (ListsEachRepeatedHashOnce hashes) (sym (e ∙ ap repeats c.as_slice.ensures.value)) lists)
    c.repeats_in.ensures

use Rattle.std.proofs.Common.{◌≡◌, ℕ, [], get_or, sym, subst, rules}
use Rattle.std.specs.Simd.{first_chunks}
use Rattle.std.specs.Int.Digits.{AllBelowBase}
use Rattle.keyhash.specs.Numeral.{Rewritten}
use Rattle.keyhash.proofs.Made.{made_each}
use Rattle.keyhash.proofs.Groups.{rewritten_chunks, below_chunks}
use Rattle.keyhash.proofs.base64.join.Goals as goal

pub returns : goal.returns
returns c = λ under.
    let each = made_each (λ k group. AllBelowBase 64 (get_or c.as_chunks.result.0.now k []) → Rewritten 64 256 (get_or c.as_chunks.result.0.now k []) group) [] c.from_fn-threes.ensures.items (λ i y f' called. search rules) in
    let chunks : c.as_chunks.result.0.now ≡ first_chunks 4 8 c.args.digits.now = search rules in
    let below = λ (i : ℕ). subst (λ groups. AllBelowBase 64 (get_or groups i [])) (sym chunks) (below_chunks 64 4 8 c.args.digits.now under i) in
    rewritten_chunks 64 256 4 8 c.args.digits.now c.copy_from_slice.new.self c.as_chunks.result.0.now c.from_fn-threes.result (search rules) chunks (search rules) (search rules) (λ i l. each i l (below i))

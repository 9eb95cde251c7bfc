-- The hash value is written out word by word.
use Rattle.std.proofs.Common.{◌≡◌, ℕ, ◌+◌, ◌*◌, ◌<◌, List, [], ◌++◌, length, get_or, take, sym, ap, ◌∙◌, arith}
use Rattle.std.specs.List.{flat_map}
use Rattle.std.proofs.lemmas.List.{take_more, take_all, flat_map_more}
use Rattle.sha1_hmac.specs.Message.{four_bytes}

pub written_more : (out out' ws w : List ℕ) (i : ℕ) → i < length ws → w ≡ four_bytes (get_or ws i 0)
    → take (4 * i + length w) out' ≡ take (4 * i) out ++ w
    → take (4 * i) out ≡ flat_map four_bytes (take i ws)
    → take (4 * (i + 1)) out' ≡ flat_map four_bytes (take (i + 1) ws)
written_more out out' ws w i h e put inv =
    let n : length w ≡ 4 = ap length e in
    let j : 4 * (i + 1) ≡ 4 * i + length w = omega arith in
    ap (λ k. take k out') j ∙ put ∙ ap (λ x. x ++ w) inv ∙ ap (λ x. flat_map four_bytes (take i ws) ++ x) e
    ∙ flat_map_more four_bytes [] (take i ws) (get_or ws i 0) ∙ ap (flat_map four_bytes) (sym (take_more ws i 0 h))

pub written_all : (out ws : List ℕ) (i : ℕ) → i ≡ length ws → length out ≡ 4 * i
    → take (4 * i) out ≡ flat_map four_bytes (take i ws) → out ≡ flat_map four_bytes ws
written_all out ws i e n inv =
    sym (take_all (4 * i) out (omega arith)) ∙ inv ∙ ap (flat_map four_bytes) (take_all i ws (omega arith))

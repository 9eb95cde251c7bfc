-- What is appended to a message, as the program writes it.
use Rattle.std.proofs.Common.{◌≡◌, ℕ, suc, ◌+◌, ◌*◌, ◌%◌, ◌^◌, ◌≤◌, List, ◌∷◌, ◌++◌, length, take, replicate, sym, ap, ◌∙◌, arith, length-append}
use lib.ListN.{length-replicate}
use Rattle.std.proofs.lemmas.List.{take-replicate}
use Rattle.sha1_hmac.specs.Message.{eight_bytes, zeros, padding, padded}
use Rattle.sha1_hmac.specs.Laws.{PaddingIsTheLeast, PaddingEndsABlock}

pub padding_is_the_least : PaddingIsTheLeast
padding_is_the_least n = (omega arith, λ k h. omega arith)

pub padding_ends_a_block : PaddingEndsABlock
unfolding padded padding
padding_ends_a_block m =
    simp (length-append, length-replicate) (omega arith)

-- an array of zeros with the byte 128 at its front
abbrev start : List ℕ
start = 128 ∷ replicate 71 0

take-start : (k z : ℕ) → k ≡ suc z → z ≤ 71 → take k start ≡ 128 ∷ replicate z 0
take-start k z e h = ap (λ x. take x start) e ∙ ap (λ xs. 128 ∷ xs) (take-replicate z 71 0 h)

module _ (n t : ℕ) (e : t ≡ n % 2 ^ 64) where
  -- the byte 128, zeros, and behind them the length's bytes w
  pub padding_written : (out w : List ℕ) (size k : ℕ) → w ≡ eight_bytes (t * 8 % 2 ^ 64) → size ≡ 1 + zeros t → k ≡ size + 8
      → take (size + length w) out ≡ take size start ++ w
      → take k out ≡ padding n
  unfolding padding
  padding_written out w size k g i j put =
      let eight : length w ≡ 8 = ap length g in
      let front = take-start size (zeros n) (omega arith) (omega arith) in
      let l : t * 8 % 2 ^ 64 ≡ 8 * n % 2 ^ 64 = omega arith in
      ap (λ x. take x out) (j ∙ ap (λ x. size + x) (sym eight)) ∙ put
      ∙ ap (λ x. x ++ w) front ∙ ap (λ x. 128 ∷ (replicate (zeros n) 0 ++ x)) (g ∙ ap eight_bytes l)

-- The key's block, masked byte by byte.
use Rattle.std.proofs.Common.{◌≡◌, ℕ, ◌+◌, ◌-◌, ◌≤◌, List, ◌++◌, map, length, take, drop, replicate, append-nil, sym, ap, ◌∙◌, arith, length-append}
use lib.Bits.{bit_xor}
use lib.ListN.{length-replicate}
use Rattle.std.proofs.lemmas.List.{append_assoc, take_all, drop_all, replicate-append-replicate}
use Rattle.sha1_hmac.specs.Keyed.{masked}
use Rattle.sha1_hmac.specs.Laws.{ZerosDoNotChangeAKey}

-- a block that begins with the key, once the first i of its bytes are masked, and these are all
pub masked_all : (mask : ℕ) (key block bytes : List ℕ) (i : ℕ) → length key ≡ 20 → block ≡ key ++ replicate 44 0 → length block ≤ i
    → bytes ≡ map (λ b. bit_xor b mask) (take i block) ++ drop i block → bytes ≡ masked mask key
unfolding masked
masked_all mask key block bytes i n e h inv =
    let all = take_all i block h in
    let none = drop_all i block h in
    inv ∙ simp (all, none, append-nil) (ap (map (λ b. bit_xor b mask)) (e ∙ ap (λ k. key ++ replicate (64 - k) 0) (sym n)))

zeros_after_zeros : (key : List ℕ) (a b c : ℕ) → a + b ≡ c → (key ++ replicate a 0) ++ replicate b 0 ≡ key ++ replicate c 0
zeros_after_zeros key a b c e =
    append_assoc key (replicate a 0) (replicate b 0)
    ∙ ap (λ zs. key ++ zs) (replicate-append-replicate a b 0 ∙ ap (λ n. replicate n 0) e)

pub zeros_do_not_change_a_key : ZerosDoNotChangeAKey
unfolding masked
zeros_do_not_change_a_key key text h =
    let n : length (key ++ replicate (20 - length key) 0) ≡ 20 = simp (length-append, length-replicate) (omega arith) in
    simp (zeros_after_zeros key (20 - length key) (64 - length (key ++ replicate (20 - length key) 0)) (64 - length key) (omega arith))

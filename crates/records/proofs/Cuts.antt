-- Parts of lists.
use Rattle.std.proofs.Common.{◌≡◌, ℕ, ◌-◌, ◌<◌, ◌≤◌, min, List, length, take, drop, sym, ap, ◌∙◌, ⊎_elim, arith}
use Rattle.std.proofs.lemmas.List.{length-drop, take_all, drop_all}
use Rattle.std.proofs.lemmas.Bool.{cases_lt}

-- what stands behind the first m of n elements, where k of them are passed over
pub rest_behind : (xs : List ℕ) (m k n : ℕ) → length xs ≡ n → k ≡ min m n → take (n - k) (drop k xs) ≡ drop m xs
rest_behind xs m k n size passed =
    take_all (n - k) (drop k xs) (simp length-drop (omega arith))
    ∙ ⊎_elim (λ (short : m < n). ap (λ i. drop i xs) (let e : k ≡ m = omega arith in e)) (λ (long : n ≤ m). drop_all k xs (omega arith) ∙ sym (drop_all m xs (omega arith))) (cases_lt m n)

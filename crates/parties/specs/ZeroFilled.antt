-- Bytes at the front of sixteen, with zeros behind them.
use Rattle.std.specs.Prelude.{◌≡◌, ℕ, ◌-◌, ◌≤◌, List, ◌++◌, length, take, replicate}
use Rattle.std.proofs.Common.{sym, ap, ◌∙◌, arith}
use Rattle.std.proofs.lemmas.List.{length-take-le}

pub record IsZeroFilled (len : ℕ) (bytes : List ℕ) : Type 0 where
  pub fits : len ≤ 16
  pub whole : bytes ≡ take len bytes ++ replicate (16 - len) 0
  pub sixteen : length bytes ≡ 16

module _ (len : ℕ) (bytes : List ℕ) (h : IsZeroFilled len bytes) where
  pub length_again : length (take len bytes) ≡ len
  length_again = let f = h.fits in let s = h.sixteen in length-take-le len bytes (omega arith)

  pub bytes_again : take len bytes ++ replicate (16 - length (take len bytes)) 0 ≡ bytes
  bytes_again = ap (λ n. take len bytes ++ replicate (16 - n) 0) length_again ∙ sym h.whole

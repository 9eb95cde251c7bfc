-- A test that decides whether two lists are equal is the comparison of their bytes.
use Rattle.std.proofs.Common.{◌≡◌, ℕ, Bool, List, Decides, rules}
use Rattle.std.specs.Str.{bytes_eq}
use Rattle.std.proofs.lemmas.Slice.Eq.{bytes_eq-Decides}

pub compared : (xs ys : List ℕ) (r : Bool) → Decides r (xs ≡ ys) → r ≡ bytes_eq xs ys
compared xs ys r h = search (rules, bytes_eq-Decides)

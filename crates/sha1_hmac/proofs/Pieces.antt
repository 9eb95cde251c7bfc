-- The words of a block, as its bytes are cut into them.
use Rattle.std.proofs.Common.{◌≡◌, ℕ, ◌/◌, List, map, length, get_or, refl, ap, ◌∙◌}
use Rattle.std.specs.List.{range_with_len}
use Rattle.std.specs.Simd.{first_chunks}
use Rattle.std.proofs.lemmas.List.FromFn.{fill_by_all}

-- a list of n elements, written out where n is a numeral
pub written_out : {X : Type 0} (d : X) (xs : List X) (n : ℕ) → length xs ≡ n → xs ≡ map (λ k. get_or xs k d) (range_with_len 0 n)
written_out d xs n l = fill_by_all (λ k. get_or xs k d) xs n d l (λ k h. refl)

-- the pieces of n numbers, likewise
pub pieces_written_out : (size n : ℕ) (xs : List ℕ) (pieces : List (List ℕ)) → pieces ≡ first_chunks size (length xs / size) xs → length xs ≡ n
    → let ys = map (λ k. get_or xs k 0) (range_with_len 0 n) in pieces ≡ first_chunks size (length ys / size) ys
pieces_written_out size n xs pieces e l = e ∙ ap (λ ys. first_chunks size (length ys / size) ys) (written_out 0 xs n l)

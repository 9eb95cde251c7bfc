-- Names: which bytes they hold, and their order.
use Rattle.std.specs.Prelude.{◌≡◌, ℕ, ◌<◌, ◌≤◌, ◌⊎◌, List, [], ◌∷◌, ◌++◌, length}
use Rattle.std.specs.List.{AllByRecursion}

-- a byte that a name may hold
abbrev pub Graphic : ℕ → Type 0
Graphic b = (0x21 ≤ b) × (b ≤ 0x7E)

-- a text: at most 16 graphic bytes
pub record IsText (bytes : List ℕ) : Type 0 where
  pub short : length bytes ≤ 16
  pub graphic : AllByRecursion Graphic bytes

-- a name: a text of one byte or more
pub record IsName (bytes : List ℕ) : Type 0 where
  pub text : IsText bytes
  pub some : 1 ≤ length bytes

-- the order of names is by byte, and a name comes before its own extensions
abbrev pub NotAfter : List ℕ → List ℕ → Type 0
NotAfter [] ys = Unit {0}
NotAfter (x ∷ xs) [] = ⊥
NotAfter (x ∷ xs) (y ∷ ys) = (x < y) ⊎ ((x ≡ y) × NotAfter xs ys)

abbrev pub BeginsWith : List ℕ → List ℕ → Type 0
BeginsWith front name = (rest : List ℕ) × (name ≡ front ++ rest)

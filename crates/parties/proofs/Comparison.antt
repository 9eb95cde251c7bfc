-- Two byte strings compared by the bits in which they differ.
use Rattle.std.proofs.Common.{◌≡◌, ℕ, Bool, true, false, eqb, List, [], ◌∷◌, length, fold, Decides, sym, refl, ap, ◌∙◌, ap₂, arith}
use lib.Bits.{bit_or, bit_xor, or_add_and, xor_add_and, and_le_l, and_le_r, or_zero_l, xor_self}
use Rattle.std.specs.List.{zip}
use Rattle.std.specs.Str.{bytes_eq}
use Rattle.std.proofs.lemmas.Bool.{eqb-true, eq-eqb}
use Rattle.std.proofs.lemmas.Slice.Eq.{bytes_eq-Decides}
use Rattle.std.proofs.lemmas.Bool.Decides.{same_from_decides}

no_bits_in_either : (x y : ℕ) → bit_or x y ≡ 0 → (x ≡ 0) × (y ≡ 0)
no_bits_in_either x y e = (omega (arith, or_add_and x y, and_le_l x y, and_le_r x y), omega (arith, or_add_and x y, and_le_l x y, and_le_r x y))

no_bit_differs : (x y : ℕ) → bit_xor x y ≡ 0 → x ≡ y
no_bit_differs x y e = omega (arith, xor_add_and x y, and_le_l x y, and_le_r x y)

-- the bits so far, and those in which two byte strings differ
abbrev bits_apart : ℕ → List ℕ → List ℕ → ℕ
bits_apart bits a b = fold (λ d p. bit_or d (bit_xor p.0 p.1)) bits (zip a b)

same_where_none : (bits : ℕ) (a b : List ℕ) → length b ≡ length a → bits_apart bits a b ≡ 0 → (bits ≡ 0) × (a ≡ b)
same_where_none bits [] [] l e = (e, refl)
same_where_none bits [] (y ∷ b) l e = absurd (omega arith)
same_where_none bits (x ∷ a) [] l e = absurd (omega arith)
same_where_none bits (x ∷ a) (y ∷ b) l e =
    let rest = same_where_none (bit_or bits (bit_xor x y)) a b (omega arith) e in
    let parts = no_bits_in_either bits (bit_xor x y) rest.0 in
    (parts.0, ap₂ (λ z zs. z ∷ zs) (no_bit_differs x y parts.1) rest.1)

none_where_same : (a : List ℕ) → bits_apart 0 a a ≡ 0
none_where_same [] = refl
none_where_same (x ∷ a) = ap (λ d. bits_apart d a a) (ap (bit_or 0) (xor_self x) ∙ or_zero_l 0) ∙ none_where_same a

module _ (a b : List ℕ) where
  pub none_apart : length b ≡ length a → eqb (bits_apart 0 a b) 0 ≡ bytes_eq a b
  none_apart l =
      same_from_decides (eqb (bits_apart 0 a b) 0) (bytes_eq a b)
      ((λ t. (same_where_none 0 a b l (eqb-true (bits_apart 0 a b) 0 t)).1), (λ e. eq-eqb (bits_apart 0 a b) 0 (ap (bits_apart 0 a) (sym e) ∙ none_where_same a)))
      (bytes_eq-Decides a b)

  -- a test of equal bytes decides equality, written the other way
  pub decides_same : (r : Bool) → r ≡ bytes_eq a b → Decides r (b ≡ a)
  decides_same r e = ((λ t. sym ((bytes_eq-Decides a b).0 (sym e ∙ t))), (λ q. e ∙ (bytes_eq-Decides a b).1 (sym q)))

  pub other_length_differs : (length b ≡ length a → ⊥) → bytes_eq a b ≡ false
  other_length_differs apart = go (bytes_eq a b) refl
    where
      go : (t : Bool) → bytes_eq a b ≡ t → t ≡ false
      go false e = refl
      go true e = absurd (apart (ap length (sym ((bytes_eq-Decides a b).0 e))))

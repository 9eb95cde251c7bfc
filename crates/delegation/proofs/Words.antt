-- Twenty bytes are the same exactly where three words of eight bytes are.
use Rattle.std.proofs.Common.{◌≡◌, ℕ, ◌+◌, ◌-◌, ◌<◌, ◌≤◌, Bool, true, false, ◌&&◌, eqb, List, length, get_or, take, drop, sym, refl, ap, ◌∙◌, inl, inr, arith}
use Rattle.std.specs.Int.Digits.{number_from_digits, AllBelowBase}
use Rattle.std.specs.Str.{bytes_eq}
use Rattle.std.proofs.ByRecursion.{All-take, All-drop}
use Rattle.std.proofs.lemmas.Slice.Eq.{bytes_eq-Decides}
use Rattle.std.proofs.lemmas.List.{same_lists, get_or-take, get_or-drop, length-take-le, length-drop}
use Rattle.std.proofs.lemmas.Bool.{and_parts, and_from, eqb-true, eq-eqb, cases_lt}
use Rattle.records.specs.Records.{big_endian}
use Rattle.records.specs.Numbers.{big_endian_of_number}

abbrev pub word : ℕ → List ℕ → ℕ
word at hash = number_from_digits 256 (take 8 (drop at hash))

-- eight bytes of twenty, and the number that they write
word_bytes : (hash : List ℕ) (at : ℕ) → length hash ≡ 20 → AllBelowBase 256 hash → at + 8 ≤ 20 → big_endian 8 (word at hash) ≡ take 8 (drop at hash)
word_bytes hash at size under within =
    big_endian_of_number (take 8 (drop at hash)) 8 (All-take (λ b. b < 256) 8 (drop at hash) (All-drop (λ b. b < 256) at hash under)) (length-take-le 8 (drop at hash) (simp length-drop (omega arith)))

read_in_word : (hash : List ℕ) (at k d : ℕ) → at ≤ k → k < at + 8 → get_or (take 8 (drop at hash)) (k - at) d ≡ get_or hash k d
read_in_word hash at k d low high =
    let e : at + (k - at) ≡ k = omega arith in
    get_or-take 8 (drop at hash) (k - at) d (omega arith) ∙ get_or-drop at hash (k - at) d ∙ ap (λ n. get_or hash n d) e

module _ (one other : List ℕ) (size : length one ≡ 20) (size' : length other ≡ 20) (under : AllBelowBase 256 one) (under' : AllBelowBase 256 other) where
  same_at : (at k d : ℕ) → at + 8 ≤ 20 → word at one ≡ word at other → at ≤ k → k < at + 8 → get_or one k d ≡ get_or other k d
  same_at at k d within e low high =
      sym (read_in_word one at k d low high)
      ∙ ap (λ bytes. get_or bytes (k - at) d) (sym (word_bytes one at size under within) ∙ ap (big_endian 8) e ∙ word_bytes other at size' under' within)
      ∙ read_in_word other at k d low high

  same_from_words : word 0 one ≡ word 0 other → word 8 one ≡ word 8 other → word 12 one ≡ word 12 other → one ≡ other
  same_from_words p q r = same_lists one other (size ∙ sym size') at
    where
      at : (k d : ℕ) → k < length one → get_or one k d ≡ get_or other k d
      at k d h = elim (cases_lt k 8) [
        | inl l ↦ same_at 0 k d (omega arith) p (omega arith) (omega arith)
        | inr l ↦ elim (cases_lt k 16) [
          | inl m ↦ same_at 8 k d (omega arith) q (omega arith) (omega arith)
          | inr m ↦ same_at 12 k d (omega arith) r (omega arith) (omega arith)
        ]
      ]

  pub words_tell : word 0 one ≡ word 0 other → (eqb (word 8 one) (word 8 other) && eqb (word 12 one) (word 12 other)) ≡ bytes_eq one other
  words_tell p = tests (eqb (word 8 one) (word 8 other) && eqb (word 12 one) (word 12 other)) (bytes_eq one other)
      (λ e. let h = and_parts (eqb (word 8 one) (word 8 other)) (eqb (word 12 one) (word 12 other)) e in (bytes_eq-Decides one other).1 (same_from_words p (eqb-true (word 8 one) (word 8 other) h.0) (eqb-true (word 12 one) (word 12 other) h.1)))
      (λ e. let s = (bytes_eq-Decides one other).0 e in and_from (eqb (word 8 one) (word 8 other)) (eqb (word 12 one) (word 12 other)) (eq-eqb (word 8 one) (word 8 other) (ap (word 8) s)) (eq-eqb (word 12 one) (word 12 other) (ap (word 12) s)))
    where
      tests : (a b : Bool) → (a ≡ true → b ≡ true) → (b ≡ true → a ≡ true) → a ≡ b
      tests true b f g = sym (f refl)
      tests false true f g = g refl
      tests false false f g = refl

pub words_differ : (one other : List ℕ) → (word 0 one ≡ word 0 other → ⊥) → false ≡ bytes_eq one other
words_differ one other n = go (bytes_eq one other) (bytes_eq-Decides one other).0
  where
    go : (b : Bool) → (b ≡ true → one ≡ other) → false ≡ b
    go true f = absurd (n (ap (word 0) (f refl)))
    go false f = refl

-- The fields of a scope and its 66 bytes are each other's inverse.
use Rattle.std.specs.Prelude.{◌≡◌, ℕ, zero, suc, ◌+◌, ◌^◌, ◌<◌, ◌≤◌, Bool, true, false, List, ◌∷◌, ◌++◌, length, take, drop, ◌==◌, slice_index, slice_index_or, refl}
use Rattle.std.proofs.Math.Path.{sym, ap, ap₂}
use Rattle.std.proofs.Common.{subst, ◌∙◌, arith}
use Rattle.std.specs.Int.Digits.{number_from_digits, AllBelowBase}
use Rattle.std.proofs.lemmas.Int.Digits.{number_lt}
use Rattle.std.proofs.ByRecursion.{All-append, All-take, All-drop, All-get_or}
use Rattle.std.proofs.lemmas.List.{append_assoc, length-append, length-drop, length-take-le, take-append-drop, take_at, drop_at, drop-drop, drop_more, get_or_at}
use Rattle.records.specs.declared.types.Scope.{Scope}
use Rattle.records.specs.Records.{big_endian, flag_byte, scope_at, scope_bytes}
use Rattle.records.specs.Inverse.{Bytes, WindowFits, ScopeFits}
use Rattle.records.specs.Numbers.{length-big_endian, under_big_endian, number_of_big_endian, big_endian_of_number}

abbrev pub made : Bool → ℕ → ℕ → ℕ → List ℕ → Scope
made d b a n t = record { delegate = d; not_before = b; not_after = a; term_length = n; term = t }

pub same_fields : {d e : Bool} {b b' a a' n n' : ℕ} {t t' : List ℕ} → d ≡ e → b ≡ b' → a ≡ a' → n ≡ n' → t ≡ t' → made d b a n t ≡ made e b' a' n' t'
same_fields flag before after long term = cc

-- what stands at a place among bytes, and behind it
part : (at count next : ℕ) (bytes : List ℕ) → at + count ≡ next → take count (drop at bytes) ++ drop next bytes ≡ drop at bytes
part at count next bytes e =
    ap (λ n. take count (drop at bytes) ++ drop n bytes) (sym e)
    ∙ ap (λ rest. take count (drop at bytes) ++ rest) (sym (drop-drop count at bytes))
    ∙ take-append-drop count (drop at bytes)

flag_is : (b : ℕ) → b ≤ 1 → flag_byte (b == 1) ≡ b
flag_is zero h = refl
flag_is (suc zero) h = refl
flag_is (suc (suc b)) h = absurd (omega (arith, h))

flag_back : (b : Bool) → (flag_byte b == 1) ≡ b
flag_back true = refl
flag_back false = refl

flag_under : (b : Bool) → flag_byte b < 256
flag_under true = omega arith
flag_under false = omega arith

module _ (s : Scope) where
  numbers : List ℕ
  numbers = big_endian 8 s.not_before ++ big_endian 8 s.not_after

  length-numbers : length numbers ≡ 16
  unfolding numbers
  length-numbers =
      length-append (big_endian 8 s.not_before) (big_endian 8 s.not_after)
      ∙ ap₂ (λ a b. a + b) (length-big_endian 8 s.not_before) (length-big_endian 8 s.not_after)

  behind_the_flag : drop 1 (scope_bytes s) ≡ numbers ++ s.term_length ∷ s.term
  unfolding scope_bytes numbers
  behind_the_flag = sym (append_assoc (big_endian 8 s.not_before) (big_endian 8 s.not_after) (s.term_length ∷ s.term))

  pub fields_of_scope_bytes : WindowFits s → scope_at (scope_bytes s) ≡ s
  unfolding scope_bytes
  fields_of_scope_bytes fits =
      let before = big_endian 8 s.not_before in
      let after = big_endian 8 s.not_after in
      let rest : List ℕ = s.term_length ∷ s.term in
      same_fields
      (flag_back s.delegate)
      (ap (number_from_digits 256) (take_at before (after ++ rest) 8 (length-big_endian 8 s.not_before)) ∙ number_of_big_endian 8 s.not_before fits.not_before)
      (ap (λ bs. number_from_digits 256 (take 8 bs)) (drop_at before (after ++ rest) 8 (length-big_endian 8 s.not_before)) ∙ ap (number_from_digits 256) (take_at after rest 8 (length-big_endian 8 s.not_after)) ∙ number_of_big_endian 8 s.not_after fits.not_after)
      (ap (λ bs. slice_index bs 16) behind_the_flag ∙ get_or_at numbers s.term_length s.term 0 16 length-numbers)
      (ap (drop 17) behind_the_flag ∙ sym (drop-drop 1 16 (numbers ++ rest)) ∙ ap (drop 1) (drop_at numbers rest 16 length-numbers))

  pub scope_bytes_fit : ScopeFits s → Bytes 66 (scope_bytes s)
  unfolding scope_bytes
  scope_bytes_fit fits =
      let before = big_endian 8 s.not_before in
      let after = big_endian 8 s.not_after in
      let rest : List ℕ = s.term_length ∷ s.term in
      let size = length-append before (after ++ rest) in
      let size' = length-append after rest in (
        omega (arith, size, size', length-big_endian 8 s.not_before, length-big_endian 8 s.not_after, fits.term.0),
        (flag_under s.delegate, All-append (λ b. b < 256) before (after ++ rest) (under_big_endian 8 s.not_before) (All-append (λ b. b < 256) after rest (under_big_endian 8 s.not_after) (fits.term_length, fits.term.1))),
      )

module _ (bytes : List ℕ) (size : length bytes ≡ 66) (under : AllBelowBase 256 bytes) where
  eight : (at : ℕ) → at + 8 ≤ 66 → Bytes 8 (take 8 (drop at bytes))
  eight at within =
      (length-take-le 8 (drop at bytes) (simp length-drop (omega arith)), All-take (λ b. b < 256) 8 (drop at bytes) (All-drop (λ b. b < 256) at bytes under))

  number_fits : (at : ℕ) → at + 8 ≤ 66 → number_from_digits 256 (take 8 (drop at bytes)) < 2 ^ 64
  number_fits at within =
      let field = eight at within in
      subst (λ n. number_from_digits 256 (take 8 (drop at bytes)) < 256 ^ n) field.0 (number_lt 256 (take 8 (drop at bytes)) field.1)

  pub fields_fit : ScopeFits (scope_at bytes)
  fields_fit = record {
    window = record { not_before = number_fits 1 (omega arith); not_after = number_fits 9 (omega arith) };
    term_length = All-get_or (λ b. b < 256) bytes 17 0 (omega arith) under;
    term = (length-drop 18 bytes ∙ omega arith, All-drop (λ b. b < 256) 18 bytes under);
  }

  pub scope_bytes_of_fields : slice_index_or bytes 0 0 ≤ 1 → scope_bytes (scope_at bytes) ≡ bytes
  unfolding scope_bytes
  scope_bytes_of_fields flag =
      let before = eight 1 (omega arith) in
      let after = eight 9 (omega arith) in
      ap (λ b. b ∷ (big_endian 8 (number_from_digits 256 (take 8 (drop 1 bytes))) ++ (big_endian 8 (number_from_digits 256 (take 8 (drop 9 bytes))) ++ slice_index bytes 17 ∷ drop 18 bytes))) (flag_is (slice_index bytes 0) flag)
      ∙ ap (λ bs. slice_index bytes 0 ∷ (bs ++ (big_endian 8 (number_from_digits 256 (take 8 (drop 9 bytes))) ++ slice_index bytes 17 ∷ drop 18 bytes))) (big_endian_of_number (take 8 (drop 1 bytes)) 8 before.1 before.0)
      ∙ ap (λ bs. slice_index bytes 0 ∷ (take 8 (drop 1 bytes) ++ (bs ++ slice_index bytes 17 ∷ drop 18 bytes))) (big_endian_of_number (take 8 (drop 9 bytes)) 8 after.1 after.0)
      ∙ ap (λ bs. slice_index bytes 0 ∷ (take 8 (drop 1 bytes) ++ (take 8 (drop 9 bytes) ++ bs))) (sym (drop_more bytes 17 0 (omega arith)))
      ∙ ap (λ bs. slice_index bytes 0 ∷ (take 8 (drop 1 bytes) ++ bs)) (part 9 8 17 bytes refl)
      ∙ ap (λ bs. slice_index bytes 0 ∷ bs) (part 1 8 9 bytes refl)
      ∙ sym (drop_more bytes 0 0 (omega arith))

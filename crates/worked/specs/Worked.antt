-- Worked cases: terms byte by byte and what they answer, and texts of key hashes.
use Rattle.std.specs.Prelude.{◌≡◌, ℕ, true, false, List, [], ◌∷◌, replicate, Ok, Err, codes}
use Rattle.refusal.specs.declared.Refusal.TheVariants.{Malformed}
use Rattle.keyhash.specs.Base64.{text, reading}
use Rattle.permission.specs.Names.{IsName}
use Rattle.permission.specs.Answers.{SomeWellFormedTerm, Answers}

pub record Yes (bytes name : List ℕ) : Type 0 where
  pub answer : Answers bytes name (Ok true)

pub record No (bytes name : List ℕ) : Type 0 where
  pub answer : Answers bytes name (Ok false)

pub record IsMalformed (bytes : List ℕ) : Type 0 where
  pub no_term : SomeWellFormedTerm bytes → ⊥
  pub answer : (name : List ℕ) → Answers bytes name (Err Malformed)

pub record IsWellFormed (bytes : List ℕ) : Type 0 where
  pub term : SomeWellFormedTerm bytes

pub record HasText (hash chars : List ℕ) : Type 0 where
  pub written : text hash ≡ chars
  pub read : reading chars ≡ Ok hash

pub record IsNoText (chars : List ℕ) : Type 0 where
  pub refused : reading chars ≡ Err Malformed

pub record WorkedCases : Type 0 where
  pub all_covers_set_target : Yes (0x01 ∷ []) (codes "SetTarget")
  pub elt_abc_covers_abc : Yes (0x02 ∷ 0x03 ∷ 0x41 ∷ 0x42 ∷ 0x43 ∷ []) (codes "ABC")
  pub elt_abc_does_not_cover_abcd : No (0x02 ∷ 0x03 ∷ 0x41 ∷ 0x42 ∷ 0x43 ∷ []) (codes "ABCD")
  pub prefix_ab_covers_ab : Yes (0x03 ∷ 0x02 ∷ 0x41 ∷ 0x42 ∷ []) (codes "AB")
  pub prefix_ab_does_not_cover_a : No (0x03 ∷ 0x02 ∷ 0x41 ∷ 0x42 ∷ []) (codes "A")
  pub range_b_d_covers_b : Yes (0x04 ∷ 0x01 ∷ 0x42 ∷ 0x01 ∷ 0x44 ∷ []) (codes "B")
  pub range_b_d_covers_cz : Yes (0x04 ∷ 0x01 ∷ 0x42 ∷ 0x01 ∷ 0x44 ∷ []) (codes "CZ")
  pub range_b_d_covers_d : Yes (0x04 ∷ 0x01 ∷ 0x42 ∷ 0x01 ∷ 0x44 ∷ []) (codes "D")
  pub range_b_d_does_not_cover_da : No (0x04 ∷ 0x01 ∷ 0x42 ∷ 0x01 ∷ 0x44 ∷ []) (codes "DA")
  pub range_d_b_is_malformed : IsMalformed (0x04 ∷ 0x01 ∷ 0x44 ∷ 0x01 ∷ 0x42 ∷ [])
  pub elt_of_no_bytes_is_malformed : IsMalformed (0x02 ∷ 0x00 ∷ [])
  pub all_with_a_byte_over_is_malformed : IsMalformed (0x01 ∷ 0x01 ∷ [])
  pub empty_set_covers_nothing : (name : List ℕ) → IsName name → No (0x05 ∷ 0x00 ∷ []) name
  pub four_nested_sets_are_well_formed : IsWellFormed (0x05 ∷ 0x01 ∷ 0x05 ∷ 0x01 ∷ 0x05 ∷ 0x01 ∷ 0x05 ∷ 0x00 ∷ [])
  pub five_nested_sets_are_malformed : IsMalformed (0x05 ∷ 0x01 ∷ 0x05 ∷ 0x01 ∷ 0x05 ∷ 0x01 ∷ 0x05 ∷ 0x01 ∷ 0x05 ∷ 0x00 ∷ [])
  pub twenty_zero_bytes_are_27_times_a : HasText (replicate 20 0x00) (codes "AAAAAAAAAAAAAAAAAAAAAAAAAAA=")
  pub twenty_bytes_ff_are_26_slashes_and_8 : HasText (replicate 20 0xFF) (codes "//////////////////////////8=")
  pub with_9_in_its_place_it_is_malformed : IsNoText (codes "//////////////////////////9=")

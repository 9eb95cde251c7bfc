-- What a reader and a writer of key hashes owe each other.
use Rattle.std.specs.Prelude.{◌≡◌, ℕ, cond, List, length, Ok, Err, Result, ◌≢◌}
use Rattle.std.specs.Int.Digits.{AllBelowBase}
use Rattle.std.specs.Str.{bytes_eq}
use Rattle.refusal.specs.declared.Refusal.{Refusal}
use Rattle.refusal.specs.declared.Refusal.TheVariants.{Malformed}

-- a key hash: 20 bytes
abbrev pub KeyHash : List ℕ → Type 0
KeyHash hash = (length hash ≡ 20) × AllBelowBase 256 hash

-- The bytes read as a hash exactly where they are what the writer writes of it. `spell` is the only hash that they
-- can be the text of.
abbrev pub read_by : (List ℕ → List ℕ) → (List ℕ → List ℕ) → List ℕ → Result (List ℕ) Refusal
read_by write spell bytes = cond (bytes_eq bytes (write (spell bytes))) (Ok (spell bytes)) (Err Malformed)

-- a reader and a writer are each other's inverse, so each hash has one text
pub record Canonical (write : List ℕ → List ℕ) (read : List ℕ → Result (List ℕ) Refusal) : Type 0 where
  pub written_text_reads_back : (hash : List ℕ) → KeyHash hash → read (write hash) ≡ Ok hash
  pub only_written_text_reads : (bytes hash : List ℕ) → read bytes ≡ Ok hash → KeyHash hash × (bytes ≡ write hash)
  pub equal_hashes_have_equal_texts : (one other hash : List ℕ) → read one ≡ Ok hash → read other ≡ Ok hash → one ≡ other
  pub other_text_is_malformed : (bytes : List ℕ) → ((hash : List ℕ) → KeyHash hash → bytes ≢ write hash) → read bytes ≡ Err Malformed

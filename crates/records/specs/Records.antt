-- Entries and certificates: the bytes that hold them, and which bytes hold one.
use Rattle.std.specs.Prelude.{ℕ, zero, suc, ◌/◌, ◌%◌, Bool, cond, ◌&&◌, List, [], ◌∷◌, ◌++◌, length, take, drop, Ok, Err, Result, ◌==◌, nat_le, slice_index}
use Rattle.std.specs.List.{list_all}
use Rattle.std.specs.Int.Digits.{number_from_digits}
use Rattle.refusal.specs.declared.Refusal.{Refusal}
use Rattle.refusal.specs.declared.Refusal.TheVariants.{Malformed}
use Rattle.permission.specs.Reading.{well_formed}
use Rattle.records.specs.declared.types.Scope.{Scope}
use Rattle.records.specs.declared.types.Entry.{Entry}
use Rattle.records.specs.declared.types.Certificate.{Certificate}

-- a number in a count of bytes, the most significant first
unfoldable pub big_endian : ℕ → ℕ → List ℕ
big_endian zero n = []
big_endian (suc count) n = big_endian count (n / 256) ++ n % 256 ∷ []

-- the bytes of a scope's term, and those behind it
abbrev pub term_bytes : Scope → List ℕ
term_bytes s = take s.term_length s.term

abbrev pub filling : Scope → List ℕ
filling s = drop s.term_length s.term

abbrev pub flag_byte : Bool → ℕ
flag_byte delegate = cond delegate 1 0

-- the 66 bytes of a scope: flag, not-before, not-after, term length, term with its filling
unfoldable pub scope_bytes : Scope → List ℕ
scope_bytes s = flag_byte s.delegate ∷ (big_endian 8 s.not_before ++ (big_endian 8 s.not_after ++ s.term_length ∷ s.term))

-- the fields that stand in 66 bytes
abbrev pub scope_at : List ℕ → Scope
scope_at bytes = record {
  delegate = (slice_index bytes 0 == 1);
  not_before = number_from_digits 256 (take 8 (drop 1 bytes));
  not_after = number_from_digits 256 (take 8 (drop 9 bytes));
  term_length = slice_index bytes 17;
  term = drop 18 bytes;
}

abbrev pub all_zero : List ℕ → Bool
all_zero bytes = list_all (λ b. b == 0) bytes

-- the window is not empty, and the term is well formed and filled up with zeros
abbrev pub sound_scope : Scope → Bool
sound_scope s = nat_le s.not_before s.not_after && nat_le s.term_length 48 && well_formed (term_bytes s) && all_zero (filling s)

-- the scope that 66 bytes hold
unfoldable pub scope_in : List ℕ → Result Scope Refusal
scope_in bytes = cond (length bytes == 66 && (nat_le (slice_index bytes 0) 1 && sound_scope (scope_at bytes))) (Ok (scope_at bytes)) (Err Malformed)

-- the record that goes with a scope
abbrev pub with_scope : {R : Type 0} → (Scope → R) → Result Scope Refusal → Result R Refusal
with_scope made (Ok scope) = Ok (made scope)
with_scope made (Err why) = Err why

-- an entry, 86 bytes: the subject's hash and a scope
abbrev pub entry : List ℕ → Scope → Entry
entry s allowed = record { subject = s; scope = allowed }

unfoldable pub entry_bytes : Entry → List ℕ
entry_bytes e = e.subject ++ scope_bytes e.scope

unfoldable pub entry_in : List ℕ → Result Entry Refusal
entry_in bytes = cond (length bytes == 86) (with_scope (entry (take 20 bytes)) (scope_in (drop 20 bytes))) (Err Malformed)

-- a certificate, 126 bytes: the hashes of the issuer, the subject and the device, and a scope
abbrev pub certificate : List ℕ → List ℕ → List ℕ → Scope → Certificate
certificate i s d allowed = record { issuer = i; subject = s; device = d; scope = allowed }

unfoldable pub certificate_bytes : Certificate → List ℕ
certificate_bytes c = c.issuer ++ (c.subject ++ (c.device ++ scope_bytes c.scope))

unfoldable pub certificate_in : List ℕ → Result Certificate Refusal
certificate_in bytes = cond (length bytes == 126) (with_scope (certificate (take 20 bytes) (take 20 (drop 20 bytes)) (take 20 (drop 40 bytes))) (scope_in (drop 60 bytes))) (Err Malformed)

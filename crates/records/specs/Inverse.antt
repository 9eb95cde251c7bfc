-- What reading and writing of records owe each other.
use Rattle.std.specs.Prelude.{◌≡◌, ℕ, ◌^◌, ◌<◌, ◌≤◌, List, length, Ok, Err, Result, ◌≢◌}
use Rattle.std.specs.Int.Digits.{AllBelowBase}
use Rattle.std.specs.List.{AllByRecursion}
use Rattle.refusal.specs.declared.Refusal.{Refusal}
use Rattle.refusal.specs.declared.Refusal.TheVariants.{Malformed}
use Rattle.permission.specs.Answers.{SomeWellFormedTerm}
use Rattle.records.specs.declared.types.Scope.{Scope}
use Rattle.records.specs.declared.types.Entry.{Entry}
use Rattle.records.specs.declared.types.Certificate.{Certificate}
use Rattle.records.specs.Records.{term_bytes, filling, entry_bytes, entry_in, certificate_bytes, certificate_in}

abbrev pub Bytes : ℕ → List ℕ → Type 0
Bytes count bytes = (length bytes ≡ count) × AllBelowBase 256 bytes

-- what the fields can hold: every record in memory is so
pub record WindowFits (s : Scope) : Type 0 where
  pub not_before : s.not_before < 2 ^ 64
  pub not_after : s.not_after < 2 ^ 64

pub record ScopeFits (s : Scope) : Type 0 where
  pub window : WindowFits s
  pub term_length : s.term_length < 256
  pub term : Bytes 48 s.term

pub record EntryFits (e : Entry) : Type 0 where
  pub subject : Bytes 20 e.subject
  pub scope : ScopeFits e.scope

pub record CertificateFits (c : Certificate) : Type 0 where
  pub issuer : Bytes 20 c.issuer
  pub subject : Bytes 20 c.subject
  pub device : Bytes 20 c.device
  pub scope : ScopeFits c.scope

-- what the rules ask of the fields
pub record WellFormedScope (s : Scope) : Type 0 where
  pub window : s.not_before ≤ s.not_after
  pub term_within : s.term_length ≤ 48
  pub term : SomeWellFormedTerm (term_bytes s)
  pub filled_with_zeros : AllByRecursion (λ b. b ≡ 0) (filling s)

-- records of one size, and a reader and a writer of them that are each other's inverse
pub record Inverse {R : Type 0} (size : ℕ) (Fits WellFormed : R → Type 0) (write : R → List ℕ) (read : List ℕ → Result R Refusal) : Type 0 where
  pub every_record_has_its_size : (r : R) → Fits r → Bytes size (write r)
  pub what_is_written_reads_back : (r : R) → Fits r → WellFormed r → read (write r) ≡ Ok r
  pub what_reads_is_written_back : (bytes : List ℕ) (r : R) → AllBelowBase 256 bytes → read bytes ≡ Ok r → Fits r × WellFormed r × (write r ≡ bytes)
  pub all_else_is_malformed : (bytes : List ℕ) → AllBelowBase 256 bytes → ((r : R) → Fits r → WellFormed r → write r ≢ bytes) → read bytes ≡ Err Malformed
  pub equal_bytes_are_of_equal_records : (one other : R) → Fits one → Fits other → write one ≡ write other → one ≡ other

abbrev pub EntriesInverse : Type 0
EntriesInverse = Inverse 86 EntryFits (λ e. WellFormedScope e.scope) entry_bytes entry_in

abbrev pub CertificatesInverse : Type 0
CertificatesInverse = Inverse 126 CertificateFits (λ c. WellFormedScope c.scope) certificate_bytes certificate_in

-- What the C entries do: an answer, and what an output of the caller then holds.
use Rattle.std.specs.Prelude.{ℕ, Bool, cond, ◌&&◌, List, [], ◌∷◌, length, Ok, Err, Result, ◌==◌}
use Rattle.refusal.specs.declared.Refusal.{Refusal}
use Rattle.refusal.specs.declared.Refusal.TheVariants.{Malformed}
use Rattle.refusal.specs.Report.{report}
use Rattle.keyhash.specs.Element.{element, reading_element}
use Rattle.permission.specs.Reading.{covering}

-- the hash of an element, for an output of 20 bytes
abbrev pub hash_read : List ℕ → List ℕ → Result (List ℕ) Refusal
hash_read bytes out = cond (length out == 20) (reading_element bytes) (Err Malformed)

-- the element of 20 bytes, for an output of 119 bytes
abbrev pub hash_written : List ℕ → List ℕ → Result (List ℕ) Refusal
hash_written hash out = cond (length hash == 20 && length out == 119) (Ok (element hash)) (Err Malformed)

-- a verdict as one byte
abbrev pub verdict : Result Bool Refusal → Result (List ℕ) Refusal
verdict (Ok covered) = Ok (cond covered 1 0 ∷ [])
verdict (Err refusal) = Err refusal

-- whether a term covers a name, for an output of one byte
abbrev pub cover_told : List ℕ → List ℕ → List ℕ → Result (List ℕ) Refusal
cover_told term name out = cond (length out == 1) (verdict (covering term name)) (Err Malformed)

-- the answer: 0, or the refusal's error code
abbrev pub answer : {A : Type 0} → Result A Refusal → ℕ
answer (Ok value) = 0
answer (Err refusal) = (report refusal).code

-- the output afterwards: the result, or what it held
abbrev pub output : Result (List ℕ) Refusal → List ℕ → List ℕ
output (Ok bytes) out = bytes
output (Err refusal) out = out

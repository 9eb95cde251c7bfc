-- The envelope: a header of fixed places, the arguments, and a tag over everything before it.
use Rattle.std.specs.Prelude.{◌≡◌, ℕ, ◌+◌, ◌≤◌, Bool, true, false, cond, ◌&&◌, List, [], ◌∷◌, ◌++◌, length, take, drop, replicate, Some, None, Option, ◌==◌, nat_le}
use Rattle.std.specs.Int.Digits.{number_from_digits}
use Rattle.std.specs.Str.{bytes_eq}
use Rattle.wire.specs.declared.types.Kind.{Kind}
use Rattle.wire.specs.declared.types.Kind.TheVariants.{Unmarked, Session, PublicKey}

-- the number that so many bytes from a place on write, the highest first
unfoldable pub number_at : ℕ → ℕ → List ℕ → ℕ
number_at place count bytes = number_from_digits 256 (take count (drop place bytes))

-- Kinds

abbrev pub kind_numbered : ℕ → Option Kind
kind_numbered n = cond (n == 0) (Some Unmarked) (cond (n == 1) (Some Session) (cond (n == 2) (Some PublicKey) None))

abbrev pub number_of : Kind → ℕ
number_of Unmarked = 0
number_of Session = 1
number_of PublicKey = 2

-- by the first byte
unfoldable pub kind_of : List ℕ → Option Kind
kind_of [] = None
kind_of (n ∷ rest) = kind_numbered n

abbrev pub kind_or : Kind → Option Kind → Kind
kind_or other None = other
kind_or other (Some kind) = kind

-- the kind by which fields are found; bytes that name none have no well-formed header
abbrev pub kind_in : List ℕ → Kind
kind_in bytes = kind_or Unmarked (kind_of bytes)

-- Places: those behind the lengths depend on the kind, which today gives the same for each.

abbrev pub key_number_place : Kind → ℕ
key_number_place kind = 14

abbrev pub sequence_place : Kind → ℕ
sequence_place kind = 22

abbrev pub signer_place : Kind → ℕ
signer_place kind = 26

-- a key hash has this many bytes
abbrev pub hash_length : ℕ
hash_length = 20

abbrev pub header_length : Kind → ℕ
header_length kind = 46

-- Fields

abbrev pub action_code : List ℕ → ℕ
action_code bytes = number_at 1 1 bytes

abbrev pub control_number : List ℕ → ℕ
control_number bytes = number_at 2 2 bytes

abbrev pub total_length : List ℕ → ℕ
total_length bytes = number_at 4 2 bytes

abbrev pub arguments_place : List ℕ → ℕ
arguments_place bytes = number_at 6 2 bytes

abbrev pub arguments_length : List ℕ → ℕ
arguments_length bytes = number_at 8 2 bytes

abbrev pub tag_place : List ℕ → ℕ
tag_place bytes = number_at 10 2 bytes

abbrev pub tag_length : List ℕ → ℕ
tag_length bytes = number_at 12 2 bytes

-- the id of a session, or the lifetime base that a public key signs for
abbrev pub key_number : List ℕ → ℕ
key_number bytes = number_at (key_number_place (kind_in bytes)) 8 bytes

abbrev pub sequence_number : List ℕ → ℕ
sequence_number bytes = number_at (sequence_place (kind_in bytes)) 4 bytes

-- the signer's key hash
unfoldable pub signer : List ℕ → List ℕ
signer bytes = take hash_length (drop (signer_place (kind_in bytes)) bytes)

-- Parts

unfoldable pub arguments : List ℕ → List ℕ
arguments bytes = take (arguments_length bytes) (drop (arguments_place bytes) bytes)

-- everything before the tag
unfoldable pub signed_text : List ℕ → List ℕ
signed_text bytes = take (tag_place bytes) bytes

unfoldable pub tag : List ℕ → List ℕ
tag bytes = take (tag_length bytes) (drop (tag_place bytes) bytes)

-- Well-formed headers

-- the length of the tag: the first number where a session signs, the second where a public key does
abbrev pub tag_width : ℕ → ℕ → Kind → ℕ
tag_width session public Unmarked = 0
tag_width session public Session = session
tag_width session public PublicKey = public

abbrev pub no_signer : List ℕ
no_signer = replicate hash_length 0

-- what a kind has no use for
abbrev pub UnusedFieldsAreZero : Kind → List ℕ → Type 0
UnusedFieldsAreZero Unmarked bytes = (key_number bytes ≡ 0) × (sequence_number bytes ≡ 0) × (signer bytes ≡ no_signer)
UnusedFieldsAreZero Session bytes = Unit {0}
UnusedFieldsAreZero PublicKey bytes = sequence_number bytes ≡ 0

pub record WellFormedHeader (session public : ℕ) (bytes : List ℕ) : Type 0 where
  pub kind : Kind
  pub kind_is : kind_of bytes ≡ Some kind
  pub header_is_there : header_length kind ≤ length bytes
  pub total_length_is_the_number_of_bytes : total_length bytes ≡ length bytes
  pub arguments_follow_the_header : arguments_place bytes ≡ header_length kind
  pub tag_follows_the_arguments : tag_place bytes ≡ arguments_place bytes + arguments_length bytes
  pub tag_ends_at_the_total_length : tag_place bytes + tag_length bytes ≡ total_length bytes
  pub tag_has_the_length_of_its_kind : tag_length bytes ≡ tag_width session public kind
  pub unused_fields_are_zero : UnusedFieldsAreZero kind bytes

-- the same as tests
abbrev pub unused_fields_zero : Kind → List ℕ → Bool
unused_fields_zero Unmarked bytes = (key_number bytes == 0 && sequence_number bytes == 0) && bytes_eq (signer bytes) no_signer
unused_fields_zero Session bytes = true
unused_fields_zero PublicKey bytes = sequence_number bytes == 0

-- the lengths and offsets of a header of this kind
unfoldable pub places_agree : ℕ → Kind → List ℕ → Bool
places_agree width kind bytes = (total_length bytes == length bytes && arguments_place bytes == header_length kind) && ((tag_place bytes == arguments_place bytes + arguments_length bytes && tag_place bytes + tag_length bytes == total_length bytes) && tag_length bytes == width)

-- a header of this kind, and a tag of this length
unfoldable pub sound_of_kind : ℕ → Kind → List ℕ → Bool
sound_of_kind width kind bytes = nat_le (header_length kind) (length bytes) && (places_agree width kind bytes && unused_fields_zero kind bytes)

abbrev pub sound_as : ℕ → ℕ → List ℕ → Option Kind → Bool
sound_as session public bytes None = false
sound_as session public bytes (Some kind) = sound_of_kind (tag_width session public kind) kind bytes

unfoldable pub sound_header : ℕ → ℕ → List ℕ → Bool
sound_header session public bytes = sound_as session public bytes (kind_of bytes)

-- how the parts lie
pub record PartsLie (session public : ℕ) (bytes : List ℕ) : Type 0 where
  pub kind : Kind
  pub kind_is : kind_of bytes ≡ Some kind
  pub signed_text_and_tag_are_the_envelope : signed_text bytes ++ tag bytes ≡ bytes
  pub arguments_end_the_signed_text : take (header_length kind) bytes ++ arguments bytes ≡ signed_text bytes
  pub tag_has_the_length_of_its_kind : length (tag bytes) ≡ tag_width session public kind

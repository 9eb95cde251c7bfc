-- The signed text that a writer makes of an envelope's fields, and that it reads back.
use Rattle.std.specs.Prelude.{◌≡◌, ℕ, ◌+◌, ◌^◌, ◌<◌, ◌≤◌, cond, List, ◌∷◌, ◌++◌, length, drop, is_ok, Ok, Err, Result, nat_le}
use Rattle.refusal.specs.declared.Refusal.{Refusal}
use Rattle.refusal.specs.declared.Refusal.TheVariants.{Malformed, ShortBuffer}
use Rattle.records.specs.Records.{big_endian}
use Rattle.wire.specs.declared.types.Kind.{Kind}
use Rattle.wire.specs.declared.types.Kind.TheVariants.{Unmarked, Session, PublicKey}
use Rattle.wire.specs.Envelope.{number_of, header_length, hash_length, no_signer, tag_width}
use Rattle.wire.specs.Header.{Header, placed, header_in}

pub record Fields : Type 0 where
  pub kind : Kind
  pub action_code : ℕ
  pub control_number : ℕ
  pub key_number : ℕ
  pub sequence_number : ℕ
  pub signer : List ℕ
  pub arguments : List ℕ

abbrev pub text_length : Fields → ℕ
text_length f = header_length f.kind + length f.arguments

-- bytes 0 to 13, where the tag has so many bytes: kind, action code, control number, total length, then offset and
-- length of the arguments and of the tag
unfoldable pub front_bytes : ℕ → Fields → List ℕ
front_bytes width f = number_of f.kind ∷ f.action_code ∷ (big_endian 2 f.control_number ++ (big_endian 2 (text_length f + width) ++ (big_endian 2 (header_length f.kind) ++ (big_endian 2 (length f.arguments) ++ (big_endian 2 (text_length f) ++ big_endian 2 width)))))

unfoldable pub signed_text_of : ℕ → Fields → List ℕ
signed_text_of width f = front_bytes width f ++ (big_endian 8 f.key_number ++ (big_endian 4 f.sequence_number ++ (f.signer ++ f.arguments)))

-- the largest number of two bytes
abbrev pub longest : ℕ
longest = 65535

-- what the kind has no use for
abbrev pub Unused : Kind → Fields → Type 0
Unused Unmarked f = (f.key_number ≡ 0) × (f.sequence_number ≡ 0) × (f.signer ≡ no_signer)
Unused Session f = Unit {0}
Unused PublicKey f = f.sequence_number ≡ 0

-- what the fields can hold
pub record Fits (width : ℕ) (f : Fields) : Type 0 where
  pub action : f.action_code < 256
  pub control : f.control_number < 256 ^ 2
  pub key : f.key_number < 256 ^ 8
  pub sequence : f.sequence_number < 256 ^ 4
  pub hash : length f.signer ≡ hash_length
  pub room : text_length f + width ≤ longest
  pub unused : Unused f.kind f

-- the length of the text; lengths that two bytes cannot hold have no envelope, and a short buffer no room for it
unfoldable pub writing : ℕ → Fields → ℕ → Result ℕ Refusal
writing width f room = cond (nat_le (text_length f + width) longest) (cond (nat_le (text_length f) room) (Ok (text_length f)) (Err ShortBuffer)) (Err Malformed)

-- what the buffer then holds: the text and its own rest, or all that it had
unfoldable pub filled : ℕ → Fields → List ℕ → List ℕ
filled width f out = cond (is_ok (writing width f (length out))) (signed_text_of width f ++ drop (text_length f) out) out

-- the same two for verifiers with these tag lengths
abbrev pub width_for : ℕ → ℕ → Fields → ℕ
width_for session public f = tag_width session public f.kind

unfoldable pub writing_for : ℕ → ℕ → Fields → ℕ → Result ℕ Refusal
writing_for session public f room = writing (width_for session public f) f room

unfoldable pub filled_for : ℕ → ℕ → Fields → List ℕ → List ℕ
filled_for session public f out = filled (width_for session public f) f out

-- what is read of the text with a tag behind it
abbrev pub header_with : Fields → List ℕ → List ℕ → Header
header_with f text t = record {
  kind = f.kind;
  action_code = f.action_code;
  control_number = f.control_number;
  key_number = f.key_number;
  sequence_number = f.sequence_number;
  signer = f.signer;
  arguments = placed (header_length f.kind) f.arguments;
  signed_text = placed 0 text;
  tag = placed (text_length f) t;
}

-- with any tag of the right length behind it, the text reads as the fields that it was made of
abbrev pub ReadsBack : ℕ → ℕ → Fields → Type 0
ReadsBack session public f = (t : List ℕ) → length t ≡ width_for session public f → header_in session public (signed_text_of (width_for session public f) f ++ t) ≡ Ok (header_with f (signed_text_of (width_for session public f) f) t)

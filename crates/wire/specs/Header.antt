-- What a reader answers of an envelope.
use Rattle.std.specs.Prelude.{ℕ, cond, List, Ok, Err, Result}
use Rattle.refusal.specs.declared.Refusal.{Refusal}
use Rattle.refusal.specs.declared.Refusal.TheVariants.{Malformed}
use Rattle.wire.specs.declared.types.Kind.{Kind}
use Rattle.wire.specs.Envelope as envelope

-- bytes, and the place from which they lie in the envelope
pub record Placed : Type 0 where
  pub offset : ℕ
  pub bytes : List ℕ

abbrev pub placed : ℕ → List ℕ → Placed
placed place part = record { offset = place; bytes = part }

pub record Header : Type 0 where
  pub kind : Kind
  pub action_code : ℕ
  pub control_number : ℕ
  pub key_number : ℕ
  pub sequence_number : ℕ
  pub signer : List ℕ
  pub arguments : Placed
  pub signed_text : Placed
  pub tag : Placed

abbrev pub header_of : List ℕ → Header
header_of e = record {
  kind = envelope.kind_in e;
  action_code = envelope.action_code e;
  control_number = envelope.control_number e;
  key_number = envelope.key_number e;
  sequence_number = envelope.sequence_number e;
  signer = envelope.signer e;
  arguments = placed (envelope.arguments_place e) (envelope.arguments e);
  signed_text = placed 0 (envelope.signed_text e);
  tag = placed (envelope.tag_place e) (envelope.tag e);
}

-- the fields of a well-formed header; any other is malformed
unfoldable pub header_in : ℕ → ℕ → List ℕ → Result Header Refusal
header_in session public e = cond (envelope.sound_header session public e) (Ok (header_of e)) (Err Malformed)

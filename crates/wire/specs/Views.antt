-- What the reader's structs say, by value.
use Rattle.std.specs.Result.{result_map_both}
use Rattle.std.specs.Prelude.{Result}
use Rattle.refusal.specs.declared.Refusal.{Refusal}
use Rattle.wire.specs.declared.envelope.Part.{Part}
use Rattle.wire.specs.declared.envelope.Envelope.{Envelope}
use Rattle.wire.specs.Header.{Placed, placed, Header}

abbrev pub part : Part → Placed
part p = placed p.offset p.bytes.now

abbrev pub header : Envelope → Header
header e = record {
  kind = e.kind;
  action_code = e.action_code;
  control_number = e.control_number;
  key_number = e.key_number;
  sequence_number = e.sequence_number;
  signer = e.signer;
  arguments = part e.arguments;
  signed_text = part e.signed_text;
  tag = part e.tag;
}

abbrev pub answered : Result Envelope Refusal → Result Header Refusal
answered = result_map_both header (λ why. why)

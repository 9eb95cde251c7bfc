-- What is received: a request as the machine reads it, and the same as a struct of the code.
use Rattle.std.specs.Prelude.{ℕ, List, Some, Ok, Err, Result}
use Rattle.std.specs.Result.{result_map_both}
use Rattle.refusal.specs.declared.Refusal.{Refusal}
use Rattle.actions.specs.Arguments.{Arguments}
use Rattle.actions.specs.Views.{saying}
use Rattle.machine.specs.Requests.{Signed, signed_from, reading_in}
use Rattle.requests.specs.declared.types.Request.{Request}

pub record Received : Type 0 where
  pub signed : Signed
  pub asked : Arguments

abbrev pub with_signed : Signed → Result Arguments Refusal → Result Received Refusal
with_signed signed (Err why) = Err why
with_signed signed (Ok asked) = Ok (record { signed = signed; asked = asked })

-- the request in an envelope, for verifiers with tags of these lengths
abbrev pub received_in : ℕ → ℕ → List ℕ → Result Received Refusal
received_in session public envelope = with_signed (signed_from envelope) (reading_in session public envelope)

-- what the struct says
abbrev pub signed_by : Request → Signed
signed_by r = record {
  kind = Some r.kind;
  control = r.control_number;
  key_number = r.key_number;
  number = r.number;
  signer = r.signer;
  text = r.text.now;
  tag = r.tag.now;
}

abbrev pub received : Request → Received
received r = record { signed = signed_by r; asked = saying r.arguments }

abbrev pub answered : Result Request Refusal → Result Received Refusal
answered = result_map_both received (λ why. why)

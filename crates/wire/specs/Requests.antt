-- What a request that is written says, by value.
use Rattle.std.specs.Prelude.{ℕ, List}
use Rattle.wire.specs.declared.types.Kind.{Kind}
use Rattle.wire.specs.declared.types.Kind.TheVariants.{Unmarked, Session, PublicKey}
use Rattle.wire.specs.declared.request.Signer.{Signer}
use Rattle.wire.specs.declared.request.Signer.TheVariants.{Nobody, InSession, ByPublicKey}
use Rattle.wire.specs.declared.request.Request.{Request}
use Rattle.wire.specs.Envelope.{no_signer}
use Rattle.wire.specs.Writing.{Fields}

abbrev pub kind_by : Signer → Kind
kind_by Nobody = Unmarked
kind_by (InSession id number hash) = Session
kind_by (ByPublicKey base hash) = PublicKey

abbrev pub key_number_by : Signer → ℕ
key_number_by Nobody = 0
key_number_by (InSession id number hash) = id
key_number_by (ByPublicKey base hash) = base

abbrev pub sequence_number_by : Signer → ℕ
sequence_number_by Nobody = 0
sequence_number_by (InSession id number hash) = number
sequence_number_by (ByPublicKey base hash) = 0

abbrev pub signer_by : Signer → List ℕ
signer_by Nobody = no_signer
signer_by (InSession id number hash) = hash
signer_by (ByPublicKey base hash) = hash

abbrev pub fields_of : Request → Fields
fields_of q = record {
  kind = kind_by q.signer;
  action_code = q.action_code;
  control_number = q.control_number;
  key_number = key_number_by q.signer;
  sequence_number = sequence_number_by q.signer;
  signer = signer_by q.signer;
  arguments = q.arguments.now;
}

use Rattle.std.proofs.Common.{◌≡◌, Err, refl, ap, sym, ◌∙◌, rules}
use Rattle.wire.specs.Views.{header}
use Rattle.actions.specs.Codes.{action_of}
use Rattle.actions.specs.Arguments.{arguments_in}
use Rattle.actions.specs.Views.{saying}
use Rattle.requests.specs.Received.{answered}
use Rattle.requests.proofs.reader.receive.Goals as goal
use Rattle.requests.proofs.Fields.{no_header, no_action, no_arguments, all_read, field_by_field, action_told, no_action_told}

pub returns-in_err-envelope : goal.returns-in_err-envelope
returns-in_err-envelope g c =
    let answer : c.from_residual.result ≡ Err c.in_err-envelope.field-0.0 = search rules in
    record { as_defined = ap answered answer ∙ no_header g.V.Verifier.width g.P.Verifier.width c.args.bytes.now _ c.in_err-envelope.ensures.as_defined }

pub returns-in_err-action : goal.returns-in_err-action
returns-in_err-action g c =
    let answer : c.from_residual-in_err-action.result ≡ Err c.in_err-action.field-0.0 = search rules in
    let told = no_action_told c.action_code.result (action_of c.action_code.result) c.in_err-action.field-0.0 refl c.in_err-action.ensures in
    let none = sym (ap action_of c.action_code.ensures) ∙ told.0 in
    record {
      as_defined = ap answered (answer ∙ ap Err told.1) ∙ no_action g.V.Verifier.width g.P.Verifier.width c.args.bytes.now (header c.in_ok-envelope.envelope) c.in_ok-envelope.ensures.as_defined none;
    }

pub returns-in_err-arguments : goal.returns-in_err-arguments
returns-in_err-arguments g c =
    let ws = g.V.Verifier.width in
    let wp = g.P.Verifier.width in
    let answer : c.from_residual-in_err-arguments.result ≡ Err c.in_err-arguments.field-0.0 = search rules in
    let told = action_told c.action_code.result (action_of c.action_code.result) c.in_ok-action.action refl c.in_ok-action.ensures in
    let action = sym (ap action_of c.action_code.ensures) ∙ told in
    let bytes = ap (λ z. arguments_in ws wp c.in_ok-action.action z.bytes) c.arguments.ensures in
    let read = c.in_err-arguments.ensures.as_defined in
    let malformed = c.read-2.ensures.arguments_are_read_exactly.all_else_is_malformed _ _ _ (sym read) in
    record { as_defined = ap answered answer ∙ no_arguments ws wp c.args.bytes.now (header c.in_ok-envelope.envelope) c.in_ok-action.action _ c.in_ok-envelope.ensures.as_defined action malformed (read ∙ bytes) }

pub returns : goal.returns
returns g c =
    let ws = g.V.Verifier.width in
    let wp = g.P.Verifier.width in
    let told = action_told c.action_code.result (action_of c.action_code.result) c.in_ok-action.action refl c.in_ok-action.ensures in
    let action = sym (ap action_of c.action_code.ensures) ∙ told in
    let bytes = ap (λ z. arguments_in ws wp c.in_ok-action.action z.bytes) c.arguments.ensures in
    let whole = all_read ws wp c.args.bytes.now (header c.in_ok-envelope.envelope) c.in_ok-action.action (saying c.in_ok-arguments.arguments) c.in_ok-envelope.ensures.as_defined action (c.in_ok-arguments.ensures.as_defined ∙ bytes) in
    record {
      as_defined = field_by_field (header c.in_ok-envelope.envelope) (saying c.in_ok-arguments.arguments) _ c.kind.ensures c.control_number.ensures c.key_number.ensures c.sequence_number.ensures c.signer.ensures
          (ap (λ z. z.bytes) c.signed_text.ensures) (ap (λ z. z.bytes) c.tag.ensures) whole;
    }

use Rattle.std.proofs.Common.{◌≡◌, true, ◌∙◌, arith}
use Rattle.std.proofs.lemmas.Slice.Eq.{slice_eq-Decides}
use Rattle.std.proofs.lemmas.Bool.Decides.{Decides-eqb}
use Rattle.parties.specs.Relays.{is_set_target}
use Rattle.parties.proofs.Targets.{other_payload_is_no_target, target_is_tested, target_is_requested}
use Rattle.parties.proofs.relay_panel.requested.Goals as goal

pub returns-in_default : goal.returns-in_default
returns-in_default c = other_payload_is_no_target c.args.command.name.now c.args.command.payload.now (λ e. omega arith)

pub returns-in_default-2 : goal.returns-in_default-2
returns-in_default-2 c = other_payload_is_no_target c.args.command.name.now c.args.command.payload.now (λ e. omega arith)

pub returns-then-eq-relay : goal.returns-then-eq-relay
returns-then-eq-relay c =
    let name = c.args.command.name.now in
    let payload = c.args.command.payload.now in
    let is : is_set_target name payload ≡ true =
    target_is_tested name payload c.eq.result (slice_eq-Decides Decides-eqb _ _ _ c.eq.ensures) (omega arith) ∙ c.if-eq-relay.true in
    (is, target_is_requested name payload is)

pub returns-else-eq-relay : goal.returns-else-eq-relay
returns-else-eq-relay c =
    target_is_tested c.args.command.name.now c.args.command.payload.now c.eq.result (slice_eq-Decides Decides-eqb _ _ _ c.eq.ensures) (omega arith)
    ∙ c.if-eq-relay.false

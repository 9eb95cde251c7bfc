use Rattle.std.proofs.Common.{◌≡◌, true, false, Some, None, Ok, Err, sym, ap, ◌∙◌, arith, rules}
use Rattle.refusal.specs.declared.Refusal.TheVariants.{Malformed}
use Rattle.wire.specs.Envelope.{kind_or, sound_of_kind}
use Rattle.wire.specs.Header.{header_of}
use Rattle.wire.specs.Views.{answered}
use Rattle.wire.specs.declared.types.Kind.TheVariants.{Unmarked}
use Rattle.wire.proofs.Headers.{judged_by_kind, refused, accepted, places, parts_lie, answered_exactly}
use Rattle.wire.proofs.envelope.read_with.Goals as goal

pub returns-in_err-kind : goal.returns-in_err-kind
returns-in_err-kind c =
    let none : c.kind_in.result ≡ None = search rules in
    let unsound = judged_by_kind c.args.lengths.session c.args.lengths.public c.args.bytes.now None (sym c.kind_in.ensures ∙ none) in
    let answer : c.from_residual.result ≡ Err Malformed = search rules in
    let is = ap answered answer ∙ sym (refused c.args.lengths.session c.args.lengths.public c.args.bytes.now unsound) in
    record { as_defined = is; accepts_exactly_the_well_formed = answered_exactly c.args.lengths.session c.args.lengths.public c.args.bytes.now c.from_residual.result is; parts_lie_as_laid_out = parts_lie c.args.lengths.session c.args.lengths.public c.args.bytes.now }

pub returns-in_err-header : goal.returns-in_err-header
returns-in_err-header c =
    let no : sound_of_kind c.for_kind-width.result c.in_ok-kind.kind c.args.bytes.now ≡ false = search rules in
    let unsound =
    judged_by_kind c.args.lengths.session c.args.lengths.public c.args.bytes.now (Some c.in_ok-kind.kind) (sym c.kind_in.ensures ∙ (search rules))
    ∙ ap (λ w. sound_of_kind w c.in_ok-kind.kind c.args.bytes.now) (sym c.for_kind-width.ensures.as_defined)
    ∙ no in
    let answer : c.from_residual-in_err-header.result ≡ Err Malformed = search rules in
    let is = ap answered answer ∙ sym (refused c.args.lengths.session c.args.lengths.public c.args.bytes.now unsound) in
    record { as_defined = is; accepts_exactly_the_well_formed = answered_exactly c.args.lengths.session c.args.lengths.public c.args.bytes.now c.from_residual-in_err-header.result is; parts_lie_as_laid_out = parts_lie c.args.lengths.session c.args.lengths.public c.args.bytes.now }

pub opened-requires : goal.opened-requires
opened-requires c =
    let yes : sound_of_kind c.for_kind-width.result c.in_ok-kind.kind c.args.bytes.now ≡ true = search rules in
    let same : c.in_ok-header.header.bytes.now ≡ c.args.bytes.now = search rules in
    let kind : c.in_ok-header.header.kind ≡ c.in_ok-kind.kind = search rules in
    let p = places c.for_kind-width.result c.in_ok-kind.kind c.args.bytes.now yes in
    let known : c.kind_in.result ≡ Some c.in_ok-kind.kind = search rules in
    rw same (rw kind record { of_kind = ap (kind_or Unmarked) (sym c.kind_in.ensures ∙ known); arguments_within = omega arith; tag_within = omega arith })

pub returns : goal.returns
returns c =
    let yes : sound_of_kind c.for_kind-width.result c.in_ok-kind.kind c.args.bytes.now ≡ true = search rules in
    let same : c.in_ok-header.header.bytes.now ≡ c.args.bytes.now = search rules in
    let sound =
    judged_by_kind c.args.lengths.session c.args.lengths.public c.args.bytes.now (Some c.in_ok-kind.kind) (sym c.kind_in.ensures ∙ (search rules))
    ∙ ap (λ w. sound_of_kind w c.in_ok-kind.kind c.args.bytes.now) (sym c.for_kind-width.ensures.as_defined)
    ∙ yes in
    let is = ap Ok (c.opened.ensures ∙ ap header_of same) ∙ sym (accepted c.args.lengths.session c.args.lengths.public c.args.bytes.now sound) in
    record { as_defined = is; accepts_exactly_the_well_formed = answered_exactly c.args.lengths.session c.args.lengths.public c.args.bytes.now (Ok c.opened.result) is; parts_lie_as_laid_out = parts_lie c.args.lengths.session c.args.lengths.public c.args.bytes.now }

use Rattle.std.proofs.Common.{◌≡◌, List, ℕ, ◌++◌, length, Err, sym, ◌∙◌, rules}
use Rattle.refusal.specs.declared.Refusal.TheVariants.{Malformed}
use Rattle.keyhash.specs.Element.{opening, closing}
use Rattle.keyhash.proofs.Elements.{element_canonical, refuses_parts, refuses_stray_bits, reads_inner}
use Rattle.keyhash.proofs.element.read.Goals as goal

pub returns-in_err-value-clause-as_defined : goal.returns-in_err-value-clause-as_defined
returns-in_err-value-clause-as_defined c =
    let refused : c.from_residual.result ≡ Err Malformed = search rules in
    let none : (value : List ℕ) → length value ≡ 28 → c.args.bytes.now ≡ opening ++ (value ++ closing) → ⊥ = search rules in
    refused ∙ sym (refuses_parts c.args.bytes.now none)

pub returns-in_err-value-clause-reader_and_writer_are_inverse : goal.returns-in_err-value-clause-reader_and_writer_are_inverse
returns-in_err-value-clause-reader_and_writer_are_inverse c = element_canonical

pub returns-clause-as_defined : goal.returns-clause-as_defined
returns-clause-as_defined c =
    let long : length c.in_ok-value.value.now ≡ 28 = search rules in
    let is : c.args.bytes.now ≡ opening ++ (c.in_ok-value.value.now ++ closing) = search rules in
    c.decode.ensures.as_defined ∙ sym (reads_inner c.args.bytes.now c.in_ok-value.value.now long is)

pub returns-clause-reader_and_writer_are_inverse : goal.returns-clause-reader_and_writer_are_inverse
returns-clause-reader_and_writer_are_inverse c = element_canonical

pub returns-clause-stray_bits_are_refused : goal.returns-clause-stray_bits_are_refused
returns-clause-stray_bits_are_refused c = λ stray. returns-clause-as_defined c ∙ refuses_stray_bits c.args.bytes.now stray

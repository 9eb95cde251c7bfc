use Rattle.std.proofs.Common.{◌≡◌, ◌++◌, refl, ap, ◌∙◌, rules}
use Rattle.keyhash.specs.Base64.{text}
use Rattle.keyhash.specs.Element.{opening, closing, element, reading_element}
use Rattle.keyhash.proofs.Elements.{element_canonical, filled}
use Rattle.keyhash.proofs.Texts.{text_canonical}
use Rattle.keyhash.proofs.element.write.Goals as goal

pub returns-clause-canonical_text : goal.returns-clause-canonical_text
unfolding opening closing element
returns-clause-canonical_text c =
    let first : c.copy_from_slice.new.self ≡ opening = search rules in
    let second : c.copy_from_slice-2.new.self ≡ text c.args.hash = search rules in
    let third : c.copy_from_slice-3.new.self ≡ closing = search rules in
    filled c.copy_from_slice.new.self c.copy_from_slice-2.new.self c.copy_from_slice-3.new.self _ (search rules) (search rules) (search rules) refl ∙ ap (λ p. p ++ (c.copy_from_slice-2.new.self ++ c.copy_from_slice-3.new.self)) first ∙ ap (λ q. opening ++ (q ++ c.copy_from_slice-3.new.self)) second ∙ ap (λ s. opening ++ (text c.args.hash ++ s)) third

pub returns-clause-reads_back : goal.returns-clause-reads_back
returns-clause-reads_back c =
    let hash = (text_canonical.only_written_text_reads c.encode.result c.args.hash c.encode.ensures.reads_back).0 in
    ap reading_element (returns-clause-canonical_text c) ∙ element_canonical.written_text_reads_back c.args.hash hash

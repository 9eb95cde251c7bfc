use Rattle.std.proofs.Common.{◌≡◌, eqb, ap, ◌∙◌, arith}
use Rattle.std.specs.Str.{bytes_eq}
use Rattle.parties.proofs.Comparison.{none_apart, decides_same}
use Rattle.parties.proofs.bytes.same_in_constant_time.Goals as goal

pub returns : goal.returns
returns c =
    let a = c.args.a.now in
    let b = c.args.b.now in
    let test : eqb c.differing_bits.result 0 ≡ bytes_eq a b = ap (λ d. eqb d 0) c.differing_bits.ensures ∙ none_apart a b (omega arith) in
    record { test = test; decides = decides_same a b _ test }

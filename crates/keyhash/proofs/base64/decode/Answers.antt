use Rattle.std.proofs.Common.{◌≡◌, ◌/◌, ◌++◌, map, length, get_or, take, Ok, sym, ap, ◌∙◌, rules, arith}
use Rattle.std.specs.Int.Digits.{number_from_digits}
use Rattle.std.proofs.lemmas.Bool.{false≢true}
use Rattle.std.proofs.lemmas.List.{length-take-le}
use Rattle.keyhash.specs.Numeral.{numeral}
use Rattle.keyhash.specs.Base64.{digit_of, padding, spelled}
use Rattle.keyhash.proofs.Texts.{Readable, all_below_test, spelled_digits, readable_from_digits, digits_of_readable, last_of_readable, ends_from_test, test_from_ends, reading_readable, reading_refuses, stray_bits_refused, text_canonical}
use Rattle.keyhash.proofs.base64.decode.Goals as goal
use Rattle.keyhash.proofs.base64.decode.Goals.{then-not-all_of_six_bits-via-then-not-all_of_six_bits, then-not-all_of_six_bits-via-else-not-all_of_six_bits+then-not-ends_canonically}

pub slice_bounds-padded-end : goal.slice_bounds-padded-end
slice_bounds-padded-end c = sym (length-take-le 27 c.args.chars (omega arith))

pub padded-requires : goal.padded-requires
padded-requires c = (search rules, (let front = length-take-le 27 c.args.chars (omega arith) in omega (arith, front)))

pub invariant_of-hash : goal.invariant_of-hash
invariant_of-hash c = record { of_six_bits = (all_below_test c.digits_of-places.result c.all_of_six_bits.result c.all_of_six_bits.ensures).0 c.if-not-all_of_six_bits.false }

pub returns-then-not-all_of_six_bits-clause-as_defined : goal.returns-then-not-all_of_six_bits-clause-as_defined
returns-then-not-all_of_six_bits-clause-as_defined c =
    let long : length c.args.chars ≡ 28 = search rules in
    let filled : c.padded.result ≡ take 27 c.args.chars ++ padding = (let front = length-take-le 27 c.args.chars (omega arith) in search rules) in
    let digits = c.digits_of-places.ensures ∙ ap (map digit_of) filled in
    sym (reading_refuses c.args.chars (λ good.
    elim c.then-not-all_of_six_bits.branch [
      | then-not-all_of_six_bits-via-then-not-all_of_six_bits w ↦
          false≢true (sym w.if-not-all_of_six_bits.true ∙ (all_below_test c.digits_of-places.result c.all_of_six_bits.result c.all_of_six_bits.ensures).1 (digits_of_readable c.args.chars c.digits_of-places.result long digits good))
      | then-not-all_of_six_bits-via-else-not-all_of_six_bits+then-not-ends_canonically w ↦
          false≢true (sym w.if-not-ends_canonically.true ∙ w.ends_canonically.ensures ∙ test_from_ends _ _ (last_of_readable c.args.chars c.digits_of-places.result long digits good) good.padded)
    ]))

pub returns-then-not-all_of_six_bits-clause-reader_and_writer_are_inverse : goal.returns-then-not-all_of_six_bits-clause-reader_and_writer_are_inverse
returns-then-not-all_of_six_bits-clause-reader_and_writer_are_inverse c = text_canonical

pub returns-clause-as_defined : goal.returns-clause-as_defined
unfolding spelled
returns-clause-as_defined c =
    let long : length c.args.chars ≡ 28 = search rules in
    let filled : c.padded.result ≡ take 27 c.args.chars ++ padding = (let front = length-take-le 27 c.args.chars (omega arith) in search rules) in
    let digits = c.digits_of-places.ensures ∙ ap (map digit_of) filled in
    let ends = ends_from_test (get_or c.digits_of-places.result 26 0) (get_or c.args.chars 27 0) (sym c.ends_canonically.ensures ∙ c.if-not-ends_canonically.false) in
    let good : Readable c.args.chars = readable_from_digits c.args.chars c.digits_of-places.result long digits ends.1 ((all_below_test c.digits_of-places.result c.all_of_six_bits.result c.all_of_six_bits.ensures).0 c.if-not-all_of_six_bits.false) ends.0 in
    ap Ok (c.hash.ensures ∙ ap (λ ds. numeral 256 20 (number_from_digits 64 ds / 4)) (spelled_digits c.args.chars c.digits_of-places.result long digits))
    ∙ sym (reading_readable c.args.chars long good)

pub returns-clause-reader_and_writer_are_inverse : goal.returns-clause-reader_and_writer_are_inverse
returns-clause-reader_and_writer_are_inverse c = text_canonical

pub returns-clause-stray_bits_are_refused : goal.returns-clause-stray_bits_are_refused
returns-clause-stray_bits_are_refused c = λ stray. returns-clause-as_defined c ∙ stray_bits_refused c.args.chars stray

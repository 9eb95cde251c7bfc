use Rattle.std.proofs.Common.{◌≡◌, length, drop, sym, refl, ap, ◌∙◌, arith, rules}
use Rattle.std.proofs.lemmas.List.{drop-drop}
use Rattle.records.specs.Records.{big_endian}
use Rattle.records.specs.Numbers.{eight_bytes_are_big_endian, four_bytes_are_big_endian}
use Rattle.wire.specs.Writing.{text_length, front_bytes, signed_text_of}
use Rattle.wire.specs.Requests.{fields_of}
use Rattle.wire.proofs.Filling.{five_parts}
use Rattle.wire.proofs.Written.{unused_of}
use Rattle.wire.proofs.request.Request.put_text.Goals as goal

pub returns : goal.returns
unfolding signed_text_of
returns c =
    let f = fields_of c.args.self.now in
    let long : length c.key_hash.result ≡ 20 = search rules in
    let key = c.to_be_bytes.ensures ∙ eight_bytes_are_big_endian c.key_number.result ∙ ap (big_endian 8) c.key_number.ensures in
    let number = c.to_be_bytes-2.ensures ∙ four_bytes_are_big_endian c.sequence_number.result ∙ ap (big_endian 4) c.sequence_number.ensures in
    let rest : c.split_at_mut-arguments.result.1.now ≡ drop (text_length (fields_of c.args.self.now)) c.args.out.now =
    c.split_at_mut-arguments.ensures.back
    ∙ ap (drop (length f.arguments)) (c.split_at_mut-signer.ensures.back ∙ ap (drop 20) (c.split_at_mut-sequence_number.ensures.back ∙ ap (drop 4) (c.split_at_mut-key_number.ensures.back ∙ ap (drop 8) c.split_at_mut-front.ensures.back)))
    ∙ simp drop-drop (ap (λ n. drop n c.args.out.now) (omega arith)) in
    record {
      length = refl;
      buffer =
          rw (c.copy_from_slice.ensures.after, c.copy_from_slice-2.ensures.after, c.copy_from_slice-3.ensures.after, c.copy_from_slice-4.ensures.after, c.copy_from_slice-5.ensures.after, c.front.ensures.bytes, key, number, c.key_hash.ensures, rest)
          (five_parts (front_bytes c.args.width f) (big_endian 8 f.key_number) (big_endian 4 f.sequence_number) f.signer f.arguments (drop (text_length f) c.args.out.now));
      fields_fit = record {
        action = c.front.ensures.action_fits;
        control = c.front.ensures.control_fits;
        key = rw (sym c.key_number.ensures) (search rules);
        sequence = rw (sym c.sequence_number.ensures) (search rules);
        hash = ap length (sym c.key_hash.ensures) ∙ long;
        room = c.requires.lengths_fit;
        unused = unused_of c.args.self.now;
      };
    }

use Rattle.std.proofs.Common.{◌≡◌, ◌<◌, get_or, w8, Fits, Bool, true, false, refl, ◌∙◌, rules}
use Rattle.std.proofs.ByRecursion.{All-from_get_or}
use mir.Val.{bool_byte}
use Rattle.records.specs.Numbers.{eight_bytes_are_big_endian}
use Rattle.records.specs.Records.{scope_bytes, flag_byte}
use Rattle.records.proofs.types.Scope.write.Goals as goal

flag_byte_lem : (b : Bool) → bool_byte b ≡ flag_byte b
flag_byte_lem true = refl
flag_byte_lem false = refl

pub returns : goal.returns
unfolding scope_bytes
returns c =
    let s = c.args.self.now in
    let before = c.to_be_bytes.ensures ∙ eight_bytes_are_big_endian s.not_before in
    let after = c.to_be_bytes-2.ensures ∙ eight_bytes_are_big_endian s.not_after in
    record {
      as_defined = rw (c.copy_from_slice.ensures.after, c.copy_from_slice-2.ensures.after, c.copy_from_slice-3.ensures.after, c.copy_from_slice-4.ensures.after, c.copy_from_slice-5.ensures.after, c.from.ensures, flag_byte_lem s.delegate, before, after, c.to_be_bytes-3.ensures) refl;
      fits = record {
        window = record { not_before = search rules; not_after = search rules };
        term_length = search rules;
        term = (search rules, All-from_get_or (λ d. d < 256) s.term 0 (λ k l. let f : Fits w8 (get_or s.term k 0) = search rules in f.fits));
      };
    }

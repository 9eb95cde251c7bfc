use Rattle.std.proofs.Common.{◌≡◌, ◌++◌, replicate, length, ap, refl, arith, length-append}
use lib.Bits.{bit_xor}
use Rattle.std.proofs.lemmas.List.{get_or_default}
use Rattle.std.proofs.lemmas.List.Edits.{map_over_more}
use Rattle.sha1_hmac.proofs.Masks.{masked_all, zeros_do_not_change_a_key}
use Rattle.sha1_hmac.proofs.keyed.mask_key.Goals as goal

pub loop-byte-init : goal.loop-byte-init
loop-byte-init c = refl

pub loop-byte-preserved : goal.loop-byte-preserved
loop-byte-preserved c =
    let block = c.copy_from_slice.new.self ++ replicate 44 0 in
    let long : length block ≡ 64 = simp length-append (omega arith) in
    map_over_more (λ b. bit_xor b c.args.mask) block c.loop-byte.byte-items c.loop-byte.byte-index _ (omega arith) c.loop-byte.invariant (get_or_default c.loop-byte.byte-items c.loop-byte.byte-index 0 _ (omega arith))

pub returns : goal.returns
returns c =
    let block = c.copy_from_slice.new.self ++ replicate 44 0 in
    let long : length block ≡ 64 = simp length-append (omega arith) in
    record {
      masks = masked_all c.args.mask c.args.key block c.loop-byte.byte-items c.loop-byte.byte-index (omega arith) (ap (λ k. k ++ replicate 44 0) c.copy_from_slice.ensures.after) (omega arith) c.loop-byte.invariant;
      zeros_do_not_change_a_key = zeros_do_not_change_a_key;
    }

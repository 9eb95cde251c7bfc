use Rattle.std.proofs.Common.{arith}
use Rattle.std.proofs.lemmas.List.{drop-replicate}
use Rattle.sha1_hmac.proofs.Masks.{zeros_do_not_change_a_key}
use Rattle.sha1_hmac.proofs.keyed.key_from.Goals as goal

pub returns-clause-gives_the_tags_of_the_bytes : goal.returns-clause-gives_the_tags_of_the_bytes
returns-clause-gives_the_tags_of_the_bytes c = λ text.
    simp (c.copy_from_slice.ensures.after, drop-replicate) (zeros_do_not_change_a_key c.args.bytes.now text (omega arith))

use Rattle.std.proofs.Common.{◌+◌, ◌-◌, ◌%◌, ◌++◌, length, subst, arith, rules}
use Rattle.std.proofs.lemmas.Slice.{overwrites}
use Rattle.sha1_hmac.specs.Message.{padded}
use Rattle.sha1_hmac.specs.Stream.{Absorbed}
use Rattle.sha1_hmac.proofs.Schedule.{schedule_follows_the_recurrence}
use Rattle.sha1_hmac.proofs.Padding.{padding_is_the_least, padding_ends_a_block, padding_written}
use Rattle.sha1_hmac.proofs.stream.Sha1.pad.Goals as goal

pub returns : goal.returns
unfolding padded
returns c =
    record {
      pads = λ m a.
          let zeros = (119 - c.held.result) % 64 in
          let e = padding_written (length m) c.args.self.total a.total _ _ (1 + zeros) (9 + zeros) c.to_be_bytes.ensures (omega arith) (omega arith) (search (rules, overwrites)) in
          subst (λ p. Absorbed c.update.new.self (m ++ p)) e (c.update.ensures.absorbs m a);
      schedule_follows_the_recurrence = schedule_follows_the_recurrence;
      padding_is_the_least = padding_is_the_least;
      padding_ends_a_block = padding_ends_a_block;
    }

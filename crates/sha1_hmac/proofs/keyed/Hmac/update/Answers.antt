use Rattle.std.proofs.Common.{subst}
use Rattle.std.proofs.lemmas.List.{append_assoc}
use Rattle.sha1_hmac.specs.Keyed.{ipad}
use Rattle.sha1_hmac.specs.Stream.{Absorbed}
use Rattle.sha1_hmac.proofs.keyed.Hmac.update.Goals as goal

pub returns : goal.returns
returns c =
    record {
      absorbs = λ key text a. (subst (Absorbed c.update.new.self) (append_assoc (ipad key) text c.args.part.now) (c.update.ensures.absorbs _ a.0), a.1);
    }

use Rattle.std.proofs.Common.{◌≡◌, ◌<◌, sym, ◌∙◌, arith}
use Rattle.std.proofs.ByRecursion.{All-from_get_or}
use Rattle.delegation.proofs.Words.{words_tell}
use Rattle.delegation.proofs.hashes.is_same.Goals as goal

pub returns : goal.returns
returns c =
    let one = c.args.one.now in
    let other = c.args.other.now in
    let same : c.word_at.result ≡ c.word_at-2.result = omega arith in
    let tell =
    words_tell one other c.told-one c.told-other (All-from_get_or (λ b. b < 256) one 0 (λ k l. c.fits-one k)) (All-from_get_or (λ b. b < 256) other 0 (λ k l. c.fits-other k))
    (sym c.word_at.ensures ∙ same ∙ c.word_at-2.ensures) in
    cc

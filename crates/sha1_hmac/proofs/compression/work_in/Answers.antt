use Rattle.std.proofs.Common.{◌≡◌, ap, ◌∙◌}
use Rattle.sha1_hmac.specs.Compression.{sums, rounds, compress}
use Rattle.sha1_hmac.proofs.Schedule.{first_window_is, halves_are_rounds}
use Rattle.sha1_hmac.proofs.compression.work_in.Goals as goal

pub returns : goal.returns
unfolding compress
returns c =
    let w = c.first.ensures ∙ first_window_is c.args.block.now in
    let s : c.second_half.result ≡ rounds c.args.block.now 80 c.args.words.now =
    simp (c.second_half.ensures, c.first_half.ensures.state, c.first_half.ensures.words)
    (halves_are_rounds c.args.block.now c.args.words.now c.first.result w) in
    c.sum.ensures ∙ ap (λ x. sums x c.args.words.now) s

use Rattle.std.proofs.Common.{[], sym, ap, ◌∙◌}
use Rattle.sha1_hmac.specs.Message.{digest}
use Rattle.vectors.proofs.cases.in_pieces.Goals as goal

pub returns : goal.returns
returns c =
    let nothing = c.new-hash.ensures.absorbed_nothing in
    let front = c.update.ensures.absorbs [] nothing in
    let both = c.update-2.ensures.absorbs _ front in
    c.finish.ensures.digests _ both ∙ ap digest (sym c.split_at.ensures.by_index.0)

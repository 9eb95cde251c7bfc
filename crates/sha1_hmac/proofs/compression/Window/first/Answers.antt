use Rattle.sha1_hmac.specs.Compression.{big_endian}
use Rattle.sha1_hmac.proofs.Pieces.{pieces_written_out}
use Rattle.sha1_hmac.proofs.compression.Window.first.Goals as goal

pub returns : goal.returns
unfolding big_endian
returns c =
    simp (c.words.ensures, c.words-2.ensures, c.words-3.ensures, c.words-4.ensures, pieces_written_out 16 64 c.args.block.now c.as_chunks.result.0.now c.as_chunks.ensures.front c.told-block)

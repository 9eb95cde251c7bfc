use Rattle.std.proofs.Common.{◌≡◌, [], length, get_or, w32, ◌∙◌, rules}
use Rattle.std.specs.Int.{from_be_bytes}
use Rattle.sha1_hmac.specs.Compression.{big_endian}
use Rattle.sha1_hmac.proofs.Pieces.{written_out, pieces_written_out}
use Rattle.sha1_hmac.proofs.compression.words.Goals as goal

pub returns : goal.returns
unfolding big_endian
returns c =
    let ws = c.from_fn.result in
    let fours = c.as_chunks.result.0.now in
    let first : get_or ws 0 0 ≡ from_be_bytes w32 (get_or fours 0 []) = search rules in
    let second : get_or ws 1 0 ≡ from_be_bytes w32 (get_or fours 1 []) = search rules in
    let third : get_or ws 2 0 ≡ from_be_bytes w32 (get_or fours 2 []) = search rules in
    let fourth : get_or ws 3 0 ≡ from_be_bytes w32 (get_or fours 3 []) = search rules in
    let four : length ws ≡ 4 = search rules in
    written_out 0 ws 4 four ∙ simp (first, second, third, fourth, pieces_written_out 4 16 c.args.bytes.now fours c.as_chunks.ensures.front c.told-bytes)

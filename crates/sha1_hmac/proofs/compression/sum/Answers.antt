use Rattle.std.proofs.Common.{◌≡◌, length, get_or, ◌∙◌, rules}
use Rattle.sha1_hmac.specs.Words.{plus}
use Rattle.sha1_hmac.proofs.Pieces.{written_out}
use Rattle.sha1_hmac.proofs.compression.sum.Goals as goal

pub returns : goal.returns
returns c =
    let s = c.args.s in
    let h = c.args.h in
    let sum = c.from_fn.result in
    let first : get_or sum 0 0 ≡ plus (get_or s 0 0) (get_or h 0 0) = search rules in
    let second : get_or sum 1 0 ≡ plus (get_or s 1 0) (get_or h 1 0) = search rules in
    let third : get_or sum 2 0 ≡ plus (get_or s 2 0) (get_or h 2 0) = search rules in
    let fourth : get_or sum 3 0 ≡ plus (get_or s 3 0) (get_or h 3 0) = search rules in
    let fifth : get_or sum 4 0 ≡ plus (get_or s 4 0) (get_or h 4 0) = search rules in
    let five : length sum ≡ 5 = search rules in
    written_out 0 sum 5 five ∙ simp (first, second, third, fourth, fifth)

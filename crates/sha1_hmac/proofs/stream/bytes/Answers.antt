use Rattle.std.proofs.Common.{◌≡◌, ◌∙◌, [], length, get_or, ap, sym, rules}
use Rattle.std.specs.List.{flat_map}
use Rattle.sha1_hmac.specs.Message.{four_bytes}
use Rattle.sha1_hmac.proofs.Pieces.{written_out}
use Rattle.sha1_hmac.proofs.stream.bytes.Goals as goal

pub returns : goal.returns
returns c =
    let ws = c.args.words in
    let fours = c.map.result in
    let a : get_or fours 0 [] ≡ four_bytes (get_or ws 0 0) = search rules in
    let b : get_or fours 1 [] ≡ four_bytes (get_or ws 1 0) = search rules in
    let d : get_or fours 2 [] ≡ four_bytes (get_or ws 2 0) = search rules in
    let e : get_or fours 3 [] ≡ four_bytes (get_or ws 3 0) = search rules in
    let f : get_or fours 4 [] ≡ four_bytes (get_or ws 4 0) = search rules in
    let long : length fours ≡ 5 = search rules in
    let five : length ws ≡ 5 = search rules in
    let same : c.unwrap.result.now ≡ c.as_flattened.result.now = search rules in
    same ∙ c.as_flattened.ensures.value ∙ ap (flat_map (λ x. x)) (written_out [] fours 5 long)
    ∙ simp (a, b, d, e, f) (ap (flat_map four_bytes) (sym (written_out 0 ws 5 five)))

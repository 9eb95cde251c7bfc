use Rattle.std.proofs.Common.{◌≡◌, ℕ, ◌<◌, ◌++◌, [], ◌∷◌, map, length, get_or, take, sym, ap, ◌∙◌, w8, Fits, rules, arith}
use Rattle.std.proofs.ByRecursion.{All-from_get_or}
use Rattle.std.proofs.lemmas.List.{length-take-le, take-map}
use Rattle.keyhash.specs.Base64.{character, text, reading}
use Rattle.keyhash.proofs.Texts.{text_canonical}
use Rattle.keyhash.proofs.base64.encode.Goals as goal

pub slice_bounds-padded-end-2 : goal.slice_bounds-padded-end-2
slice_bounds-padded-end-2 c = sym (length-take-le 27 c.characters.result (omega arith))

pub padded-requires : goal.padded-requires
padded-requires c = (search rules, (let front = length-take-le 27 c.characters.result (omega arith) in omega (arith, front)))

pub returns-clause-canonical_text : goal.returns-clause-canonical_text
unfolding text
returns-clause-canonical_text c =
    let filled : c.padded.result ≡ take 27 c.characters.result ++ 61 ∷ [] = (let front = length-take-le 27 c.characters.result (omega arith) in search rules) in
    filled ∙ ap (λ chars. chars ++ 61 ∷ []) (ap (take 27) c.characters.ensures ∙ take-map character 27 c.of_hash.result.places ∙ ap (map character) c.of_hash.ensures)

pub returns-clause-reads_back : goal.returns-clause-reads_back
returns-clause-reads_back c =
    let bytes : (k : ℕ) → k < length c.args.hash → get_or c.args.hash k 0 < 256 = λ k l. let f : Fits w8 (get_or c.args.hash k 0) = search rules in f.fits in
    ap reading (returns-clause-canonical_text c) ∙ text_canonical.written_text_reads_back c.args.hash (search rules, All-from_get_or (λ d. d < 256) c.args.hash 0 bytes)

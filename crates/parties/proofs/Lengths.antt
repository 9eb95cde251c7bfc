-- A digest has twenty bytes, and so has a tag by HMAC.
use Rattle.std.proofs.Common.{◌≡◌, ℕ, zero, suc, ◌*◌, List, [], ◌∷◌, length, refl, ap, ◌∙◌, arith}
use Rattle.std.specs.List.{flat_map}
use Rattle.sha1_hmac.specs.Compression.{compress}
use Rattle.sha1_hmac.specs.Message.{four_bytes, digest, hashed, padded}
use Rattle.sha1_hmac.specs.Keyed.{hmac_of}
use Rattle.parties.specs.Standing.{hmac_stands, OtherLengthsNeverStand}
use Rattle.parties.proofs.Comparison.{other_length_differs}

a_hash_value_has_5_words : (message : List ℕ) (n : ℕ) → length (hashed message n) ≡ 5
unfolding compress
a_hash_value_has_5_words message zero = refl
a_hash_value_has_5_words message (suc n) = refl

each_word_gives_4_bytes : (ws : List ℕ) → length (flat_map four_bytes ws) ≡ 4 * length ws
each_word_gives_4_bytes [] = refl
each_word_gives_4_bytes (w ∷ ws) = let rest = each_word_gives_4_bytes ws in omega arith

pub a_digest_has_20_bytes : (message : List ℕ) → length (digest message) ≡ 20
a_digest_has_20_bytes message =
    each_word_gives_4_bytes (hashed (padded message) _) ∙ ap (λ n. 4 * n) (a_hash_value_has_5_words (padded message) _)

pub no_other_length_is_an_hmac : OtherLengthsNeverStand 20 hmac_stands
no_other_length_is_an_hmac key text tag other = other_length_differs (hmac_of key text) tag (λ e. other (e ∙ a_digest_has_20_bytes _))

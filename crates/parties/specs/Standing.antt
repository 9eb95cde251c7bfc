-- Which tags stand for a key and a text.
use Rattle.std.specs.Prelude.{◌≡◌, ℕ, ◌<◌, Bool, false, ◌&&◌, List, length, ◌==◌, ◌≢◌}
use Rattle.std.specs.List.{HoldsAt, list_any}
use Rattle.std.specs.Str.{bytes_eq}
use Rattle.sha1_hmac.specs.Keyed.{hmac_of}
use Rattle.sha1_hmac.specs.Message.{digest}
use Rattle.parties.specs.declared.verified_signatures.VerifiedSignature.{VerifiedSignature}

-- A verifier that accepts tags of one length accepts none of another, whatever the key and the text.
abbrev pub OtherLengthsNeverStand : ℕ → (List ℕ → List ℕ → List ℕ → Bool) → Type 0
OtherLengthsNeverStand width stands = (key text tag : List ℕ) → (length tag ≢ width) → stands key text tag ≡ false

-- The tag is the HMAC-SHA1 of the text under the key.
abbrev pub hmac_stands : List ℕ → List ℕ → List ℕ → Bool
hmac_stands key text tag = bytes_eq (hmac_of key text) tag

-- A verified signature agrees in all three parts: the key hash, the digest of the text, and the tag.
pub record Agrees (key text_digest tag : List ℕ) (s : VerifiedSignature) : Type 0 where
  pub key_is : s.key_hash ≡ key
  pub text_is : s.text_digest ≡ text_digest
  pub tag_is : s.tag ≡ tag

-- One of the list agrees.
abbrev pub OneAgrees : List ℕ → List ℕ → List ℕ → List VerifiedSignature → Type 0
OneAgrees key text_digest tag list = (k : ℕ) × (k < length list) × HoldsAt (Agrees key text_digest tag) list k

-- the same two as tests
abbrev pub agrees : List ℕ → List ℕ → List ℕ → VerifiedSignature → Bool
agrees key text_digest tag s = (bytes_eq s.key_hash key && bytes_eq s.text_digest text_digest) && bytes_eq s.tag tag

abbrev pub one_agrees : List ℕ → List ℕ → List ℕ → List VerifiedSignature → Bool
one_agrees key text_digest tag list = list_any (agrees key text_digest tag) list

-- The tag has twenty bytes, as every tag on the list, and one of the list agrees with it, the key and the text.
abbrev pub signature_stands : List VerifiedSignature → List ℕ → List ℕ → List ℕ → Bool
signature_stands list key text tag = length tag == 20 && one_agrees key (digest text) tag list

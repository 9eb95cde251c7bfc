-- The tests on verified signatures decide what they stand for.
use Rattle.std.proofs.Common.{◌≡◌, ℕ, Bool, ◌&&◌, List, length, Decides, sym, refl, ap}
use Rattle.std.specs.Str.{bytes_eq}
use Rattle.std.proofs.lemmas.Slice.Eq.{bytes_eq-Decides}
use Rattle.std.proofs.lemmas.Bool.{eq-eqb, ne_eqb, and_left}
use Rattle.std.proofs.lemmas.Bool.Decides.{Decides-and, Decides-like, Decides-by_or, Decides-eqb, Decides-at}
use Rattle.sha1_hmac.specs.Message.{digest}
use Rattle.parties.specs.declared.verified_signatures.VerifiedSignature.{VerifiedSignature}
use Rattle.parties.specs.Standing.{Agrees, OneAgrees, OtherLengthsNeverStand, agrees, one_agrees, signature_stands}

module _ (key text_digest tag : List ℕ) where
  agrees_decides : (s : VerifiedSignature) → Decides (agrees key text_digest tag s) (Agrees key text_digest tag s)
  agrees_decides s =
      Decides-like ((bytes_eq s.key_hash key && bytes_eq s.text_digest text_digest) && bytes_eq s.tag tag)
      (λ h. record { key_is = h.0.0; text_is = h.0.1; tag_is = h.1 }) (λ a. ((a.key_is, a.text_is), a.tag_is))
      (Decides-and _ _ (Decides-and _ _ (bytes_eq-Decides s.key_hash key) (bytes_eq-Decides s.text_digest text_digest)) (bytes_eq-Decides s.tag tag))

  one_agrees_decides : (list : List VerifiedSignature) → Decides (one_agrees key text_digest tag list) (OneAgrees key text_digest tag list)
  one_agrees_decides = Decides-by_or (agrees key text_digest tag) (Agrees key text_digest tag) (one_agrees key text_digest tag) agrees_decides refl (λ _ _. refl)

module _ (list : List VerifiedSignature) where
  pub other_lengths_never_stand : OtherLengthsNeverStand 20 (signature_stands list)
  other_lengths_never_stand key text tag other = and_left _ _ (ne_eqb (length tag) 20 other)

  module _ (key text tag : List ℕ) where
    pub twenty_bytes_stand_by_the_list : length tag ≡ 20 → one_agrees key (digest text) tag list ≡ signature_stands list key text tag
    twenty_bytes_stand_by_the_list twenty = sym (ap (λ b. b && one_agrees key (digest text) tag list) (eq-eqb (length tag) 20 twenty))

    -- an answer by the test is one by what it stands for
    pub decides_standing : (r : Bool) → r ≡ signature_stands list key text tag → Decides r ((length tag ≡ 20) × OneAgrees key (digest text) tag list)
    decides_standing r e =
        Decides-at r (signature_stands list key text tag) e (Decides-and _ _ (Decides-eqb (length tag) 20) (one_agrees_decides key (digest text) tag list))

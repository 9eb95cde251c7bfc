use Rattle.std.proofs.Common.{◌≡◌, false, sym}
use Rattle.sha1_hmac.specs.Keyed.{hmac_of}
use Rattle.parties.specs.Standing.{hmac_stands}
use Rattle.parties.proofs.Comparison.{decides_same}
use Rattle.parties.proofs.Lengths.{no_other_length_is_an_hmac}
use Rattle.parties.proofs.hmac_verifier.HmacVerifierVerifier.verify.Goals as goal

pub returns-in_default : goal.returns-in_default
returns-in_default c =
    let key = c.args.key.now in
    let text = c.args.text.now in
    let tag = c.args.tag.now in
    let other : false ≡ hmac_stands key text tag = sym (no_other_length_is_an_hmac key text tag c.in_default.ensures.cases) in
    record {
      says_whether_it_stands = other;
      other_lengths_never_stand = no_other_length_is_an_hmac;
      accepts_the_hmac_and_no_other_tag = decides_same (hmac_of key text) tag false other;
    }

pub returns-clause-other_lengths_never_stand : goal.returns-clause-other_lengths_never_stand
returns-clause-other_lengths_never_stand c = no_other_length_is_an_hmac

use Rattle.std.proofs.Common.{◌≡◌, false, ◌∙◌, ap₂, sym, rules, tests}
use Rattle.std.specs.List.{list_any}
use Rattle.std.proofs.lemmas.Iterator.{YieldsList-from_slice}
use Rattle.std.proofs.lemmas.Iterator.Search.{any_from_yields_List}
use Rattle.parties.specs.Standing.{agrees, one_agrees, signature_stands}
use Rattle.parties.proofs.Agreement.{other_lengths_never_stand, twenty_bytes_stand_by_the_list, decides_standing}
use Rattle.parties.proofs.verified_signatures.VerifiedSignaturesVerifier.verify.Goals as goal

pub returns-in_default : goal.returns-in_default
returns-in_default c =
    let list = c.args.self.now.list.now in
    let other : false ≡ signature_stands list c.args.key.now c.args.text.now c.args.tag.now = sym (other_lengths_never_stand list _ _ c.args.tag.now c.in_default.ensures.cases) in
    record {
      says_whether_it_stands = other;
      other_lengths_never_stand = other_lengths_never_stand list;
      accepts_what_one_agrees_with_in_all_three_parts = decides_standing list _ _ _ false other;
    }

pub returns : goal.returns
returns c =
    let list = c.args.self.now.list.now in
    let key = c.args.key.now in
    let found : c.any.result ≡ list_any (agrees key c.sha1-text_digest.result c.in-Some.tag.now) list =
    any_from_yields_List (agrees key c.sha1-text_digest.result c.in-Some.tag.now) _ _ c.any.result c.any.ensures.ran (YieldsList-from_slice list cc) (λ x b q k. search (rules, tests)) in
    let stands : c.any.result ≡ signature_stands list key c.args.text.now c.args.tag.now =
    found ∙ ap₂ (λ d t. one_agrees key d t list) c.sha1-text_digest.ensures.digests c.in-Some.ensures.cases.same
    ∙ twenty_bytes_stand_by_the_list list key c.args.text.now c.args.tag.now c.in-Some.ensures.cases.long in
    record {
      says_whether_it_stands = stands;
      other_lengths_never_stand = other_lengths_never_stand list;
      accepts_what_one_agrees_with_in_all_three_parts = decides_standing list _ _ _ _ stands;
    }

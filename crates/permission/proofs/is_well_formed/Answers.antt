use Rattle.std.proofs.Common.{◌≡◌, [], is_some, ap, ◌∙◌}
use Rattle.std.proofs.lemmas.Bool.Decides.{Decides-at}
use Rattle.permission.specs.Reading.{well_formed}
use Rattle.permission.proofs.Laws.{well_formed_decides}
use Rattle.permission.proofs.Unique.{one_term_at_most}
use Rattle.permission.proofs.Verdicts.{judged_at_all}
use Rattle.permission.proofs.is_well_formed.Goals as goal

pub returns : goal.returns
returns c =
    let defined : c.is_some.result ≡ well_formed c.args.term.now = c.is_some.ensures ∙ ap is_some c.whole.ensures ∙ judged_at_all c.args.term.now [] in
    record {
      as_defined = defined;
      yes_exactly_for_a_well_formed_term = Decides-at c.is_some.result (well_formed c.args.term.now) defined (well_formed_decides c.args.term.now);
      bytes_encode_at_most_one_term = one_term_at_most c.args.term.now;
    }

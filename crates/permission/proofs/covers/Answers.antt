use Rattle.std.proofs.Common.{◌≡◌, ℕ, Bool, List, Err, Result, sym, ap, ◌∙◌, subst}
use Rattle.std.specs.Option.{ok_or}
use Rattle.refusal.specs.declared.Refusal.{Refusal}
use Rattle.refusal.specs.declared.Refusal.TheVariants.{Malformed}
use Rattle.permission.specs.Reading.{term_of, covering}
use Rattle.permission.specs.Answers.{Answers, OnlyAnswer}
use Rattle.permission.proofs.Verdicts.{judged_whole_lem, verdict_of_a_name, no_verdict_of_no_name}
use Rattle.permission.proofs.Laws.{covering_answers, only_covering_answers}
use Rattle.permission.proofs.covers.Goals as goal

answers_so : (bytes name : List ℕ) (r : Result Bool Refusal) → r ≡ covering bytes name → Answers bytes name r
answers_so bytes name r e = subst (Answers bytes name) (sym e) (covering_answers bytes name)

only_so : (bytes name : List ℕ) (r : Result Bool Refusal) → r ≡ covering bytes name → OnlyAnswer bytes name r
only_so bytes name r e other answers = only_covering_answers bytes name other answers ∙ sym e

pub returns-then-not-is_name : goal.returns-then-not-is_name
returns-then-not-is_name c =
    let defined : Err Malformed ≡ covering c.args.term.now c.args.name.now = unfold covering in no_verdict_of_no_name c.args.name.now (term_of c.args.term.now) c.if-not-is_name.ensures.as_defined in
    record {
      as_defined = defined;
      answers_for_the_encoded_term = answers_so c.args.term.now c.args.name.now (Err Malformed) defined;
      nothing_else_is_an_answer = only_so c.args.term.now c.args.name.now (Err Malformed) defined;
    }

pub returns : goal.returns
returns c =
    let defined : c.ok_or.result ≡ covering c.args.term.now c.args.name.now = c.ok_or.ensures.value ∙ ap (λ o. ok_or o Malformed) (c.whole.ensures ∙ judged_whole_lem c.args.term.now c.args.name.now) ∙ (unfold covering in verdict_of_a_name c.args.name.now (term_of c.args.term.now) c.if-not-is_name.ensures.as_defined) in
    record {
      as_defined = defined;
      answers_for_the_encoded_term = answers_so c.args.term.now c.args.name.now c.ok_or.result defined;
      nothing_else_is_an_answer = only_so c.args.term.now c.args.name.now c.ok_or.result defined;
    }

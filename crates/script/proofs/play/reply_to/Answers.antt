use Rattle.std.proofs.Common.{◌≡◌, ap, ◌∙◌}
use Rattle.std.proofs.lemmas.Result.{IfOk-weaker}
use Rattle.script.specs.Plays.{reply_to_line}
use Rattle.reply.specs.Replies.{reply_to}
use Rattle.statement.specs.Statements.{says, said}
use Rattle.script.proofs.play.reply_to.Goals as goal

pub returns : goal.returns
unfolding reply_to_line
returns c =
    IfOk-weaker c.evaluate.result (λ o. o ≡ reply_to (said c.parse.result)) (λ o. o ≡ reply_to_line c.args.text.now)
    (λ o e. e ∙ ap reply_to (c.parse.ensures.says_what_the_line_says ∙ ap says c.trim.ensures.without_carriage_return))
    c.evaluate.ensures.answer_as_defined

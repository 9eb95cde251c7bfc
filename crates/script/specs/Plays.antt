-- What a whole input is answered with.
use Rattle.std.specs.Prelude.{ℕ, ◌+◌, List, [], ◌∷◌, ◌++◌, Some, None, Option}
use Rattle.reply.specs.declared.Reply.{Reply}
use Rattle.account.specs.Accounts.{Tally, empty, noted}
use Rattle.statement.specs.Lines.{lines_of, trimmed}
use Rattle.reply.specs.Replies.{reply_to, printed}
use Rattle.statement.specs.Statements.{says}

-- the answer to a line, if it says something
unfoldable pub reply_to_line : List ℕ → Option Reply
reply_to_line line = reply_to (says (trimmed line))

-- the line that is printed for it
abbrev pub shown_reply : ℕ → Option Reply → List ℕ
shown_reply number None = []
shown_reply number (Some reply) = printed number reply ++ 10 ∷ []

-- one line for each statement, in order; lines are numbered
abbrev pub shown : ℕ → List (List ℕ) → List ℕ
shown number [] = []
shown number (line ∷ lines) = shown_reply number (reply_to_line line) ++ shown (number + 1) lines

abbrev pub noted_reply : Tally → Option Reply → Tally
noted_reply t None = t
noted_reply t (Some reply) = noted t reply

-- an account of them
abbrev pub tallied : Tally → List (List ℕ) → Tally
tallied t [] = t
tallied t (line ∷ lines) = tallied (noted_reply t (reply_to_line line)) lines

-- what is printed for an input, and the account of it
abbrev pub transcript : List ℕ → List ℕ
transcript input = shown 1 (lines_of input)

abbrev pub account_of : List ℕ → Tally
account_of input = tallied empty (lines_of input)

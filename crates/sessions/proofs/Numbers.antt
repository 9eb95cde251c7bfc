-- A new last number changes one session, and in it one field.
use Rattle.std.proofs.Common.{◌≡◌, ℕ, List, arith}
use Rattle.std.proofs.lemmas.Grind.{common_steps}
use Rattle.sessions.specs.declared.types.Session.{Session}
use Rattle.sessions.specs.Opened.{used_at, OnlyLast}

pub only_last_changes : (ss ts : List Session) (i n : ℕ) → ts ≡ used_at ss i n → OnlyLast ss i n ts
unfolding OnlyLast
only_last_changes ss ts i n e =
    (grind (arith, common_steps), λ j d other. grind (arith, common_steps), λ d within. grind (arith, common_steps))

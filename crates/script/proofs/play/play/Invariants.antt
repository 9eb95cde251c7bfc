use Rattle.std.proofs.Common.{◌≡◌, ℕ, ◌+◌, List, map, vec_items}
use Rattle.std.specs.List.{flat_map}
use Rattle.account.specs.Accounts.{empty}
use Rattle.script.specs.Plays.{reply_to_line, shown_reply, tallied}
use Rattle.script.proofs.play.play.Given as goal

abbrev pub invariant-loop-i : goal.invariant-loop-i
invariant-loop-i l =
    (vec_items l.session.output ≡ flat_map {X = ℕ × List ℕ} (λ p. shown_reply (p.0 + 1) (reply_to_line p.1)) (map (λ p. (p.0, p.1.now)) l.yielded))
    × (l.session.account ≡ tallied empty (map {A = ℕ × List ℕ} (λ p. p.1) (map (λ p. (p.0, p.1.now)) l.yielded)))

-- A verdict that begins with the limit: yes only below it, and where the rest says yes too.
use Rattle.std.specs.Prelude.{◌≡◌, ℕ, ◌≤◌, Bool, true, false, ◌&&◌, nat_lt}
use Rattle.std.proofs.lemmas.Bool.{le-ltb, and_left, and_parts}
use Rattle.parties.specs.Commands.{limit}

pub what_is_taken_passes_both : (a b : Bool) → (a && b) ≡ true → (a ≡ true) × (b ≡ true)
what_is_taken_passes_both a b taken = and_parts a b taken

pub nothing_is_taken_past_the_limit : (done : ℕ) (b : Bool) → limit ≤ done → (nat_lt done limit && b) ≡ false
nothing_is_taken_past_the_limit done b full = and_left (nat_lt done limit) b (le-ltb done limit full)

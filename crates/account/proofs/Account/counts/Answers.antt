use Rattle.std.proofs.Common.{◌≡◌, length, vec_items, ◌∙◌, rules}
use Rattle.account.proofs.Account.counts.Goals as goal

pub returns : goal.returns
returns c =
    let read : c.len-read.result ≡ length (vec_items c.self.inside.hashes) = c.len-read.ensures ∙ c.self.inside.hashes.ok.0 in
    rw (← c.self.view_is, ← read) (search rules)

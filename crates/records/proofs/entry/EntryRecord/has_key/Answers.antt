use Rattle.std.proofs.Common.{◌&&◌, ap₂, ◌∙◌, rules}
use Rattle.std.specs.Str.{bytes_eq}
use Rattle.std.proofs.lemmas.Bool.Decides.{Decides-at}
use Rattle.records.specs.Equality.{same_entry}
use Rattle.records.specs.Equal.{window_and_scope, tested_twice, same_entry_bytes_decides}
use Rattle.records.proofs.entry.EntryRecord.has_key.Goals as goal

pub returns : goal.returns
unfolding same_entry
returns c =
    let a = c.args.self.now in
    let b = c.args.sought.now in
    let same = ap₂ (λ x y. x && y) c.same_window.ensures.same c.eq.ensures ∙ tested_twice _ (bytes_eq a.subject b.subject) _ (window_and_scope a.scope b.scope) in
    record { same = same; yes_exactly_where_all_bytes_are_equal = Decides-at _ _ same (same_entry_bytes_decides a b (search rules) c.same_window.ensures.fits) }

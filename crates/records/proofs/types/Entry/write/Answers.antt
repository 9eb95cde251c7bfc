use Rattle.std.proofs.Common.{◌≡◌, ◌<◌, ◌++◌, get_or, w8, Fits, ap, ap₂, ◌∙◌, rules}
use Rattle.std.proofs.ByRecursion.{All-from_get_or}
use Rattle.records.specs.Records.{entry_bytes, entry_in}
use Rattle.records.specs.Inverse.{EntryFits}
use Rattle.records.specs.RecordLaws.{entries_inverse}
use Rattle.records.proofs.types.Entry.write.Goals as goal

pub returns : goal.returns
unfolding entry_bytes
returns c =
    let e = c.args.self.now in
    let defined : c.copy_from_slice.new.self ++ c.copy_from_slice-2.new.self ≡ entry_bytes e = ap₂ (λ xs ys. xs ++ ys) c.copy_from_slice.ensures.after (c.copy_from_slice-2.ensures.after ∙ c.write.ensures.as_defined) in
    let fits : EntryFits e = record { subject = (search rules, All-from_get_or (λ d. d < 256) e.subject 0 (λ k l. let f : Fits w8 (get_or e.subject k 0) = search rules in f.fits)); scope = c.write.ensures.fits } in
    record { as_defined = defined; reads_back = λ well. ap entry_in defined ∙ entries_inverse.what_is_written_reads_back e fits well }

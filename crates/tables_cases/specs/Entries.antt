-- Two entries are equal exactly where their subjects and their masks are.
use Rattle.std.specs.Prelude.{◌≡◌, ◌&&◌, Decides, ◌==◌}
use Rattle.std.proofs.Common.{arith}
use Rattle.std.proofs.lemmas.Grind.{common_steps}
use Rattle.std.proofs.lemmas.Bool.Decides.{nat_tests}
use Rattle.tables_cases.specs.declared.Entry.{Entry}

pub fields_decide : (a b : Entry) → Decides ((a.subject == b.subject) && a.mask == b.mask) (a ≡ b)
fields_decide a b = (λ e. grind (arith, nat_tests, common_steps), λ e. grind (arith, nat_tests, common_steps))

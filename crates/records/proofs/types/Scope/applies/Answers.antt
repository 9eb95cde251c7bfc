use Rattle.std.proofs.Common.{◌≡◌, rules}
use Rattle.std.proofs.lemmas.Bool.Decides.{Decides-at}
use Rattle.records.specs.Applicability.{applicable}
use Rattle.records.proofs.Applying.{test_decides_for_names}
use Rattle.records.proofs.types.Scope.applies.Goals as goal

pub returns-then-is_current : goal.returns-then-is_current
returns-then-is_current c =
    let defined : c.covers.result ≡ applicable c.args.self.now c.args.clock c.args.name.now = unfold applicable in search rules in
    record {
      as_defined = defined;
      yes_exactly_where_it_applies = λ named. Decides-at _ _ defined (test_decides_for_names c.args.self.now c.args.clock c.args.name.now named);
      test_decides_for_names = test_decides_for_names;
    }

pub returns-else-is_current : goal.returns-else-is_current
returns-else-is_current c =
    let defined : ◌≡◌ c.is_current.result (applicable c.args.self.now c.args.clock c.args.name.now) = unfold applicable in search rules in
    record {
      as_defined = defined;
      yes_exactly_where_it_applies = λ named. Decides-at _ _ defined (test_decides_for_names c.args.self.now c.args.clock c.args.name.now named);
      test_decides_for_names = test_decides_for_names;
    }

use Rattle.std.proofs.Common.{◌≡◌, length, arith, rules}
use Rattle.records.proofs.Cuts.{rest_behind}
use Rattle.records.proofs.types.Scope.filling.Goals as goal

pub returns : goal.returns
returns c =
    let s = c.args.self.now in
    let room : length s.term ≡ 48 = search rules in
    rest_behind s.term s.term_length c.from.result 48 room (omega arith)

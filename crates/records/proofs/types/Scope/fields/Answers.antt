use Rattle.std.proofs.Common.{◌≡◌, Bool, true, false, leb, eqb, cond, drop, get_or, Some, None, Option, refl, sym, ◌∙◌, arith, rules}
use Rattle.std.proofs.lemmas.List.{take_all, length-drop}
use Rattle.records.proofs.types.Scope.fields.Goals as goal

-- a value that stands under a test
held : {A : Type 0} (b : Bool) (x v : A) → cond b (Some x) None ≡ Some v → (b ≡ true) × (v ≡ x)
held true x v e = (refl, cc)
held false x v e = let z : ◌≡◌ {A = Option _} None (Some v) = e in (absurd (search rules), absurd (search rules))

pub returns : goal.returns
returns c =
    let bytes = c.args.bytes.now in
    let term : c.array_at-3.result ≡ drop 18 c.args.bytes.now = c.array_at-3.ensures ∙ take_all 48 (drop 18 c.args.bytes.now) (let l = length-drop 18 c.args.bytes.now in omega arith) in
    let flag = held (leb (get_or c.args.bytes.now 0 0) 1) (eqb (get_or c.args.bytes.now 0 0) 1) c.in_ok-flag_in.field-0 (sym c.flag_in.ensures ∙ (search rules)) in
    rw (flag.0, flag.1, term) (search rules)

-- Reading and writing of scopes are each other's inverse.
use Rattle.std.specs.Prelude.{◌≡◌, ℕ, ◌≤◌, Bool, true, false, cond, ◌&&◌, leb, List, length, Ok, Err, Result, ◌==◌, ◌≢◌, nat_le, slice_index, refl}
use Rattle.std.proofs.Common.{sym, ap, subst, ◌∙◌, arith}
use Rattle.std.specs.Int.Digits.{AllBelowBase}
use Rattle.std.proofs.lemmas.Bool.{and_parts, and_from, eqb-true, leb-true, le-leb, eq-eqb}
use Rattle.refusal.specs.declared.Refusal.{Refusal}
use Rattle.refusal.specs.declared.Refusal.TheVariants.{Malformed}
use Rattle.records.specs.declared.types.Scope.{Scope}
use Rattle.records.specs.Records.{flag_byte, scope_at, scope_bytes, sound_scope, scope_in}
use Rattle.records.specs.Inverse.{WindowFits, ScopeFits, WellFormedScope, Inverse}
use Rattle.records.specs.Fields.{fields_of_scope_bytes, scope_bytes_fit, fields_fit, scope_bytes_of_fields}
use Rattle.records.specs.Sound.{sound_scope_decides}

-- a test before an answer held where there is an answer
pub answer_is : {R : Type 0} {x y : R} (test : Bool) → cond test (Ok x) (Err Malformed) ≡ Ok y → (test ≡ true) × (x ≡ y)
answer_is true e = (refl, cc)
answer_is false e = let z : ◌≡◌ {A = ℕ} 0 1 = cc in absurd (omega arith)

abbrev tests : List ℕ → Bool
tests bytes = length bytes == 66 && (nat_le (slice_index bytes 0) 1 && sound_scope (scope_at bytes))

flag_small : (b : Bool) → flag_byte b ≤ 1
flag_small true = omega arith
flag_small false = omega arith

first_is_flag : (s : Scope) → slice_index (scope_bytes s) 0 ≡ flag_byte s.delegate
unfolding scope_bytes
first_is_flag s = refl

pub same_from_bytes : (one other : Scope) → WindowFits one → WindowFits other → scope_bytes one ≡ scope_bytes other → one ≡ other
same_from_bytes one other fits fits' e = sym (fields_of_scope_bytes one fits) ∙ ap scope_at e ∙ fields_of_scope_bytes other fits'

written_reads_back : (s : Scope) → ScopeFits s → WellFormedScope s → scope_in (scope_bytes s) ≡ Ok s
unfolding scope_in
written_reads_back s fits well =
    let back = fields_of_scope_bytes s fits.window in
    let sound : sound_scope (scope_at (scope_bytes s)) ≡ true = ap sound_scope back ∙ (sound_scope_decides s).1 well in
    let flag : leb (slice_index (scope_bytes s) 0) 1 ≡ true = ap (λ b. leb b 1) (first_is_flag s) ∙ le-leb (flag_byte s.delegate) 1 (flag_small s.delegate) in
    let passed : tests (scope_bytes s) ≡ true = and_from _ _ (eq-eqb _ 66 (scope_bytes_fit s fits).0) (and_from _ _ flag sound) in
    ap (λ b. cond b (Ok (scope_at (scope_bytes s))) (Err Malformed)) passed ∙ ap Ok back

tests_hold : (bytes : List ℕ) → tests bytes ≡ true → (length bytes ≡ 66) × (slice_index bytes 0 ≤ 1) × WellFormedScope (scope_at bytes)
tests_hold bytes passed =
    let outer = and_parts _ _ passed in
    let inner = and_parts _ _ outer.1 in
    (eqb-true _ 66 outer.0, leb-true _ 1 inner.0, (sound_scope_decides (scope_at bytes)).0 inner.1)

what_reads : (bytes : List ℕ) (s : Scope) → AllBelowBase 256 bytes → scope_in bytes ≡ Ok s → ScopeFits s × WellFormedScope s × (scope_bytes s ≡ bytes)
unfolding scope_in
what_reads bytes s under e =
    let answer = answer_is (tests bytes) e in
    let held = tests_hold bytes answer.0 in
    subst (λ (r : Scope). ScopeFits r × WellFormedScope r × (scope_bytes r ≡ bytes)) answer.1
    (fields_fit bytes held.0 under, held.2, scope_bytes_of_fields bytes held.0 under held.1)

-- a reader answers, or refuses as malformed
abbrev pub Told : {R : Type 0} → Result R Refusal → Type 0
Told {R} answer = (why : Refusal) → answer ≡ Err why → why ≡ Malformed

pub else_malformed : {R : Type 0} (answer : Result R Refusal) → Told answer → ((r : R) → answer ≢ Ok r) → answer ≡ Err Malformed
else_malformed (Ok r) told never = absurd (never r refl)
else_malformed (Err why) told never = ap Err (told why refl)

told_by_a_test : {R : Type 0} (test : Bool) (r : R) → Told (cond test (Ok r) (Err Malformed))
told_by_a_test true r why e = let z : ◌≡◌ {A = ℕ} 0 1 = cc in absurd (omega arith)
told_by_a_test false r why e = cc

pub scope_told : (bytes : List ℕ) → Told (scope_in bytes)
unfolding scope_in
scope_told bytes = told_by_a_test (tests bytes) (scope_at bytes)

pub scopes_inverse : Inverse 66 ScopeFits WellFormedScope scope_bytes scope_in
scopes_inverse = record {
  every_record_has_its_size = scope_bytes_fit;
  what_is_written_reads_back = written_reads_back;
  what_reads_is_written_back = what_reads;
  all_else_is_malformed = λ bytes under never. else_malformed (scope_in bytes) (scope_told bytes) (λ s e. let h = what_reads bytes s under e in never s h.0 h.1 h.2);
  equal_bytes_are_of_equal_records = λ one other fits fits' e. same_from_bytes one other fits.window fits'.window e;
}

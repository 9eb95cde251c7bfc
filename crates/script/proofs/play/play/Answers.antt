use Rattle.std.proofs.Common.{◌≡◌, ℕ, ◌+◌, List, [], ◌∷◌, map, eqb, sym, ap, ◌∙◌, arith, rules, tests, Bor, Bool, false}
use Rattle.std.specs.List.{flat_map, enumerate_from, slice_split}
use Rattle.std.specs.Slice.Iter.{split_rest, split_done, split_callee, split_steps}
use Rattle.std.specs.Iterator.Runs.{EachRunFrom, Run}
use Rattle.std.specs.Iterator.Adapters.{enumerate_source, enumerate_count}
use Rattle.std.specs.Fn.{CalledAt, Mut}
use Rattle.std.proofs.lemmas.Iterator.{YieldsList}
use Rattle.std.proofs.lemmas.List.{map-append}
use Rattle.std.proofs.lemmas.Iterator.Splits.{YieldsList-from_slice_split}
use Rattle.std.proofs.lemmas.Iterator.Consumers.{YieldsList-from_enumerate, YieldsList-end}
use Rattle.std.proofs.lemmas.Grind.{common_steps}
use Rattle.account.specs.Accounts.{empty}
use Rattle.script.specs.Plays.{reply_to_line, shown_reply, noted_reply, tallied}
use Rattle.script.proofs.Lines.{parts, shown_parts, tallied_parts, shown_numbered, unnumbered, tallied_more}
use Rattle.script.proofs.play.play.Goals as goal

pub loop-i-preserved : goal.loop-i-preserved
loop-i-preserved c =
    let shown = c.in_ok-answer.ensures.printed in
    let noted = c.in_ok-answer.ensures.noted in
    let more = map-append {A = ℕ × Bor (List ℕ)} {B = ℕ × List ℕ} (λ p. (p.0, p.1.now)) c.loop-i.yielded ((c.in-Some.i, c.in-Some.text) ∷ []) in
    let again = map-append {A = ℕ × List ℕ} {B = List ℕ} (λ p. p.1) (map (λ p. (p.0, p.1.now)) c.loop-i.yielded) ((c.in-Some.i, c.in-Some.text.now) ∷ []) in (
      rw more (grind (arith, common_steps)),
      rw (more, again) (noted ∙ ap (λ t. noted_reply t (reply_to_line c.in-Some.text.now)) c.loop-i.invariant.1 ∙ sym (tallied_more empty (map (λ p. p.1) (map (λ p. (p.0, p.1.now)) c.loop-i.yielded)) c.in-Some.text.now)),
    )

-- the slice that `split` cuts, where its clause names the closure
from_split : {A F : Type 0} {s : _} {g : Mut F (Bor A × Unit {0}) Bool} {P : Run (split_steps g) → Type 0} (runs : EachRunFrom (split_steps g) s P) (p : A → Bool) {f : F} (xs : List A) → split_rest s ≡ xs → split_done s ≡ false → split_callee s ≡ f
    → ((x : A) (b : Bool) (q : F) → CalledAt g f x b q → (q ≡ f) × (b ≡ p x)) → YieldsList (split_steps g) (λ x. x.now) s (slice_split p xs)
from_split runs p xs = YieldsList-from_slice_split _ p xs

-- what the loop went over
gone_over : (c : goal.In-None) → map (λ p. (p.0, p.1.now)) c.loop-i.yielded ≡ enumerate_from 0 (parts c.args.input.now)
gone_over c =
    let cut = from_split c.split.ensures.runs (λ b. eqb b 10) c.args.input.now c.split.ensures.rest c.split.ensures.done c.split.ensures.closure (λ x b q k. search (rules, tests)) in
    let same = c.into_iter-i-iterator.ensures.into_iter_gives in
    let source = ap enumerate_source same ∙ c.enumerate-i-items.ensures.source in
    let numbered = YieldsList-from_enumerate {s = c.into_iter-i-iterator.result} (rw (sym source) at cut) (ap enumerate_count same ∙ c.enumerate-i-items.ensures.count) in
    (YieldsList-end numbered c.loop-i.yielded _ c.loop-i.yielded_by _ _ c.in-None.is c.next.ensures.steps).0

pub returns-clause-one_line_for_each_statement : goal.returns-clause-one_line_for_each_statement
returns-clause-one_line_for_each_statement c =
    c.loop-i.invariant.0
    ∙ ap (λ ps. flat_map {X = ℕ × List ℕ} (λ p. shown_reply (p.0 + 1) (reply_to_line p.1)) ps) (gone_over c)
    ∙ shown_numbered 0 (parts c.args.input.now)
    ∙ shown_parts c.args.input.now

pub returns-clause-each_answer_noted : goal.returns-clause-each_answer_noted
returns-clause-each_answer_noted c =
    c.loop-i.invariant.1
    ∙ ap (λ ps. tallied empty (map {A = ℕ × List ℕ} (λ p. p.1) ps)) (gone_over c)
    ∙ ap (tallied empty) (unnumbered 0 (parts c.args.input.now))
    ∙ tallied_parts empty c.args.input.now

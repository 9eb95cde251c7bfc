use Rattle.std.proofs.Common.{◌≡◌, ℕ, List, ◌++◌, length, take, drop, sym, ap, ◌∙◌, rules, arith}
use Rattle.std.proofs.lemmas.List.{length-drop, length-take-le}
use Rattle.keyhash.specs.Element.{opening, closing}
use Rattle.keyhash.proofs.Elements.{length-parts, opening_of_parts, closing_of_parts, in_three}
use Rattle.keyhash.proofs.element.value_in.Goals as goal
use Rattle.keyhash.proofs.element.value_in.Goals.{else-same-via-then-same+else-same-2, else-same-via-else-same}

pub returns-in_err-whole-clause-none : goal.returns-in_err-whole-clause-none
returns-in_err-whole-clause-none c =
    let short : length c.args.bytes.now ≡ 119 → ⊥ = search rules in
    let none : (value : List ℕ) → length value ≡ 28 → c.args.bytes.now ≡ opening ++ (value ++ closing) → ⊥ = λ value long is. short (ap length is ∙ length-parts value long) in
    search rules

pub returns-then-same-2-clause-some : goal.returns-then-same-2-clause-some
unfolding opening closing
returns-then-same-2-clause-some c =
    let front : take 64 c.args.bytes.now ≡ opening = search rules in
    let inner : take 28 (drop 64 c.args.bytes.now) ≡ c.in_ok-value.value.now = search rules in
    let end : drop 28 (drop 64 c.args.bytes.now) ≡ closing = search rules in
    let long : length c.args.bytes.now ≡ 119 = search rules in
    (ap length (sym inner) ∙ length-take-le 28 (drop 64 c.args.bytes.now) (simp length-drop (omega arith)), in_three c.args.bytes.now opening c.in_ok-value.value.now closing front inner end)

pub returns-else-same-clause-none : goal.returns-else-same-clause-none
unfolding opening closing
returns-else-same-clause-none c = λ value long is.
    elim c.else-same.branch [
      | else-same-via-then-same+else-same-2 w ↦
          (let differs : drop 28 (drop 64 c.args.bytes.now) ≡ closing → ⊥ = search rules in
          differs (ap (λ bytes. drop 28 (drop 64 bytes)) is ∙ closing_of_parts value long))
      | else-same-via-else-same w ↦ (let differs : take 64 c.args.bytes.now ≡ opening → ⊥ = search rules in differs (ap (take 64) is ∙ opening_of_parts value))
    ]

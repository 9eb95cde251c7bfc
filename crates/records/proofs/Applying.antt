-- Of a name, the test decides whether a scope applies to it.
use Rattle.std.proofs.Common.{◌≡◌, ℕ, Bool, true, false, List, Ok, Err, Decides, Result}
use Rattle.std.specs.Result.{result_unwrap_or}
use Rattle.std.proofs.lemmas.Bool.{false≢true}
use Rattle.std.proofs.lemmas.Bool.Decides.{Decides-and, Decides-like}
use Rattle.refusal.specs.declared.Refusal.{Refusal}
use Rattle.permission.specs.Names.{IsName}
use Rattle.permission.specs.Terms.{Term, WellFormed, Encodes, Covers}
use Rattle.permission.specs.Reading.{covering}
use Rattle.permission.specs.Answers.{Answers}
use Rattle.permission.proofs.Laws.{covering_answers, only_covering_answers}
use Rattle.records.specs.Records.{term_bytes}
use Rattle.records.specs.Applicability.{applicable, TestDecidesForNames}
use Rattle.records.specs.Sound.{decides_leb}

-- the bytes encode a well-formed term that covers the name
abbrev SomeTermCovers : List ℕ → List ℕ → Type 0
SomeTermCovers bytes name = (term : Term) × WellFormed term × Encodes term bytes × Covers term name

covering_decides : (bytes name : List ℕ) → IsName name → Decides (result_unwrap_or (covering bytes name) false) (SomeTermCovers bytes name)
covering_decides bytes name named = (yes_means (covering bytes name) (covering_answers bytes name), λ term. ap_yes (only_covering_answers bytes name (Ok true) (named, term)))
  where
    yes_means : (answer : Result Bool Refusal) → Answers bytes name answer → result_unwrap_or answer false ≡ true → SomeTermCovers bytes name
    yes_means (Ok true) answers e = answers.1
    yes_means (Ok false) answers e = absurd (false≢true e)
    yes_means (Err why) answers e = absurd (false≢true e)

    ap_yes : {answer : Result Bool Refusal} → Ok true ≡ answer → result_unwrap_or answer false ≡ true
    ap_yes e = cc

pub test_decides_for_names : TestDecidesForNames
unfolding applicable
test_decides_for_names s clock name named =
    Decides-like (applicable s clock name)
    (λ h. record { begun = h.0.0; not_over = h.0.1; covers = h.1 })
    (λ a. ((a.begun, a.not_over), a.covers))
    (Decides-and _ _ (Decides-and _ _ (decides_leb s.not_before clock) (decides_leb clock s.not_after)) (covering_decides (term_bytes s) name named))

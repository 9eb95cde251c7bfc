-- The whole of the bytes judged by one walk, and the verdict from it.
use Rattle.std.proofs.Common.{◌≡◌, ℕ, true, false, cond, eqb, leb, List, length, is_some, Some, None, Ok, Err, Option, refl, ap, ◌∙◌}
use Rattle.std.specs.Option.{option_map, ok_or}
use Rattle.refusal.specs.declared.Refusal.TheVariants.{Malformed}
use Rattle.permission.specs.Terms.{Term}
use Rattle.permission.specs.Reading.{Reading, members_in, any_judged, is_name, ended, judged, term_in, term_of, well_formed, covered, judged_whole, verdict}
use Rattle.permission.proofs.Walks.{row_of_one}

-- to judge and then to ask for the end is to ask for the end and then to judge
ended_judged : (name : List ℕ) (reading : Reading Term) → ended (judged name reading) ≡ option_map (λ t. covered t name) (ended reading)
ended_judged name None = refl
ended_judged name (Some p) =
    elim (eqb (length p.1) 0) as (λ b. cond b (Some (covered p.0 name)) None ≡ option_map (λ t. covered t name) (cond b (Some p.0) None)) [ true ↦ refl | false ↦ refl ]

-- one walk that judges as it goes is the term read and then judged
pub judged_whole_lem : (bytes name : List ℕ) → judged_whole bytes name ≡ option_map (λ t. covered t name) (term_of bytes)
unfolding term_of
judged_whole_lem bytes name =
    elim (leb (length bytes) 48) as (λ b. cond b (ended (any_judged name (members_in (term_in 4) 1 bytes))) None ≡ option_map (λ t. covered t name) (cond b (ended (term_in 4 bytes)) None))
    [ true ↦ ap ended (row_of_one name (term_in 4 bytes)) ∙ ended_judged name (term_in 4 bytes) | false ↦ refl ]

same_test : (name : List ℕ) (term : Option Term) → is_some (option_map (λ t. covered t name) term) ≡ is_some term
same_test name None = refl
same_test name (Some t) = refl

pub judged_at_all : (bytes name : List ℕ) → is_some (judged_whole bytes name) ≡ well_formed bytes
judged_at_all bytes name = ap is_some (judged_whole_lem bytes name) ∙ same_test name (term_of bytes)

pub verdict_of_a_name : (name : List ℕ) (term : Option Term) → true ≡ is_name name → ok_or (option_map (λ t. covered t name) term) Malformed ≡ verdict term name
verdict_of_a_name name None e = refl
verdict_of_a_name name (Some t) e = ap (λ b. cond b (Ok (covered t name)) (Err Malformed)) e

pub no_verdict_of_no_name : (name : List ℕ) (term : Option Term) → false ≡ is_name name → Err Malformed ≡ verdict term name
no_verdict_of_no_name name None e = refl
no_verdict_of_no_name name (Some t) e = ap (λ b. cond b (Ok (covered t name)) (Err Malformed)) e

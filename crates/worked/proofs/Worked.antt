-- Each worked case is computed, and the law turns what was computed into what it says of the term.
use Rattle.std.proofs.Common.{◌≡◌, ℕ, true, false, cond, List, [], ◌∷◌, Ok, Err, refl, ap, subst}
use Rattle.refusal.specs.declared.Refusal.TheVariants.{Malformed}
use Rattle.std.proofs.lemmas.Bool.Decides.{not_from_Decides}
use Rattle.keyhash.specs.Numeral.{numeral}
use Rattle.keyhash.specs.Base64.{text, spelled, reading}
use Rattle.permission.specs.Names.{IsName}
use Rattle.permission.specs.Answers.{Answers}
use Rattle.permission.specs.Reading.{text_in, set_in, term_of, well_formed, covering}
use Rattle.worked.specs.Worked.{Yes, No, IsMalformed, IsWellFormed, WorkedCases}
use Rattle.permission.proofs.Names.{is_name_decides}
use Rattle.permission.proofs.Laws.{well_formed_decides, covering_answers}

yes : {bytes name : List ℕ} → covering bytes name ≡ Ok true → Yes bytes name
yes {bytes} {name} e = record { answer = subst (Answers bytes name) e (covering_answers bytes name) }

no_answer : {bytes name : List ℕ} → covering bytes name ≡ Ok false → No bytes name
no_answer {bytes} {name} e = record { answer = subst (Answers bytes name) e (covering_answers bytes name) }

malformed : {bytes : List ℕ} → well_formed bytes ≡ false → IsMalformed bytes
malformed {bytes} e =
    let out = not_from_Decides (well_formed bytes) (well_formed_decides bytes) e in
    record { no_term = out; answer = λ name. (refl, λ _. out) }

well_formed_lem : {bytes : List ℕ} → well_formed bytes ≡ true → IsWellFormed bytes
well_formed_lem {bytes} e = record { term = (well_formed_decides bytes).0 e }

-- the empty set is read before the name is looked at
empty_set : (name : List ℕ) → IsName name → covering (0x05 ∷ 0x00 ∷ []) name ≡ Ok false
unfolding set_in term_of covering
empty_set name named = ap (λ b. cond b (Ok false) (Err Malformed)) ((is_name_decides name).1 named)

pub worked_cases : WorkedCases
unfolding text_in set_in term_of covering numeral text spelled reading
worked_cases =
    record {
      all_covers_set_target = yes refl;
      elt_abc_covers_abc = yes refl;
      elt_abc_does_not_cover_abcd = no_answer refl;
      prefix_ab_covers_ab = yes refl;
      prefix_ab_does_not_cover_a = no_answer refl;
      range_b_d_covers_b = yes refl;
      range_b_d_covers_cz = yes refl;
      range_b_d_covers_d = yes refl;
      range_b_d_does_not_cover_da = no_answer refl;
      range_d_b_is_malformed = malformed refl;
      elt_of_no_bytes_is_malformed = malformed refl;
      all_with_a_byte_over_is_malformed = malformed refl;
      empty_set_covers_nothing = λ name named. no_answer (empty_set name named);
      four_nested_sets_are_well_formed = well_formed_lem refl;
      five_nested_sets_are_malformed = malformed refl;
      twenty_zero_bytes_are_27_times_a = record { written = refl; read = refl };
      twenty_bytes_ff_are_26_slashes_and_8 = record { written = refl; read = refl };
      with_9_in_its_place_it_is_malformed = record { refused = refl };
    }

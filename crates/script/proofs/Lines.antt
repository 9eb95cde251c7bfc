-- An input cut at its line feeds: what stands behind the last one, where nothing does, is a line more that says nothing.
use Rattle.std.proofs.Common.{◌≡◌, ℕ, ◌+◌, Bool, true, false, eqb, List, [], ◌∷◌, ◌++◌, map, refl, ap}
use Rattle.std.specs.List.{slice_split, enumerate_from, flat_map, onto_first}
use Rattle.std.proofs.lemmas.List.Splits.{slice_split-cons_yes, slice_split-cons_no}
use Rattle.account.specs.Accounts.{Tally}
use Rattle.statement.specs.Lines.{lines_of, longer}
use Rattle.script.specs.Plays.{reply_to_line, shown_reply, shown, noted_reply, tallied}

-- the parts between line feeds
abbrev pub parts : List ℕ → List (List ℕ)
parts input = slice_split (λ c. eqb c 10) input

-- lists that are equal, or of which the first has an empty line more at its end
data Same : List (List ℕ) → List (List ℕ) → Type 0 where
  same : (ls : List (List ℕ)) → Same ls ls
  one_more : Same ([] ∷ []) []
  onward : (l : List ℕ) (ps ls : List (List ℕ)) → Same ps ls → Same (l ∷ ps) (l ∷ ls)

put_on : (c : ℕ) (ps ls : List (List ℕ)) → Same ps ls → Same (onto_first c ps) (longer c ls)
put_on c _ _ (same []) = same _
put_on c _ _ (same (l ∷ ls)) = same _
put_on c _ _ one_more = same _
put_on c _ _ (onward l ps ls s) = onward (c ∷ l) ps ls s

parts_are_lines : (input : List ℕ) → Same (parts input) (lines_of input)
parts_are_lines [] = one_more
parts_are_lines (c ∷ cs) = by (eqb c 10) refl (parts_are_lines cs)
  where
    by : (b : Bool) → eqb c 10 ≡ b → Same (parts cs) (lines_of cs) → Same (parts (c ∷ cs)) (lines_of (c ∷ cs))
    by true e s = rw (slice_split-cons_yes (λ c. eqb c 10) c cs e, e) (onward [] _ _ s)
    by false e s = rw (slice_split-cons_no (λ c. eqb c 10) c cs e, e) (put_on c _ _ s)

shown_same : (number : ℕ) (ps ls : List (List ℕ)) → Same ps ls → shown number ps ≡ shown number ls
unfolding reply_to_line
shown_same number _ _ (same ls) = refl
shown_same number _ _ one_more = refl
shown_same number _ _ (onward l ps ls s) = ap (λ xs. shown_reply number (reply_to_line l) ++ xs) (shown_same (number + 1) ps ls s)

tallied_same : (t : Tally) (ps ls : List (List ℕ)) → Same ps ls → tallied t ps ≡ tallied t ls
unfolding reply_to_line
tallied_same t _ _ (same ls) = refl
tallied_same t _ _ one_more = refl
tallied_same t _ _ (onward l ps ls s) = tallied_same (noted_reply t (reply_to_line l)) ps ls s

pub shown_parts : (input : List ℕ) → shown 1 (parts input) ≡ shown 1 (lines_of input)
shown_parts input = shown_same 1 _ _ (parts_are_lines input)

pub tallied_parts : (t : Tally) (input : List ℕ) → tallied t (parts input) ≡ tallied t (lines_of input)
tallied_parts t input = tallied_same t _ _ (parts_are_lines input)

-- parts with their numbers
pub shown_numbered : (n : ℕ) (ps : List (List ℕ)) → flat_map (λ p. shown_reply (p.0 + 1) (reply_to_line p.1)) (enumerate_from n ps) ≡ shown (n + 1) ps
shown_numbered n [] = refl
shown_numbered n (p ∷ ps) = ap (λ xs. shown_reply (n + 1) (reply_to_line p) ++ xs) (shown_numbered (n + 1) ps)

pub tallied_more : (t : Tally) (ps : List (List ℕ)) (p : List ℕ) → tallied t (ps ++ p ∷ []) ≡ noted_reply (tallied t ps) (reply_to_line p)
tallied_more t [] p = refl
tallied_more t (q ∷ ps) p = tallied_more (noted_reply t (reply_to_line q)) ps p

pub unnumbered : (n : ℕ) (ps : List (List ℕ)) → map {A = ℕ × List ℕ} {B = List ℕ} (λ p. p.1) (enumerate_from n ps) ≡ ps
unnumbered n [] = refl
unnumbered n (p ∷ ps) = ap (λ xs. p ∷ xs) (unnumbered (n + 1) ps)

-- The escaped hash element: 64 fixed bytes, the 28 characters, 27 fixed bytes.
use Rattle.std.proofs.Common.{◌≡◌, ℕ, ◌/◌, ◌%◌, Bool, true, false, ◌&&◌, eqb, cond, List, [], ◌∷◌, ◌++◌, map, fold, length, get_or, take, drop, Decides, Ok, Err, sym, refl, ap, ap₂, ◌∙◌, arith}
use borrow.Rule.Slice.PartMut.{put_mid}
use Rattle.std.specs.Int.Digits.{number_from_digits}
use Rattle.std.specs.List.{zip}
use Rattle.std.specs.Str.{bytes_eq}
use Rattle.std.proofs.lemmas.Bool.{false≢true, eqb-true, eq-eqb}
use Rattle.std.proofs.lemmas.Slice.Eq.{bytes_eq-Decides}
use Rattle.std.proofs.lemmas.List.{append_assoc, append-nil, drop_all, length-drop, append_cancel_left, append_cancel_right, length-append, take-append-drop, take_at, take-append-le, drop_at, get_or_append_left}
use Rattle.std.proofs.lemmas.Bool.Decides.{same_from_decides, Decides-like}
use Rattle.refusal.specs.declared.Refusal.TheVariants.{Malformed}
use Rattle.keyhash.specs.Canonical.{Canonical}
use Rattle.keyhash.specs.Base64.{digit_of, text, spelled, reading, StrayBits}
use Rattle.keyhash.specs.Numeral.{numeral}
use Rattle.keyhash.specs.Element.{opening, closing, element, reading_element}
use Rattle.keyhash.proofs.Texts.{length-text, spelled_of_text, spelled_is_hash, text_readable}
use Rattle.keyhash.proofs.Inverse as inverse

length-opening : length opening ≡ 64
unfolding opening
length-opening = refl

length-closing : length closing ≡ 27
unfolding closing
length-closing = refl

drop-element : (hash : List ℕ) → drop 64 (element hash) ≡ text hash ++ closing
unfolding element
drop-element hash = drop_at opening (text hash ++ closing) 64 length-opening

pub length-parts : (value : List ℕ) → length value ≡ 28 → length (opening ++ (value ++ closing)) ≡ 119
length-parts value long =
    let whole = length-append opening (value ++ closing) in
    let rest = length-append value closing in
    omega (arith, whole, rest, length-opening, length-closing)

pub opening_of_parts : (value : List ℕ) → take 64 (opening ++ (value ++ closing)) ≡ opening
opening_of_parts value = take_at opening (value ++ closing) 64 length-opening

pub closing_of_parts : (value : List ℕ) → length value ≡ 28 → drop 28 (drop 64 (opening ++ (value ++ closing))) ≡ closing
closing_of_parts value long = ap (drop 28) (drop_at opening (value ++ closing) 64 length-opening) ∙ drop_at value closing 28 long

pub element_canonical : Canonical element reading_element
unfolding reading_element
element_canonical =
    inverse.canonical element (λ bytes. spelled (drop 64 bytes))
    (λ hash is. ap spelled (drop-element hash) ∙ spelled_of_text hash closing is)
    (λ bytes. spelled_is_hash (drop 64 bytes))

-- the last digit in an element has no stray bits
no_stray : (hash : List ℕ) → digit_of (get_or (drop 64 (element hash)) 26 0) % 4 ≡ 0
no_stray hash =
    ap (λ xs. digit_of (get_or xs 26 0) % 4) (drop-element hash)
    ∙ ap (λ c. digit_of c % 4) (get_or_append_left (text hash) closing 0 26 (omega (arith, length-text hash)))
    ∙ (text_readable hash).no_stray

-- bytes that no element has the parts of are refused
module _ (bytes : List ℕ) where
  refuses : ((hash : List ℕ) → bytes ≡ element hash → ⊥) → reading_element bytes ≡ Err Malformed
  unfolding reading_element
  refuses none = inverse.refuses element (λ b. spelled (drop 64 b)) bytes (none (spelled (drop 64 bytes)))

  pub refuses_parts : ((value : List ℕ) → length value ≡ 28 → bytes ≡ opening ++ (value ++ closing) → ⊥) → reading_element bytes ≡ Err Malformed
  unfolding element
  refuses_parts none = refuses (λ hash e. none (text hash) (length-text hash) e)

  pub refuses_stray_bits : StrayBits (drop 64 bytes) → reading_element bytes ≡ Err Malformed
  refuses_stray_bits stray = refuses (λ hash e. stray (ap (λ xs. digit_of (get_or (drop 64 xs) 26 0) % 4) e ∙ no_stray hash))

-- between the fixed bytes, the 28 characters are read
module _ (bytes chars : List ℕ) (long : length chars ≡ 28) (is : bytes ≡ opening ++ (chars ++ closing)) where
  inner : drop 64 bytes ≡ chars ++ closing
  inner = ap (drop 64) is ∙ drop_at opening (chars ++ closing) 64 length-opening

  spelled_inner : spelled (drop 64 bytes) ≡ spelled chars
  unfolding spelled
  spelled_inner = ap (λ xs. numeral 256 20 (number_from_digits 64 (map digit_of xs) / 4)) (ap (take 27) inner ∙ take-append-le 27 chars closing (omega arith))

  same_element : (hash : List ℕ) → bytes_eq bytes (element hash) ≡ bytes_eq chars (text hash)
  unfolding element
  same_element hash =
      same_from_decides (bytes_eq bytes (opening ++ (text hash ++ closing))) (bytes_eq chars (text hash))
      (Decides-like _
      (λ (e : bytes ≡ opening ++ (text hash ++ closing)). append_cancel_right chars (text hash) closing (append_cancel_left opening (chars ++ closing) (text hash ++ closing) (sym is ∙ e)))
      (λ (e : chars ≡ text hash). is ∙ ap (λ xs. opening ++ (xs ++ closing)) e)
      (bytes_eq-Decides bytes (opening ++ (text hash ++ closing))))
      (bytes_eq-Decides chars (text hash))

  pub reads_inner : reading_element bytes ≡ reading chars
  unfolding reading_element reading
  reads_inner =
      ap (λ hash. cond (bytes_eq bytes (element hash)) (Ok hash) (Err Malformed)) spelled_inner
      ∙ ap (λ b. cond b (Ok (spelled chars)) (Err Malformed)) (same_element (spelled chars))

-- three parts written one behind the other fill the whole
pub filled : (p q s rest : List ℕ) → length p ≡ 64 → length q ≡ 28 → length s ≡ 27 → length rest ≡ 55 → put_mid 92 27 (put_mid 64 28 (p ++ rest) q) s ≡ p ++ (q ++ s)
filled p q s rest first second third room =
    let front : length (p ++ q) ≡ 92 = (let both = length-append p q in omega arith) in
    let last : length (drop 28 rest) ≡ 27 = simp length-drop (omega arith) in
    let two : put_mid 64 28 (p ++ rest) q ≡ (p ++ q) ++ drop 28 rest =
    ap (λ xs. xs ++ (q ++ drop 28 (drop 64 (p ++ rest)))) (take_at p rest 64 first) ∙ ap (λ xs. p ++ (q ++ drop 28 xs)) (drop_at p rest 64 first) ∙ sym (append_assoc p q (drop 28 rest)) in
    ap (λ xs. put_mid 92 27 xs s) two
    ∙ ap (λ xs. xs ++ (s ++ drop 27 (drop 92 ((p ++ q) ++ drop 28 rest)))) (take_at (p ++ q) (drop 28 rest) 92 front)
    ∙ ap (λ xs. (p ++ q) ++ (s ++ drop 27 xs)) (drop_at (p ++ q) (drop 28 rest) 92 front)
    ∙ ap (λ xs. (p ++ q) ++ (s ++ xs)) (drop_all 27 (drop 28 rest) (omega arith))
    ∙ ap (λ xs. (p ++ q) ++ xs) (append-nil s)
    ∙ append_assoc p q s

-- and three parts of a list are the whole
pub in_three : (bytes p q s : List ℕ) → take 64 bytes ≡ p → take 28 (drop 64 bytes) ≡ q → drop 28 (drop 64 bytes) ≡ s → bytes ≡ p ++ (q ++ s)
in_three bytes p q s one two three =
    let cut = take-append-drop 64 bytes in
    let again = take-append-drop 28 (drop 64 bytes) in
    cc

both_hold : (p q : Bool) → (p && q) ≡ true → (p ≡ true) × (q ≡ true)
both_hold true true e = (refl, refl)
both_hold true false e = absurd (false≢true e)
both_hold false q e = absurd (false≢true e)

-- what was seen of two texts, and whether they are the same from there on
abbrev same_on : Bool → List ℕ → List ℕ → Bool
same_on seen a b = fold (λ all p. all && eqb p.0 p.1) seen (zip a b)

same_where_seen : (seen : Bool) (a b : List ℕ) → length a ≡ length b → same_on seen a b ≡ true → (seen ≡ true) × (a ≡ b)
same_where_seen seen [] [] l e = (e, refl)
same_where_seen seen [] (y ∷ b) l e = absurd (omega arith)
same_where_seen seen (x ∷ a) [] l e = absurd (omega arith)
same_where_seen seen (x ∷ a) (y ∷ b) l e =
    let rest = same_where_seen (seen && eqb x y) a b (omega arith) e in
    let parts = both_hold seen (eqb x y) rest.0 in
    (parts.0, ap₂ (λ z zs. z ∷ zs) (eqb-true x y parts.1) rest.1)

seen_where_same : (a : List ℕ) → same_on true a a ≡ true
seen_where_same [] = refl
seen_where_same (x ∷ a) = ap (λ seen. same_on seen a a) (eq-eqb x x refl) ∙ seen_where_same a

-- every byte seen decides whether two texts are the same
pub same_decides : (a b : List ℕ) (answer : Bool) → length a ≡ length b → answer ≡ fold (λ all p. all && eqb p.0 p.1) true (zip a b) → Decides answer (a ≡ b)
same_decides a b answer l e = ((λ t. (same_where_seen true a b l (sym e ∙ t)).1), (λ q. e ∙ ap (same_on true a) (sym q) ∙ seen_where_same a))

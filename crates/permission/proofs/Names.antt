-- The tests on names decide what names are and how they are ordered.
use Rattle.std.proofs.Common.{◌≡◌, ℕ, Bool, true, false, Some, not, arith, ◌≤◌, ◌&&◌, eqb, ltb, leb, List, [], ◌∷◌, ◌++◌, length, take, drop, fold, Decides, sym, refl, ap, ◌∙◌}
use Rattle.std.specs.List.{AllByRecursion}
use Rattle.std.specs.Cmp.Lexicographic.{slice_partial_cmp}
use Rattle.std.specs.Ordering.{is_le, is_gt, is_some_and, nat_cmp}
use Rattle.std.specs.Str.{bytes_eq}
use Rattle.std.proofs.lemmas.List.{take-append-drop, take_at}
use Rattle.std.proofs.lemmas.Slice.Eq.{bytes_eq-Decides}
use Rattle.std.proofs.lemmas.Bool.{false≢true, leb-true, le-leb}
use Rattle.std.proofs.lemmas.Bool.Decides.{nat_tests, Decides-and, Decides-or, Decides-like, Decides-eqb, Decides-ltb}
use Rattle.std.proofs.lemmas.Cmp.{same_from_slice_cmp_tested}
use Rattle.std.proofs.ByRecursion.{Decides-by_and}
use Rattle.permission.specs.Names.{Graphic, IsName, NotAfter, BeginsWith}
use Rattle.permission.specs.Reading.{graphic, all_graphic, is_name, not_after}

leb_decides : (a b : ℕ) → Decides (leb a b) (a ≤ b)
leb_decides a b = (leb-true a b, le-leb a b)

graphic_decides : (b : ℕ) → Decides (graphic b) (Graphic b)
graphic_decides b = Decides-and (leb 0x21 b) (leb b 0x7E) (leb_decides 0x21 b) (leb_decides b 0x7E)

pub all_graphic_decides : (bytes : List ℕ) → Decides (all_graphic bytes) (AllByRecursion Graphic bytes)
all_graphic_decides bytes = Decides-by_and graphic Graphic all_graphic graphic_decides refl (λ _ _. refl) bytes

and_in_turn : (a b c : Bool) → ((a && b) && c) ≡ (a && (b && c))
and_in_turn true b c = refl
and_in_turn false b c = refl

and_true : (a : Bool) → (a && true) ≡ a
and_true true = refl
and_true false = refl

-- what was seen of the bytes and what is left of them decide
seen_and_left : (seen : Bool) (bytes : List ℕ) → fold (λ all byte. all && graphic byte) seen bytes ≡ (seen && all_graphic bytes)
seen_and_left seen [] = sym (and_true seen)
seen_and_left seen (byte ∷ bytes) = seen_and_left (seen && graphic byte) bytes ∙ and_in_turn seen (graphic byte) (all_graphic bytes)

pub all_graphic_in_turn : (bytes : List ℕ) (answer : Bool) → answer ≡ fold (λ all byte. all && graphic byte) true bytes → answer ≡ all_graphic bytes
all_graphic_in_turn bytes answer e = e ∙ seen_and_left true bytes

pub is_name_decides : (bytes : List ℕ) → Decides (is_name bytes) (IsName bytes)
is_name_decides bytes =
    Decides-like (is_name bytes)
    (λ h. record { text = record { short = h.0.1; graphic = h.1 }; some = h.0.0 })
    (λ name. ((name.some, name.text.short), name.text.graphic))
    (Decides-and (leb 1 (length bytes) && leb (length bytes) 16) (all_graphic bytes)
    (Decides-and (leb 1 (length bytes)) (leb (length bytes) 16) (leb_decides 1 (length bytes)) (leb_decides (length bytes) 16))
    (all_graphic_decides bytes))

not-not : (b : Bool) → not (not b) ≡ b
not-not true = refl
not-not false = refl

-- the order of slices is that of names
module _ (xs ys : List ℕ) (answer : Bool) where
  pub le_is_not_after : answer ≡ is_some_and is_le (slice_partial_cmp (λ x y. Some (nat_cmp x y)) xs ys) → answer ≡ not_after xs ys
  le_is_not_after e = same_from_slice_cmp_tested nat_cmp is_le not_after refl (λ _ _. refl) (λ _ _. refl) (λ x y xs ys o h. grind (arith, nat_tests)) xs ys answer e

  pub gt_is_after : answer ≡ is_some_and is_gt (slice_partial_cmp (λ x y. Some (nat_cmp x y)) xs ys) → not answer ≡ not_after xs ys
  gt_is_after e =
      ap not (same_from_slice_cmp_tested nat_cmp is_gt (λ xs ys. not (not_after xs ys)) refl (λ _ _. refl) (λ _ _. refl) (λ x y xs ys o h. grind (arith, nat_tests)) xs ys answer e)
      ∙ not-not (not_after xs ys)

pub not_after_decides : (xs ys : List ℕ) → Decides (not_after xs ys) (NotAfter xs ys)
not_after_decides [] ys = (λ _. tt, λ _. refl)
not_after_decides (x ∷ xs) [] = (λ e. false≢true e, λ h. absurd h)
not_after_decides (x ∷ xs) (y ∷ ys) =
    Decides-or (ltb x y) (eqb x y && not_after xs ys) (Decides-ltb x y)
    (Decides-and (eqb x y) (not_after xs ys) (Decides-eqb x y) (not_after_decides xs ys))

pub begins_with_decides : (front name : List ℕ) → Decides (bytes_eq front (take (length front) name)) (BeginsWith front name)
begins_with_decides front name =
    Decides-like (bytes_eq front (take (length front) name))
    (λ e. (drop (length front) name, sym (take-append-drop (length front) name) ∙ ap (λ f. f ++ drop (length front) name) (sym e)))
    (λ begins. sym (ap (take (length front)) begins.1 ∙ take_at front begins.0 (length front) refl))
    (bytes_eq-Decides front (take (length front) name))

-- An array of what a closure answers at each index, where its calls leave it as it was.
use Rattle.std.proofs.Common.{◌≡◌, ℕ, zero, suc, ◌+◌, ◌<◌, List, map, length, get_or, subst, sym, refl, ◌∙◌, arith}
use denote.Param.Members.{Mut, Called}
use Rattle.std.specs.Array.{IsFromFnResultFrom, IsFromFnResult}
use Rattle.std.proofs.lemmas.List.{ext_get_or, get_or-map, length-map}

module _ {F B : Type 0} (g : Mut F (ℕ × Unit {0}) B) (f : F) (P : ℕ → B → Type 0) (d : B) (call : (i : ℕ) (y : B) (f' : F) → Called g f (i, tt) y f' → P i y × (f' ≡ f)) where
  made_from : (ys : List B) (n i j k : ℕ) (f' : F) → f' ≡ f → i + k ≡ j → k < n → IsFromFnResultFrom g f' ys i n → P j (get_or ys j d)
  made_from ys zero i j k f' same e l is = absurd (omega arith)
  made_from ys (suc n) i j zero f' same e l (q, y, at, called, rest) =
      let here : i ≡ j = omega arith in
      subst (λ (m : ℕ). P m (get_or ys m d)) here (subst (P i) (sym (at.1 d)) (call i y q (subst (λ s. Called g s (i, tt) y q) same called)).0)
  made_from ys (suc n) i j (suc k) f' same e l (q, y, at, called, rest) =
      made_from ys n (i + 1) j k q (call i y q (subst (λ s. Called g s (i, tt) y q) same called)).1 (omega arith) (omega arith) rest

-- what holds of each call's answer holds of each element
pub made_each : {F B : Type 0} {g : Mut F (ℕ × Unit {0}) B} {f : F} {ys : List B} {n : ℕ} (P : ℕ → B → Type 0) (d : B) → IsFromFnResult g f ys n → ((i : ℕ) (y : B) (f' : F) → Called g f (i, tt) y f' → P i y × (f' ≡ f)) → (k : ℕ) → k < n → P k (get_or ys k d)
made_each {F} {B} {g} {f} {ys} {n} P d is call k l = made_from g f P d call ys n 0 k k f refl (omega arith) l is.each

-- where each call answers h of an element of xs, the array is the map of xs
pub map_made : {F : Type 0} {g : Mut F (ℕ × Unit {0}) ℕ} {f : F} {ys : List ℕ} {n : ℕ} (h : ℕ → ℕ) (xs : List ℕ) → IsFromFnResult g f ys n → length xs ≡ n → ((i : ℕ) (y : ℕ) (f' : F) → Called g f (i, tt) y f' → (y ≡ h (get_or xs i 0)) × (f' ≡ f)) → ys ≡ map h xs
map_made {F} {g} {f} {ys} {n} h xs is long call =
    ext_get_or 0 ys (map h xs) (is.long ∙ sym long ∙ sym (length-map xs h))
    (λ i l. made_each (λ k y. y ≡ h (get_or xs k 0)) 0 is call i (omega (arith, is.long)) ∙ sym (get_or-map h xs i 0 0 (omega (arith, is.long))))

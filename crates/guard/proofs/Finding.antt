-- What a search by place says of the first record that passes a test.
use Rattle.std.proofs.Common.{◌≡◌, ℕ, suc, ◌+◌, ◌<◌, Bool, true, false, cond, List, [], ◌∷◌, length, get_or, set, is_some, Some, None, Option, sym, refl, ap, ◌∙◌, subst, arith}
use Rattle.std.specs.List.{remove, position, position_from, slice_get}
use Rattle.std.specs.Option.{option_and_then, option_map_or}
use Rattle.std.proofs.lemmas.Iterator.Adapters.{position_from-zero}
use Rattle.sessions.specs.declared.types.Session.{Session}
use Rattle.sessions.specs.declared.types.SessionName.{SessionName}
use Rattle.sessions.specs.Opened.{with_last, blank_session, used_at, name_of, same_name}
use Rattle.tables.specs.Place.{named}
use Rattle.machine.specs.Lists.{any_of, first_of, without, with_first}

-- what is known of the place that a search from i on answers
record Found {X : Type 0} (test : X → Bool) (xs : List X) (i j : ℕ) : Type 0 where
  place : ℕ
  is : j ≡ i + place
  within : place < length xs
  any : any_of test xs ≡ true
  first : slice_get xs place ≡ first_of test xs
  gone : remove xs place ≡ without test xs
  changed : (d : X) (change : X → X) → set xs place (change (get_or xs place d)) ≡ with_first test change xs

record Missing {X : Type 0} (test : X → Bool) (xs : List X) : Type 0 where
  none : any_of test xs ≡ false
  first : first_of test xs ≡ None
  same : without test xs ≡ xs

abbrev Searched : {X : Type 0} → (X → Bool) → List X → ℕ → Option ℕ → Type 0
Searched test xs i None = Missing test xs
Searched test xs i (Some j) = Found test xs i j

-- one more record in front
found_here : {X : Type 0} (test : X → Bool) (x : X) (xs : List X) (i : ℕ) → test x ≡ true → Found test (x ∷ xs) i i
found_here test x xs i t = record {
  place = 0;
  is = omega arith;
  within = omega arith;
  any = rw t;
  first = rw t;
  gone = rw t;
  changed = λ d change. rw t;
}

found_there : {X : Type 0} (test : X → Bool) (x : X) (xs : List X) (i j : ℕ) → test x ≡ false → Found test xs (i + 1) j → Found test (x ∷ xs) i j
found_there test x xs i j t f = let e = f.is in record {
  place = suc f.place;
  is = omega arith;
  within = let w = f.within in omega arith;
  any = rw t f.any;
  first = rw t f.first;
  gone = rw t (ap (λ z. x ∷ z) f.gone);
  changed = λ d change. rw t (ap (λ z. x ∷ z) (f.changed d change));
}

missing_there : {X : Type 0} (test : X → Bool) (x : X) (xs : List X) → test x ≡ false → Missing test xs → Missing test (x ∷ xs)
missing_there test x xs t m = record { none = rw t m.none; first = rw t m.first; same = rw t (ap (λ z. x ∷ z) m.same) }

searched_there : {X : Type 0} (test : X → Bool) (x : X) (xs : List X) (i : ℕ) (o : Option ℕ) → test x ≡ false → Searched test xs (i + 1) o → Searched test (x ∷ xs) i o
searched_there test x xs i None t m = missing_there test x xs t m
searched_there test x xs i (Some j) t f = found_there test x xs i j t f

searched_from : {X : Type 0} (test : X → Bool) (xs : List X) (i : ℕ) → Searched test xs i (position_from test i xs)
searched_from test [] i = record { none = refl; first = refl; same = refl }
searched_from test (x ∷ xs) i = go (test x) refl (searched_from test xs (i + 1))
  where
    go : (b : Bool) → test x ≡ b → Searched test xs (i + 1) (position_from test (i + 1) xs) → Searched test (x ∷ xs) i (cond b (Some i) (position_from test (i + 1) xs))
    go true t s = found_here test x xs i t
    go false t s = searched_there test x xs i (position_from test (i + 1) xs) t s

-- ## By the answer of a search

module _ {X : Type 0} (test : X → Bool) (xs : List X) where
  searched : Searched test xs 0 (position test xs)
  searched = subst (λ z. Searched test xs 0 z) (sym (position_from-zero test xs)) (searched_from test xs 0)

  by_answer : (o : Option ℕ) → position test xs ≡ o → Searched test xs 0 o
  by_answer o e = subst (λ z. Searched test xs 0 z) e searched

  some_any : (o : Option ℕ) → Searched test xs 0 o → is_some o ≡ any_of test xs
  some_any None m = sym m.none
  some_any (Some j) f = sym f.any

  pub is_some_any : is_some (position test xs) ≡ any_of test xs
  is_some_any = some_any (position test xs) searched

  at_first : (o : Option ℕ) → Searched test xs 0 o → option_and_then (slice_get xs) o ≡ first_of test xs
  at_first None m = sym m.first
  at_first (Some j) f = let e : j ≡ f.place = let i = f.is in omega arith in ap (slice_get xs) e ∙ f.first

  pub found_is_first : option_and_then (slice_get xs) (position test xs) ≡ first_of test xs
  found_is_first = at_first (position test xs) searched

  removed_first : (o : Option ℕ) → Searched test xs 0 o → option_map_or (remove xs) o xs ≡ without test xs
  removed_first None m = sym m.same
  removed_first (Some j) f = let e : j ≡ f.place = let i = f.is in omega arith in ap (remove xs) e ∙ f.gone

  pub removed_is_without : option_map_or (remove xs) (position test xs) xs ≡ without test xs
  removed_is_without = removed_first (position test xs) searched

pub used_is_with_first : (test : Session → Bool) (ss : List Session) (i n : ℕ) → position test ss ≡ Some i → used_at ss i n ≡ with_first test (with_last n) ss
used_is_with_first test ss i n e =
    let f = by_answer test ss (Some i) e in
    let p : i ≡ f.place = let q = f.is in omega arith in
    ap (λ z. set ss z (with_last n (get_or ss z blank_session))) p ∙ f.changed blank_session (with_last n)

-- ## A session by its name

module _ (name : SessionName) (sought : SessionName) (ss : List Session) (is : name ≡ sought) where
  by_name : position (named name_of same_name name) ss ≡ position (named name_of same_name sought) ss
  by_name = ap (λ z. position (named name_of same_name z) ss) is

  pub none_found : None ≡ position (named name_of same_name name) ss → first_of (named name_of same_name sought) ss ≡ None
  none_found e = (by_answer (named name_of same_name sought) ss None (sym (e ∙ by_name))).first

  at_place : (i : ℕ) → Some i ≡ position (named name_of same_name name) ss → slice_get ss i ≡ first_of (named name_of same_name sought) ss
  at_place i e =
      let f = by_answer (named name_of same_name sought) ss (Some i) (sym (e ∙ by_name)) in
      let p : i ≡ f.place = let q = f.is in omega arith in
      ap (slice_get ss) p ∙ f.first

  pub none_there : (i : ℕ) → Some i ≡ position (named name_of same_name name) ss → None ≡ slice_get ss i → first_of (named name_of same_name sought) ss ≡ None
  none_there i e n = sym (n ∙ at_place i e)

  pub one_there : (i : ℕ) (s : Session) → Some i ≡ position (named name_of same_name name) ss → Some s ≡ slice_get ss i → (first_of (named name_of same_name sought) ss ≡ Some s) × (position (named name_of same_name sought) ss ≡ Some i)
  one_there i s e f = (sym (f ∙ at_place i e), sym (e ∙ by_name))

pub length-with_first : {X : Type 0} (test : X → Bool) (change : X → X) (xs : List X) → length (with_first test change xs) ≡ length xs
length-with_first test change [] = refl
length-with_first test change (x ∷ xs) = go (test x) (length-with_first test change xs)
  where
    go : (b : Bool) → length (with_first test change xs) ≡ length xs → length (cond b (change x ∷ xs) (x ∷ with_first test change xs)) ≡ length (x ∷ xs)
    go true ih = refl
    go false ih = ap suc ih

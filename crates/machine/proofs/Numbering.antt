-- Sessions by the record: whose key is which, which numbers are fresh, and that no signed text is consumed twice.
use Rattle.std.proofs.Common.{◌≡◌, ℕ, ◌<◌, ◌≤◌, Bool, true, false, cond, ◌&&◌, eqb, ◌⊎◌, List, [], ◌∷◌, ◌++◌, map, Some, Decides, sym, refl, ap, ◌∙◌, subst, inl, inr, arith}
use Rattle.std.specs.Str.{bytes_eq}
use Rattle.std.proofs.lemmas.Slice.Eq.{bytes_eq-Decides}
use Rattle.std.proofs.lemmas.Bool.{true≢false, eqb-true, eq-eqb, and_parts, and_from}
use Rattle.sessions.specs.declared.types.SessionName.{SessionName}
use Rattle.wire.specs.declared.types.Kind.TheVariants.{Session as Session'}
use Rattle.wire.specs.Envelope.{key_number, sequence_number, signer, kind_of}
use Rattle.machine.specs.Lists.{Member, Distinct, first_of, without, with_first}
use Rattle.machine.specs.History.{Event, signed_in, Consumed, OpenedWith, OpenedWith.here, OpenedWith.before, Fresh}
use Rattle.machine.specs.Law.{NeverConsumed}

-- ## Lists

pub member_map : {X Y : Type 0} (f : X → Y) (xs : List X) (x : X) → Member x xs → Member (f x) (map f xs)
member_map f [] x m = m
member_map f (y ∷ ys) x (inl e) = inl (ap f e)
member_map f (y ∷ ys) x (inr m) = inr (member_map f ys x m)

pub map_member : {X Y : Type 0} (f : X → Y) (xs : List X) (y : Y) → Member y (map f xs) → (x : X) × Member x xs × (f x ≡ y)
map_member f [] y m = elim m [ ]
map_member f (x ∷ xs) y (inl e) = (x, inl refl, sym e)
map_member f (x ∷ xs) y (inr m) = let r = map_member f xs y m in (r.0, inr r.1, r.2)

pub map_appended : {X Y : Type 0} (f : X → Y) (xs : List X) (x : X) → map f (xs ++ x ∷ []) ≡ map f xs ++ f x ∷ []
map_appended f [] x = refl
map_appended f (y ∷ ys) x = ap (λ z. f y ∷ z) (map_appended f ys x)

pub map_without : {X Y : Type 0} (f : X → Y) (test : Y → Bool) (xs : List X) → map f (without (λ x. test (f x)) xs) ≡ without test (map f xs)
map_without f test [] = refl
map_without f test (x ∷ xs) = go (test (f x)) (map_without f test xs)
  where
    go : (b : Bool) → map f (without (λ x. test (f x)) xs) ≡ without test (map f xs) → map f (cond b xs (x ∷ without (λ x. test (f x)) xs)) ≡ cond b (map f xs) (f x ∷ without test (map f xs))
    go true ih = refl
    go false ih = ap (λ z. f x ∷ z) ih

pub first_found : {X : Type 0} (test : X → Bool) (xs : List X) (x : X) → first_of test xs ≡ Some x → Member x xs × (test x ≡ true)
first_found test [] x e = let z : ◌≡◌ {A = ℕ} 0 1 = cc in absurd (omega arith)
first_found test (y ∷ ys) x e = go (test y) refl (first_found test ys x) e
  where
    go : (b : Bool) → test y ≡ b → (first_of test ys ≡ Some x → Member x ys × (test x ≡ true)) → cond b (Some y) (first_of test ys) ≡ Some x → Member x (y ∷ ys) × (test x ≡ true)
    go true t ih e = let q : x ≡ y = cc in (inl q, ap test q ∙ t)
    go false t ih e = let r = ih e in (inr r.0, r.1)

pub found_first : {X : Type 0} (test : X → Bool) (xs : List X) (x : X) → Member x xs → test x ≡ true → (y : X) × (first_of test xs ≡ Some y)
found_first test [] x m t = elim m [ ]
found_first {X} test (y ∷ ys) x m t = go (test y) refl (λ k. found_first test ys x k t) m
  where
    go : (b : Bool) → test y ≡ b → (Member x ys → (z : X) × (first_of test ys ≡ Some z)) → Member x (y ∷ ys) → (z : X) × (cond b (Some y) (first_of test ys) ≡ Some z)
    go true q ih k = (y, refl)
    go false q ih (inl e) = absurd (true≢false (sym t ∙ (ap test e ∙ q)))
    go false q ih (inr k) = ih k

-- what is in the list after the first record that passes was changed, where all that pass have one name
pub with_first_member : {X Y : Type 0} (f : X → Y) (test : X → Bool) (change : X → X) → ((x y : X) → test x ≡ true → test y ≡ true → f x ≡ f y)
    → (xs : List X) → Distinct (map f xs) → (s : X) → Member s (with_first test change xs) → ((x : X) × Member x xs × (test x ≡ true) × (s ≡ change x)) ⊎ (Member s xs × (test s ≡ false))
with_first_member f test change one [] d s m = elim m [ ]
with_first_member {X} {Y} f test change one (y ∷ ys) d s m = go (test y) refl (with_first_member f test change one ys d.1 s) m
  where
    only : test y ≡ true → Member s ys → (b : Bool) → test s ≡ b → test s ≡ false
    only t k true e = absurd (d.0 (subst (λ z. Member z (map f ys)) (one s y e t) (member_map f ys s k)))
    only t k false e = e

    go : (b : Bool) → test y ≡ b → (Member s (with_first test change ys) → ((x : X) × Member x ys × (test x ≡ true) × (s ≡ change x)) ⊎ (Member s ys × (test s ≡ false)))
        → Member s (cond b (change y ∷ ys) (y ∷ with_first test change ys)) → ((x : X) × Member x (y ∷ ys) × (test x ≡ true) × (s ≡ change x)) ⊎ (Member s (y ∷ ys) × (test s ≡ false))
    go true t ih (inl e) = inl (y, inl refl, t, e)
    go true t ih (inr k) = inr (inr k, only t k (test s) refl)
    go false t ih (inl e) = inr (inl e, ap test e ∙ t)
    go false t ih (inr k) = elim (ih k) [ inl r ↦ inl (r.0, inr r.1, r.2, r.3) | inr r ↦ inr (inr r.0, r.1) ]

pub map_with_first : {X Y : Type 0} (f : X → Y) (test : X → Bool) (change : X → X) → ((x : X) → f (change x) ≡ f x) → (xs : List X) → map f (with_first test change xs) ≡ map f xs
map_with_first f test change same [] = refl
map_with_first f test change same (x ∷ xs) = go (test x) (map_with_first f test change same xs)
  where
    go : (b : Bool) → map f (with_first test change xs) ≡ map f xs → map f (cond b (change x ∷ xs) (x ∷ with_first test change xs)) ≡ f x ∷ map f xs
    go true ih = ap (λ z. z ∷ map f xs) (same x)
    go false ih = ap (λ z. f x ∷ z) ih

-- ## Names

abbrev pub name_for : List ℕ → SessionName
name_for text = record { id = key_number text; signer = signer text }

abbrev pub names_it : List ℕ → SessionName → Bool
names_it text n = eqb n.id (key_number text) && bytes_eq n.signer (signer text)

same_name : (a b : SessionName) → a.id ≡ b.id → a.signer ≡ b.signer → a ≡ b
same_name a b p q = ap {A = ℕ} {B = SessionName} (λ z. record { id = z; signer = a.signer }) p ∙ ap {A = List ℕ} {B = SessionName} (λ z. record { id = b.id; signer = z }) q

pub names_decides : (text : List ℕ) (n : SessionName) → Decides (names_it text n) (n ≡ name_for text)
names_decides text n = (
  λ e. let p = and_parts (eqb n.id (key_number text)) (bytes_eq n.signer (signer text)) e in same_name n (name_for text) (eqb-true n.id (key_number text) p.0) ((bytes_eq-Decides n.signer (signer text)).0 p.1),
  λ q. and_from (eqb n.id (key_number text)) (bytes_eq n.signer (signer text)) (eq-eqb n.id (key_number text) (ap (λ z. z.id) q)) ((bytes_eq-Decides n.signer (signer text)).1 (ap (λ z. z.signer) q)),
)

-- ## Keys

pub opened_unique : (name : SessionName) (k j : List ℕ) (past : List Event) → OpenedWith name k past → OpenedWith name j past → k ≡ j
opened_unique name k j past (here e es g q) (here e' es' g' q') = cc
opened_unique name k j past (here e es g q) (before e' es' n o) = absurd (n k g q)
opened_unique name k j past (before e es n o) (here e' es' g q) = absurd (n j g q)
opened_unique name k j past (before e es n o) (before e' es' n' o') = opened_unique name k j es o o'

-- ## Numbers

pub fresh_positive : (past : List Event) (name : SessionName) (n : ℕ) → Fresh past name n → 0 < n
fresh_positive [] name n f = f
fresh_positive (e ∷ es) name n f = fresh_positive es name n f.1

-- every key number that was consumed is below the base
abbrev pub ConsumedBelow : ℕ → List Event → Type 0
ConsumedBelow base [] = Unit {0}
ConsumedBelow base (e ∷ past) = (Consumed e → key_number (signed_in e) < base) × ConsumedBelow base past

pub below_more : (b c : ℕ) → b ≤ c → (past : List Event) → ConsumedBelow b past → ConsumedBelow c past
below_more b c l [] o = tt
below_more b c l (e ∷ es) o = (λ h. let q = o.0 h in omega arith, below_more b c l es o.1)

-- in a new session every number above 0 is fresh
pub fresh_new : (past : List Event) (name : SessionName) (n base : ℕ) → ConsumedBelow base past → base ≤ name.id → 0 < n → Fresh past name n
fresh_new [] name n base b l h = h
fresh_new (e ∷ es) name n base b l h = (λ c k q. let lt = b.0 c in let i = ap (λ z. z.id) q in absurd (omega arith), fresh_new es name n base b.1 l h)

-- ## A text that was consumed once

pub never_by_session : (text : List ℕ) (past : List Event) → kind_of text ≡ Some Session' → Fresh past (name_for text) (sequence_number text) → NeverConsumed text past
never_by_session text [] k f = tt
never_by_session text (e ∷ es) k f = (
  λ c q. let l = f.0 c (ap kind_of q ∙ k) (ap name_for q) in let s = ap sequence_number q in absurd (omega arith),
  never_by_session text es k f.1,
)

pub never_by_key : (text : List ℕ) (base : ℕ) (past : List Event) → key_number text ≡ base → ConsumedBelow base past → NeverConsumed text past
never_by_key text base [] k b = tt
never_by_key text base (e ∷ es) k b = (λ c q. let l = b.0 c in let s = ap key_number q in absurd (omega arith), never_by_key text base es k b.1)

-- The test of authorisation decides the relation, for chains of any length.
use Rattle.std.proofs.Common.{◌≡◌, ℕ, zero, suc, ◌+◌, ◌≤◌, Bool, true, ◌&&◌, ◌||◌, ◌⊎◌, List, [], ◌∷◌, length, Decides, sym, refl, ap, ◌∙◌, subst, inl, inr, arith}
use Rattle.std.specs.Str.{bytes_eq}
use Rattle.std.proofs.lemmas.Slice.Eq.{bytes_eq-Decides}
use Rattle.std.proofs.lemmas.Bool.{false≢true, or_cases, or_left, or_right, and_parts, and_from}
use Rattle.records.specs.declared.types.Scope.{Scope}
use Rattle.records.specs.declared.types.Entry.{Entry}
use Rattle.records.specs.declared.types.Certificate.{Certificate}
use Rattle.records.specs.Applicability.{applicable, Applicable}
use Rattle.records.proofs.Applying.{test_decides_for_names}
use Rattle.machine.specs.Lists.{Member, any_of}
use Rattle.machine.specs.Delegation.{DelegationChain, DelegationChain.last_link, DelegationChain.link, Link, Entered, Root, ByChain, Authorised, any_apart, delegates, Tables, is_owner, is_entered, may_begin, flagged, may_issue, authorised, kept_in, TheTestDecidesAuthorisation}
use Rattle.machine.proofs.Members.{any_passes, passes_any, all_passing, passing_all, member_some}

-- ## One record and the others

-- `rest` is the list without one of the places at which x stands
abbrev Picked : {X : Type 0} → X → List X → List X → Type 0
Picked x [] rest = ⊥
Picked {X} x (y ∷ ys) rest = ((x ≡ y) × (rest ≡ ys)) ⊎ ((zs : List X) × Picked x ys zs × (rest ≡ y ∷ zs))

apart_passes : {X : Type 0} (test : X → List X → Bool) (xs : List X) → any_apart test xs ≡ true → (x : X) × (rest : List X) × Picked x xs rest × (test x rest ≡ true)
apart_passes test [] e = absurd (false≢true e)
apart_passes test (x ∷ xs) e = elim (or_cases (test x xs) (any_apart (λ y ys. test y (x ∷ ys)) xs) e) [
  | inl h ↦ (x, xs, inl (refl, refl), h)
  | inr h ↦ let r = apart_passes (λ y ys. test y (x ∷ ys)) xs h in (r.0, x ∷ r.1, inr (r.1, r.2, refl), r.3)
]

passes_apart : {X : Type 0} (test : X → List X → Bool) (xs : List X) (x : X) (rest : List X) → Picked x xs rest → test x rest ≡ true → any_apart test xs ≡ true
passes_apart test [] x rest p h = elim p [ ]
passes_apart test (y ∷ ys) x rest (inl p) h = or_left (test y ys) (any_apart (λ z zs. test z (y ∷ zs)) ys) (ap (test y) (sym p.1) ∙ (ap (λ z. test z rest) (sym p.0) ∙ h))
passes_apart test (y ∷ ys) x rest (inr p) h = or_right (test y ys) (any_apart (λ z zs. test z (y ∷ zs)) ys) (passes_apart (λ z zs. test z (y ∷ zs)) ys x p.0 p.1 (ap (test x) (sym p.2) ∙ h))

pick : {X : Type 0} (x : X) (xs : List X) → Member x xs → (rest : List X) × Picked x xs rest
pick x [] m = elim m [ ]
pick x (y ∷ ys) (inl e) = (ys, inl (e, refl))
pick x (y ∷ ys) (inr m) = let r = pick x ys m in (y ∷ r.0, inr (r.0, r.1, refl))

picked_rest : {X : Type 0} (x : X) (xs rest : List X) → Picked x xs rest → (z : X) → Member z rest → Member z xs
picked_rest x [] rest p z m = elim p [ ]
picked_rest x (y ∷ ys) rest (inl p) z m = inr (subst (λ l. Member z l) p.1 m)
picked_rest x (y ∷ ys) rest (inr p) z m = elim (subst (λ l. Member z l) p.2 m) [ inl e ↦ inl e | inr k ↦ inr (picked_rest x ys p.0 p.1 z k) ]

picked_member : {X : Type 0} (x : X) (xs rest : List X) → Picked x xs rest → Member x xs
picked_member x [] rest p = p
picked_member x (y ∷ ys) rest (inl p) = inl p.0
picked_member x (y ∷ ys) rest (inr p) = inr (picked_member x ys p.0 p.1)

picked_split : {X : Type 0} (x : X) (xs rest : List X) → Picked x xs rest → (z : X) → Member z xs → (z ≡ x) ⊎ Member z rest
picked_split x [] rest p z m = elim p [ ]
picked_split x (y ∷ ys) rest (inl p) z (inl e) = inl (e ∙ sym p.0)
picked_split x (y ∷ ys) rest (inl p) z (inr m) = inr (subst (λ l. Member z l) (sym p.1) m)
picked_split x (y ∷ ys) rest (inr p) z (inl e) = inr (subst (λ l. Member z l) (sym p.2) (inl e))
picked_split x (y ∷ ys) rest (inr p) z (inr m) = elim (picked_split x ys p.0 p.1 z m) [ inl e ↦ inl e | inr k ↦ inr (subst (λ l. Member z l) (sym p.2) (inr k)) ]

picked_length : {X : Type 0} (x : X) (xs rest : List X) → Picked x xs rest → length xs ≡ length rest + 1
picked_length x [] rest p = elim p [ ]
picked_length x (y ∷ ys) rest (inl p) = let e = ap length p.1 in omega arith
picked_length x (y ∷ ys) rest (inr p) = let e = ap length p.2 in let r = picked_length x ys p.0 p.1 in omega arith

-- ## Who may delegate, by links of a list

pub data Reached (begins : List ℕ → Bool) (links : List Certificate) : List ℕ → Type 0 where
  root : (h : List ℕ) → begins h ≡ true → Reached begins links h
  onward : (h : List ℕ) (c : Certificate) → Member c links → Reached begins links c.issuer → c.subject ≡ h → Reached begins links h

module _ (begins : List ℕ → Bool) where
  reached_more : (rest links : List Certificate) → ((z : Certificate) → Member z rest → Member z links) → (h : List ℕ) → Reached begins rest h → Reached begins links h
  reached_more rest links f h (root k e) = root k e
  reached_more rest links f h (onward k c m r e) = onward k c (f c m) (reached_more rest links f c.issuer r) e

  -- the part of a chain before its first use of a link does without this link
  cut : (c : Certificate) (links rest : List Certificate) → Picked c links rest → (h : List ℕ) → Reached begins links h → Reached begins rest h ⊎ Reached begins rest c.issuer
  cut c links rest p h (root k e) = inl (root k e)
  cut c links rest p h (onward k' l m r e) = elim (cut c links rest p l.issuer r) [
    | inl k ↦ elim (picked_split c links rest p l m) [
      | inl q ↦ inr (subst (λ z. Reached begins rest z.issuer) q k)
      | inr n ↦ inl (onward k' l n k e)
    ]
    | inr k ↦ inr k
  ]

  without_itself : (c : Certificate) (links rest : List Certificate) → Picked c links rest → Reached begins links c.issuer → Reached begins rest c.issuer
  without_itself c links rest p r = elim (cut c links rest p c.issuer r) [ inl k ↦ k | inr k ↦ k ]

  pub delegates_sound : (n : ℕ) (links : List Certificate) (h : List ℕ) → delegates n begins links h ≡ true → Reached begins links h
  unfolding delegates
  delegates_sound zero links h e = root h e
  delegates_sound (suc n) links h e = elim (or_cases (begins h) (any_apart (λ c others. bytes_eq c.subject h && delegates n begins others c.issuer) links) e) [
    | inl k ↦ root h k
    | inr k ↦
        let r = apart_passes (λ c others. bytes_eq c.subject h && delegates n begins others c.issuer) links k in
        let t = and_parts (bytes_eq r.0.subject h) (delegates n begins r.1 r.0.issuer) r.3 in
        onward h r.0 (picked_member r.0 links r.1 r.2)
        (reached_more r.1 links (picked_rest r.0 links r.1 r.2) r.0.issuer (delegates_sound n r.1 r.0.issuer t.1))
        ((bytes_eq-Decides r.0.subject h).0 t.0)
  ]

  pub delegates_complete : (n : ℕ) (links : List Certificate) (h : List ℕ) → length links ≤ n → Reached begins links h → delegates n begins links h ≡ true
  unfolding delegates
  delegates_complete zero links h l (root k e) = e
  delegates_complete zero links h l (onward h' c m r e) = let k = member_some c links m in absurd (omega arith)
  delegates_complete (suc n) links h l (root k e) = or_left (begins k) (any_apart (λ c others. bytes_eq c.subject k && delegates n begins others c.issuer) links) e
  delegates_complete (suc n) links h l (onward k c m r e) =
      let p = pick c links m in
      let len = picked_length c links p.0 p.1 in
      let le : length p.0 ≤ n = omega arith in
      or_right (begins k) (any_apart (λ c others. bytes_eq c.subject k && delegates n begins others c.issuer) links)
      (passes_apart (λ c others. bytes_eq c.subject k && delegates n begins others c.issuer) links c p.0 p.1
      (and_from (bytes_eq c.subject k) (delegates n begins p.0 c.issuer) ((bytes_eq-Decides c.subject k).1 e)
      (delegates_complete n p.0 c.issuer le (without_itself c links p.0 p.1 r))))

-- ## The tables

pub is_owner_decides : (owners : List (List ℕ)) (h : List ℕ) → Decides (is_owner owners h) (Member h owners)
is_owner_decides owners h = (
  λ e. let r = any_passes (λ o. bytes_eq o h) owners e in subst (λ z. Member z owners) ((bytes_eq-Decides r.0 h).0 r.2) r.1,
  λ m. passes_any (λ o. bytes_eq o h) owners h m ((bytes_eq-Decides h h).1 refl),
)

module _ (t : Tables) (clock : ℕ) (name : List ℕ) (applies : (s : Scope) → Decides (applicable s clock name) (Applicable s clock name)) where
  pub entered_decides : (h : List ℕ) → Decides (is_entered t.entries clock name h) (Entered (kept_in t) clock name h)
  entered_decides h = (
    λ e.
        let r = any_passes (λ x. bytes_eq x.subject h && applicable x.scope clock name) t.entries e in
        let p = and_parts (bytes_eq r.0.subject h) (applicable r.0.scope clock name) r.2 in
        record { entry = r.0; held = r.1; applies = (applies r.0.scope).0 p.1; subject = (bytes_eq-Decides r.0.subject h).0 p.0 },
    λ n. passes_any (λ x. bytes_eq x.subject h && applicable x.scope clock name) t.entries n.entry n.held
        (and_from (bytes_eq n.entry.subject h) (applicable n.entry.scope clock name) ((bytes_eq-Decides n.entry.subject h).1 n.subject) ((applies n.entry.scope).1 n.applies)),
  )

  pub begins_decides : (h : List ℕ) → Decides (may_begin t clock name h) (Root (kept_in t) clock name h)
  begins_decides h =
      let test = λ (x : Entry). x.scope.delegate && (bytes_eq x.subject h && applicable x.scope clock name) in (
        λ e. elim (or_cases (is_owner t.owners h) (any_of test t.entries) e) [
          | inl k ↦ inl ((is_owner_decides t.owners h).0 k)
          | inr k ↦
              let r = any_passes test t.entries k in
              let p = and_parts r.0.scope.delegate (bytes_eq r.0.subject h && applicable r.0.scope clock name) r.2 in
              let q = and_parts (bytes_eq r.0.subject h) (applicable r.0.scope clock name) p.1 in
              inr (record { entered = record { entry = r.0; held = r.1; applies = (applies r.0.scope).0 q.1; subject = (bytes_eq-Decides r.0.subject h).0 q.0 }; flag = p.0 })
        ],
        λ r. elim r [
          | inl k ↦ or_left (is_owner t.owners h) (any_of test t.entries) ((is_owner_decides t.owners h).1 k)
          | inr m ↦
              let n = m.entered in
              or_right (is_owner t.owners h) (any_of test t.entries)
              (passes_any test t.entries n.entry n.held
              (and_from n.entry.scope.delegate (bytes_eq n.entry.subject h && applicable n.entry.scope clock name) m.flag
              (and_from (bytes_eq n.entry.subject h) (applicable n.entry.scope clock name) ((bytes_eq-Decides n.entry.subject h).1 n.subject) ((applies n.entry.scope).1 n.applies))))
        ],
      )

  abbrev pub links : List Certificate
  links = flagged t.certificates clock name

  abbrev pub begins : List ℕ → Bool
  begins = may_begin t clock name

  pub flagged_member : (c : Certificate) → Link (kept_in t) clock name c → c.scope.delegate ≡ true → Member c links
  flagged_member c l f = passing_all (λ c. c.scope.delegate && applicable c.scope clock name) t.certificates c l.0 (and_from c.scope.delegate (applicable c.scope clock name) f ((applies c.scope).1 l.1))

  pub member_flagged : (c : Certificate) → Member c links → Link (kept_in t) clock name c × (c.scope.delegate ≡ true)
  member_flagged c m =
      let r = all_passing (λ c. c.scope.delegate && applicable c.scope clock name) t.certificates c m in
      let p = and_parts c.scope.delegate (applicable c.scope clock name) r.1 in
      ((r.0, (applies c.scope).0 p.1), p.0)

  -- a chain ends with a link whose issuer may delegate
  pub last_of : (to from : List ℕ) → DelegationChain (Link (kept_in t) clock name) to from → Reached begins links from → (c : Certificate) × Link (kept_in t) clock name c × Reached begins links c.issuer × (c.subject ≡ to)
  last_of to from (last_link at c l e s) r = (c, l, subst (λ z. Reached begins links z) e r, s)
  last_of to from (link at c l e f rest) r = last_of to c.subject rest (onward c.subject c (flagged_member c l f) (subst (λ z. Reached begins links z) e r) refl)

  -- and each such link ends a chain
  pub chain_of : (to k : List ℕ) → Reached begins links k → DelegationChain (Link (kept_in t) clock name) to k → ByChain (kept_in t) clock name to
  chain_of to k (root h e) chain = record { root = h; begins = (begins_decides h).0 e; chain = chain }
  chain_of to k (onward h c m r e) chain =
      let f = member_flagged c m in
      chain_of to c.issuer r (link c.issuer c f.0 refl f.1 (subst (λ z. DelegationChain (Link (kept_in t) clock name) to z) (sym e) chain))

  pub authorised_decides : (h : List ℕ) → Decides (authorised t clock name h) (Authorised (kept_in t) clock name h)
  unfolding authorised
  authorised_decides h =
      let test = λ (c : Certificate). (bytes_eq c.subject h && applicable c.scope clock name) && may_issue t clock name c.issuer in
      let others = is_entered t.entries clock name h || any_of test t.certificates in (
        λ e. elim (or_cases (is_owner t.owners h) others e) [
          | inl k ↦ inl ((is_owner_decides t.owners h).0 k)
          | inr k ↦ inr (elim (or_cases (is_entered t.entries clock name h) (any_of test t.certificates) k) [
            | inl q ↦ inl ((entered_decides h).0 q)
            | inr q ↦
                let r = any_passes test t.certificates q in
                let p = and_parts (bytes_eq r.0.subject h && applicable r.0.scope clock name) (may_issue t clock name r.0.issuer) r.2 in
                let u = and_parts (bytes_eq r.0.subject h) (applicable r.0.scope clock name) p.0 in
                inr (chain_of h r.0.issuer (delegates_sound begins (length links) links r.0.issuer p.1)
                (last_link r.0.issuer r.0 (r.1, (applies r.0.scope).0 u.1) refl ((bytes_eq-Decides r.0.subject h).0 u.0)))
          ])
        ],
        λ a. elim a [
          | inl k ↦ or_left (is_owner t.owners h) others ((is_owner_decides t.owners h).1 k)
          | inr b ↦ or_right (is_owner t.owners h) others (elim b [
            | inl n ↦ or_left (is_entered t.entries clock name h) (any_of test t.certificates) ((entered_decides h).1 n)
            | inr b ↦
                let r = last_of h b.root b.chain (root b.root ((begins_decides b.root).1 b.begins)) in
                or_right (is_entered t.entries clock name h) (any_of test t.certificates)
                (passes_any test t.certificates r.0 r.1.0
                (and_from (bytes_eq r.0.subject h && applicable r.0.scope clock name) (may_issue t clock name r.0.issuer)
                (and_from (bytes_eq r.0.subject h) (applicable r.0.scope clock name) ((bytes_eq-Decides r.0.subject h).1 r.3) ((applies r.0.scope).1 r.1.1))
                (delegates_complete begins (length links) links r.0.issuer (omega arith) r.2)))
          ])
        ],
      )

pub the_test_decides_authorisation : TheTestDecidesAuthorisation
the_test_decides_authorisation t clock name named h = authorised_decides t clock name (λ s. test_decides_for_names s clock name named) h

-- What the marks say during the search, and that each turn keeps it.
use Rattle.std.proofs.Common.{◌≡◌, ℕ, zero, suc, ◌<◌, ◌≤◌, Bool, true, false, ◌⊎◌, List, [], ◌∷◌, length, get_or, set, replicate, sym, refl, ap, ◌∙◌, subst, inl, inr, Some, None, Option, arith}
use Rattle.std.specs.Str.{bytes_eq}
use Rattle.std.proofs.lemmas.Slice.Eq.{bytes_eq-Decides}
use Rattle.std.proofs.lemmas.List.{length-set}
use Rattle.std.proofs.lemmas.Bool.{true≢false, false≢true, and_parts, and_from}
use Rattle.records.specs.declared.types.Certificate.{Certificate}
use Rattle.machine.specs.Lists.{Member}
use Rattle.delegation.specs.declared.types.Mark.{Mark}
use Rattle.delegation.specs.declared.types.Mark.TheVariants.{Untried, Open, Followed, Void}
use Rattle.delegation.specs.Given.{Asked}
use Rattle.delegation.specs.Marks.{applies, LeadsTo, LeadsTo.last, LeadsTo.before, leads, Beside, names, tried, looked, marked, Tells}
use Rattle.delegation.proofs.Walks.{length_marked}

-- ## A certificate and the mark at its place

pub beside_member : (c : Certificate) (m : Mark) (cs : List Certificate) (ms : List Mark) → Beside c m cs ms → Member c cs
beside_member c m [] ms b = elim b [ ]
beside_member c m (d ∷ cs) [] b = elim b [ ]
beside_member c m (d ∷ cs) (n ∷ ms) (inl e) = inl e.0
beside_member c m (d ∷ cs) (n ∷ ms) (inr b) = inr (beside_member c m cs ms b)

pub member_beside : (c : Certificate) (cs : List Certificate) (ms : List Mark) → length cs ≤ length ms → Member c cs → (m : Mark) × Beside c m cs ms
member_beside c [] ms l b = elim b [ ]
member_beside c (d ∷ cs) [] l b = absurd (omega arith)
member_beside c (d ∷ cs) (n ∷ ms) l (inl e) = (n, inl (e, refl))
member_beside c (d ∷ cs) (n ∷ ms) l (inr k) = let r = member_beside c cs ms (omega arith) k in (r.0, inr r.1)

beside_marked : (look : Certificate → Mark → Mark) (c : Certificate) (m : Mark) (cs : List Certificate) (ms : List Mark) → Beside c m cs (marked look cs ms) → (n : Mark) × Beside c n cs ms × (m ≡ look c n)
beside_marked look c m [] ms b = elim b [ ]
beside_marked look c m (d ∷ cs) [] b = elim b [ ]
beside_marked look c m (d ∷ cs) (n ∷ ms) (inl e) = (n, inl (e.0, refl), e.1 ∙ ap (λ z. look z n) (sym e.0))
beside_marked look c m (d ∷ cs) (n ∷ ms) (inr b) = let r = beside_marked look c m cs ms b in (r.0, inr r.1, r.2)

beside_set : (c : Certificate) (m : Mark) (cs : List Certificate) (ms : List Mark) (i : ℕ) (v : Mark) (d : Certificate) → Beside c m cs (set ms i v) → Beside c m cs ms ⊎ ((m ≡ v) × (c ≡ get_or cs i d))
beside_set c m [] ms i v d b = elim b [ ]
beside_set c m (e ∷ cs) [] i v d b = elim b [ ]
beside_set c m (e ∷ cs) (n ∷ ms) zero v d (inl q) = inr (q.1, q.0)
beside_set c m (e ∷ cs) (n ∷ ms) zero v d (inr b) = inl (inr b)
beside_set c m (e ∷ cs) (n ∷ ms) (suc i) v d (inl q) = inl (inl q)
beside_set c m (e ∷ cs) (n ∷ ms) (suc i) v d (inr b) = elim (beside_set c m cs ms i v d b) [ inl k ↦ inl (inr k) | inr k ↦ inr k ]

beside_at : (d : Certificate) (cs : List Certificate) (ms : List Mark) (i : ℕ) (u : Mark) → i < length cs → i < length ms → Beside (get_or cs i d) (get_or ms i u) cs ms
beside_at d [] ms i u h k = absurd (omega (arith, h))
beside_at d (c ∷ cs) [] i u h k = absurd (omega (arith, k))
beside_at d (c ∷ cs) (m ∷ ms) zero u h k = inl (refl, refl)
beside_at d (c ∷ cs) (m ∷ ms) (suc i) u h k = inr (beside_at d cs ms i u (omega (arith, h)) (omega (arith, k)))

-- the place of a pair
beside_place : (c : Certificate) (m : Mark) (cs : List Certificate) (ms : List Mark) → Beside c m cs ms → (i : ℕ) × (i < length cs) × (get_or ms i Untried ≡ m)
beside_place c m [] ms b = elim b [ ]
beside_place c m (d ∷ cs) [] b = elim b [ ]
beside_place c m (d ∷ cs) (n ∷ ms) (inl e) = (0, omega arith, sym e.1)
beside_place c m (d ∷ cs) (n ∷ ms) (inr b) = let r = beside_place c m cs ms b in (suc r.0, omega (arith, r.1), r.2)

beside_fresh : (c : Certificate) (m : Mark) (cs : List Certificate) (n : ℕ) → Beside c m cs (replicate n Untried) → m ≡ Untried
beside_fresh c m [] n b = elim b [ ]
beside_fresh c m (d ∷ cs) zero b = elim b [ ]
beside_fresh c m (d ∷ cs) (suc n) (inl e) = e.1
beside_fresh c m (d ∷ cs) (suc n) (inr b) = beside_fresh c m cs n b

-- ## One look

still_leads : (named applied : Bool) (m : Mark) → leads m ≡ true → leads (tried named applied m) ≡ true
still_leads named applied Untried e = cc
still_leads named applied Open e = refl
still_leads named applied Followed e = refl
still_leads named applied Void e = e

-- a mark that leads did so before, or the certificate is named and applies
led_or_found : (named applied : Bool) (m : Mark) → leads (tried named applied m) ≡ true → (leads m ≡ true) ⊎ ((named ≡ true) × (applied ≡ true))
led_or_found false applied Untried e = inl e
led_or_found true false Untried e = inl e
led_or_found true true Untried e = inr (refl, refl)
led_or_found named applied Open e = inl refl
led_or_found named applied Followed e = inl refl
led_or_found named applied Void e = inl e

-- what is named and applies leads, unless it was void
found : (named applied : Bool) (m : Mark) → named ≡ true → applied ≡ true → (m ≡ Void → ⊥) → leads (tried named applied m) ≡ true
found named applied Untried p r v = rw (p, r)
found named applied Open p r v = refl
found named applied Followed p r v = refl
found named applied Void p r v = absurd (v refl)

void_before : (named applied : Bool) (m : Mark) → tried named applied m ≡ Void → (m ≡ Void) ⊎ (applied ≡ false)
void_before false applied Untried e = inl e
void_before true false Untried e = inr refl
void_before true true Untried e = cc
void_before named applied Open e = inl e
void_before named applied Followed e = inl e
void_before named applied Void e = inl e

followed_before : (named applied : Bool) (m : Mark) → Followed ≡ tried named applied m → m ≡ Followed
followed_before false applied Untried e = sym e
followed_before true false Untried e = cc
followed_before true true Untried e = cc
followed_before named applied Open e = sym e
followed_before named applied Followed e = sym e
followed_before named applied Void e = sym e

-- ## The search

pub leads_member : {asked : Asked} (c : Certificate) → LeadsTo asked c → Member c asked.tables.certificates
leads_member c (last d k a s) = k
leads_member c (before d other k a f s l) = k

-- what holds of the marks between two turns
pub record Sought (asked : Asked) (ms : List Mark) : Type 0 where
  pub sound : (c : Certificate) (m : Mark) → Beside c m asked.tables.certificates ms → leads m ≡ true → LeadsTo asked c
  pub void : (c : Certificate) (m : Mark) → Beside c m asked.tables.certificates ms → m ≡ Void → applies asked c ≡ false
  pub lasts : (c : Certificate) (m : Mark) → Beside c m asked.tables.certificates ms → applies asked c ≡ true → c.subject ≡ asked.signer → leads m ≡ true
  pub closed : (c : Certificate) → Beside c Followed asked.tables.certificates ms → (d : Certificate) (n : Mark) → Beside d n asked.tables.certificates ms → d.scope.delegate ≡ true → applies asked d ≡ true → d.subject ≡ c.issuer → leads n ≡ true
  pub size : length ms ≡ 16

module _ (asked : Asked) where
  abbrev cs : List Certificate
  cs = asked.tables.certificates

  -- the last links are marked
  abbrev first : List Mark
  first = marked (looked asked None) cs (replicate 16 Untried)

  first_sound : (c : Certificate) (m : Mark) → Beside c m cs first → leads m ≡ true → LeadsTo asked c
  first_sound c m b e =
      let r = beside_marked (looked asked None) c m cs (replicate 16 Untried) b in
      elim (led_or_found (names asked None c) (applies asked c) r.0 (sym (ap leads r.2) ∙ e)) [
        | inl k ↦ absurd (false≢true (sym (ap leads (beside_fresh c r.0 cs 16 r.1)) ∙ k))
        | inr k ↦ last c (beside_member c m cs first b) k.1 ((bytes_eq-Decides c.subject asked.signer).0 k.0)
      ]

  first_void : (c : Certificate) (m : Mark) → Beside c m cs first → m ≡ Void → applies asked c ≡ false
  first_void c m b e =
      let r = beside_marked (looked asked None) c m cs (replicate 16 Untried) b in
      elim (void_before (names asked None c) (applies asked c) r.0 (sym r.2 ∙ e)) [
        | inl k ↦ let u = beside_fresh c r.0 cs 16 r.1 in cc
        | inr k ↦ k
      ]

  first_lasts : (c : Certificate) (m : Mark) → Beside c m cs first → applies asked c ≡ true → c.subject ≡ asked.signer → leads m ≡ true
  first_lasts c m b a s =
      let r = beside_marked (looked asked None) c m cs (replicate 16 Untried) b in
      let u = beside_fresh c r.0 cs 16 r.1 in
      ap leads r.2 ∙ found (names asked None c) (applies asked c) r.0 ((bytes_eq-Decides c.subject asked.signer).1 s) a (λ v. cc)

  first_closed : (c : Certificate) → Beside c Followed cs first → ⊥
  first_closed c b =
      let r = beside_marked (looked asked None) c Followed cs (replicate 16 Untried) b in
      let u = beside_fresh c r.0 cs 16 r.1 in
      let f = followed_before (names asked None c) (applies asked c) r.0 r.2 in
      cc

  pub sought_first : Sought asked first
  sought_first = record {
    sound = first_sound;
    void = first_void;
    lasts = first_lasts;
    closed = λ c b d n bd f a s. absurd (first_closed c b);
    size = length_marked (looked asked None) cs (replicate 16 Untried);
  }

  -- one turn follows the certificate at place i
  module _ (links : List Certificate) (same : links ≡ cs) (ms : List Mark) (i : ℕ) (d : Certificate) (so : Sought asked ms) (few : length cs ≤ 16) (within : i < length cs) (open-there : get_or ms i Untried ≡ Open) where
    abbrev at : Certificate
    at = get_or links i d

    is : at ≡ get_or cs i d
    is = ap (λ xs. get_or xs i d) same

    abbrev held : List Mark
    held = set ms i Followed

    abbrev next : List Mark
    next = marked (looked asked (Some at)) cs held

    here : Beside at Open cs ms
    here = rw (is, ← open-there) (beside_at d cs ms i Untried within (omega (arith, so.size)))

    at-leads : LeadsTo asked at
    at-leads = so.sound at Open here refl

    -- a mark after the turn, and the one before it
    before_turn : (c : Certificate) (m : Mark) → Beside c m cs next → (n : Mark) × (m ≡ looked asked (Some at) c n) × (Beside c n cs ms ⊎ ((n ≡ Followed) × (c ≡ at)))
    before_turn c m b =
        let r = beside_marked (looked asked (Some at)) c m cs held b in
        (r.0, r.2, rw (← is) at (beside_set c r.0 cs ms i Followed d r.1))

    next_sound : (c : Certificate) (m : Mark) → Beside c m cs next → leads m ≡ true → LeadsTo asked c
    next_sound c m b e =
        let r = before_turn c m b in
        elim (led_or_found (names asked (Some at) c) (applies asked c) r.0 (sym (ap leads r.1) ∙ e)) [
          | inl k ↦ elim r.2 [
            | inl q ↦ so.sound c r.0 q k
            | inr q ↦ subst (LeadsTo asked) (sym q.1) at-leads
          ]
          | inr k ↦
              let p = and_parts (bytes_eq c.subject at.issuer) c.scope.delegate k.0 in
              before c at (beside_member c m cs next b) k.1 p.1 ((bytes_eq-Decides c.subject at.issuer).0 p.0) at-leads
        ]

    not_void : (c : Certificate) (n : Mark) → Beside c n cs ms ⊎ ((n ≡ Followed) × (c ≡ at)) → applies asked c ≡ true → n ≡ Void → ⊥
    not_void c n (inl q) a v = true≢false (sym a ∙ so.void c n q v)
    not_void c n (inr q) a v = let k = q.0 in cc

    next_void : (c : Certificate) (m : Mark) → Beside c m cs next → m ≡ Void → applies asked c ≡ false
    next_void c m b e =
        let r = before_turn c m b in
        elim (void_before (names asked (Some at) c) (applies asked c) r.0 (sym r.1 ∙ e)) [
          | inl k ↦ elim r.2 [
            | inl q ↦ so.void c r.0 q k
            | inr q ↦ let f = q.0 in cc
          ]
          | inr k ↦ k
        ]

    -- what led before leads after
    kept_leading : (c : Certificate) (m n : Mark) → m ≡ looked asked (Some at) c n → Beside c n cs ms ⊎ ((n ≡ Followed) × (c ≡ at)) → (Beside c n cs ms → leads n ≡ true) → leads m ≡ true
    kept_leading c m n e (inl q) f = ap leads e ∙ still_leads (names asked (Some at) c) (applies asked c) n (f q)
    kept_leading c m n e (inr q) f = ap leads e ∙ still_leads (names asked (Some at) c) (applies asked c) n (ap leads q.0)

    next_lasts : (c : Certificate) (m : Mark) → Beside c m cs next → applies asked c ≡ true → c.subject ≡ asked.signer → leads m ≡ true
    next_lasts c m b a s = let r = before_turn c m b in kept_leading c m r.0 r.1 r.2 (λ q. so.lasts c r.0 q a s)

    next_closed : (c : Certificate) → Beside c Followed cs next → (d : Certificate) (n : Mark) → Beside d n cs next → d.scope.delegate ≡ true → applies asked d ≡ true → d.subject ≡ c.issuer → leads n ≡ true
    next_closed c b d n bd f a s =
        let r = before_turn c Followed b in
        let u = before_turn d n bd in
        elim r.2 [
          | inl q ↦
              let was = subst (λ m. Beside c m cs ms) (followed_before (names asked (Some at) c) (applies asked c) r.0 r.1) q in
              kept_leading d n u.0 u.1 u.2 (λ k. so.closed c was d u.0 k f a s)
          | inr q ↦
              ap leads u.1
              ∙ found (names asked (Some at) d) (applies asked d) u.0
              (and_from (bytes_eq d.subject at.issuer) d.scope.delegate ((bytes_eq-Decides d.subject at.issuer).1 (s ∙ ap (λ (z : Certificate). z.issuer) q.1)) f)
              a (not_void d u.0 u.2 a)
        ]

    pub sought_next : Sought asked next
    sought_next = record {
      sound = next_sound;
      void = next_void;
      lasts = next_lasts;
      closed = next_closed;
      size = length_marked (looked asked (Some at)) cs held ∙ (length-set ms i Followed ∙ so.size);
    }

  -- where none is open, the marks tell
  module _ (ms : List Mark) (so : Sought asked ms) (few : length cs ≤ 16) (none : (k : ℕ) → k < length cs → get_or ms k Untried ≡ Open → ⊥) where
    followed_if_leads : (c : Certificate) (m : Mark) → Beside c m cs ms → leads m ≡ true → m ≡ Followed
    followed_if_leads c Untried b e = absurd (false≢true e)
    followed_if_leads c Open b e = let r = beside_place c Open cs ms b in absurd (none r.0 r.1 r.2)
    followed_if_leads c Followed b e = refl
    followed_if_leads c Void b e = absurd (false≢true e)

    complete : (c : Certificate) → LeadsTo asked c → (m : Mark) → Beside c m cs ms → leads m ≡ true
    complete c (last d k a s) m b = so.lasts c m b a s
    complete c (before d other k a f s l) m b =
        let r = member_beside other cs ms (omega (arith, so.size)) (leads_member other l) in
        let q = subst (λ n. Beside other n cs ms) (followed_if_leads other r.0 r.1 (complete other l r.0 r.1)) r.1 in
        so.closed other q c m b f a s

    pub sought_tells : Tells asked ms
    sought_tells c m b = (so.sound c m b, λ l. complete c l m b)

-- ## Each turn follows one more

abbrev pub unfollowed : List Mark → ℕ
unfollowed [] = 0
unfollowed (Untried ∷ ms) = suc (unfollowed ms)
unfollowed (Open ∷ ms) = suc (unfollowed ms)
unfollowed (Followed ∷ ms) = unfollowed ms
unfollowed (Void ∷ ms) = suc (unfollowed ms)

one_look : (named applied : Bool) (m : Mark) (ms ns : List Mark) → unfollowed ms ≡ unfollowed ns → unfollowed (tried named applied m ∷ ms) ≡ unfollowed (m ∷ ns)
one_look false applied Untried ms ns e = ap suc e
one_look true false Untried ms ns e = ap suc e
one_look true true Untried ms ns e = ap suc e
one_look named applied Open ms ns e = ap suc e
one_look named applied Followed ms ns e = e
one_look named applied Void ms ns e = ap suc e

unfollowed_marked : (asked : Asked) (to : Option Certificate) (links : List Certificate) (ms : List Mark) → unfollowed (marked (looked asked to) links ms) ≡ unfollowed ms
unfollowed_marked asked to [] ms = refl
unfollowed_marked asked to (c ∷ links) [] = refl
unfollowed_marked asked to (c ∷ links) (m ∷ ms) = one_look (names asked to c) (applies asked c) m (marked (looked asked to) links ms) ms (unfollowed_marked asked to links ms)

unfollowed_more : (m : Mark) (ms ns : List Mark) → unfollowed ms < unfollowed ns → unfollowed (m ∷ ms) < unfollowed (m ∷ ns)
unfollowed_more Untried ms ns e = omega arith
unfollowed_more Open ms ns e = omega arith
unfollowed_more Followed ms ns e = e
unfollowed_more Void ms ns e = omega arith

unfollowed_set : (ms : List Mark) (i : ℕ) → get_or ms i Untried ≡ Open → unfollowed (set ms i Followed) < unfollowed ms
unfollowed_set [] i e = cc
unfollowed_set (m ∷ ms) zero e = subst (λ n. unfollowed ms < unfollowed (n ∷ ms)) (sym e) (omega arith)
unfollowed_set (m ∷ ms) (suc i) e = unfollowed_more m (set ms i Followed) ms (unfollowed_set ms i e)

pub falls : (asked : Asked) (to : Option Certificate) (links : List Certificate) (ms : List Mark) (i : ℕ) → get_or ms i Untried ≡ Open → unfollowed (marked (looked asked to) links (set ms i Followed)) < unfollowed ms
falls asked to links ms i e = let u = unfollowed_marked asked to links (set ms i Followed) in let v = unfollowed_set ms i e in omega arith

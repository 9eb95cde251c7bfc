-- A chain ends with the hash exactly where one may begin with the issuer of a certificate that leads to it.
use Rattle.std.proofs.Common.{◌≡◌, ℕ, ◌≤◌, Bool, true, false, ◌&&◌, List, [], ◌∷◌, length, sym, refl, ap, ◌∙◌, inl, inr, Some, None, Option, IfSome, arith}
use Rattle.std.specs.Str.{bytes_eq}
use Rattle.std.proofs.lemmas.Slice.Eq.{bytes_eq-Decides}
use Rattle.std.proofs.lemmas.Bool.{false≢true, or_cases, or_left, or_right, and_parts, and_from}
use Rattle.records.specs.declared.types.Certificate.{Certificate}
use Rattle.machine.specs.Lists.{Member, any_of}
use Rattle.machine.specs.Delegation.{may_begin, flagged, may_issue}
use Rattle.machine.proofs.Members.{any_passes, passes_any, all_passing, passing_all}
use Rattle.machine.proofs.Delegating.{Reached, Reached.root, Reached.onward, delegates_sound, delegates_complete}
use Rattle.delegation.specs.declared.types.Mark.{Mark}
use Rattle.delegation.specs.Given.{Asked}
use Rattle.delegation.specs.Marks.{applies, LeadsTo, LeadsTo.last, LeadsTo.before, leads, Beside, names, any_leading, Tells, by_chain}
use Rattle.delegation.proofs.Following.{leads_member, member_beside}

leading_passes : (test : Certificate → Bool) (cs : List Certificate) (ms : List Mark) → any_leading test cs ms ≡ true → (c : Certificate) × (m : Mark) × Beside c m cs ms × (leads m ≡ true) × (test c ≡ true)
leading_passes test [] ms e = absurd (false≢true e)
leading_passes test (c ∷ cs) [] e = absurd (false≢true e)
leading_passes test (c ∷ cs) (m ∷ ms) e = elim (or_cases (leads m && test c) (any_leading test cs ms) e) [
  | inl k ↦ let p = and_parts (leads m) (test c) k in (c, m, inl (refl, refl), p.0, p.1)
  | inr k ↦ let r = leading_passes test cs ms k in (r.0, r.1, inr r.2, r.3, r.4)
]

passes_leading : (test : Certificate → Bool) (c : Certificate) (m : Mark) (cs : List Certificate) (ms : List Mark) → Beside c m cs ms → leads m ≡ true → test c ≡ true → any_leading test cs ms ≡ true
passes_leading test c m [] ms b l t = elim b [ ]
passes_leading test c m (d ∷ cs) [] b l t = elim b [ ]
passes_leading test c m (d ∷ cs) (n ∷ ms) (inl e) l t = or_left (leads n && test d) (any_leading test cs ms) (and_from (leads n) (test d) (ap leads (sym e.1) ∙ l) (ap test (sym e.0) ∙ t))
passes_leading test c m (d ∷ cs) (n ∷ ms) (inr b) l t = or_right (leads n && test d) (any_leading test cs ms) (passes_leading test c m cs ms b l t)

module _ (asked : Asked) where
  abbrev cs : List Certificate
  cs = asked.tables.certificates

  abbrev links : List Certificate
  links = flagged cs asked.clock asked.name

  abbrev begins : List ℕ → Bool
  begins = may_begin asked.tables asked.clock asked.name

  abbrev LastLink : Certificate → Type 0
  LastLink c = Member c cs × (applies asked c ≡ true) × (c.subject ≡ asked.signer) × Reached begins links c.issuer

  -- from a beginning to the last link
  onward_to_last : (c : Certificate) → LeadsTo asked c → Reached begins links c.issuer → (e : Certificate) × LastLink e
  onward_to_last c (last d k a s) r = (d, (k, a, s, r))
  onward_to_last c (before d other k a f s l) r =
      onward_to_last other l
      (onward other.issuer d (passing_all (λ z. z.scope.delegate && applies asked z) cs d k (and_from d.scope.delegate (applies asked d) f a)) r s)

  -- and back
  back_to_first : (h : List ℕ) → Reached begins links h → (c : Certificate) → h ≡ c.issuer → LeadsTo asked c → (e : Certificate) × LeadsTo asked e × (begins e.issuer ≡ true)
  back_to_first h (root k e) c p l = (c, l, ap begins (sym p) ∙ e)
  back_to_first h (onward k d m r e) c p l =
      let q = all_passing (λ z. z.scope.delegate && applies asked z) cs d m in
      let u = and_parts d.scope.delegate (applies asked d) q.1 in
      back_to_first d.issuer r d refl (before d c q.0 u.1 u.0 (e ∙ p) l)

  abbrev test : Certificate → Bool
  test c = (bytes_eq c.subject asked.signer && applies asked c) && may_issue asked.tables asked.clock asked.name c.issuer

  pub leads_is_chain : (c : Certificate) → LeadsTo asked c → begins c.issuer ≡ true → by_chain asked ≡ true
  leads_is_chain first l b =
      let w = onward_to_last first l (root first.issuer b) in
      let c = w.0 in
      let k = w.1 in
      passes_any test cs c k.0
      (and_from (bytes_eq c.subject asked.signer && applies asked c) (may_issue asked.tables asked.clock asked.name c.issuer)
      (and_from (bytes_eq c.subject asked.signer) (applies asked c) ((bytes_eq-Decides c.subject asked.signer).1 k.2) k.1)
      (delegates_complete begins (length links) links c.issuer (omega arith) k.3))

  module _ (ms : List Mark) (tells : Tells asked ms) (few : length cs ≤ length ms) where
    abbrev starts : Certificate → Bool
    starts c = begins c.issuer

    found_is_chain : any_leading starts cs ms ≡ true → any_of test cs ≡ true
    found_is_chain e = let r = leading_passes starts cs ms e in leads_is_chain r.0 ((tells r.0 r.1 r.2).0 r.3) r.4

    chain_is_found : any_of test cs ≡ true → any_leading starts cs ms ≡ true
    chain_is_found e =
        let r = any_passes test cs e in
        let c = r.0 in
        let p = and_parts (bytes_eq c.subject asked.signer && applies asked c) (may_issue asked.tables asked.clock asked.name c.issuer) r.2 in
        let u = and_parts (bytes_eq c.subject asked.signer) (applies asked c) p.0 in
        let w = back_to_first c.issuer (delegates_sound begins (length links) links c.issuer p.1) c refl (last c r.1 u.1 ((bytes_eq-Decides c.subject asked.signer).0 u.0)) in
        let b = member_beside w.0 cs ms few (leads_member w.0 w.1) in
        passes_leading starts w.0 b.0 cs ms b.1 ((tells w.0 b.0 b.1).1 w.1) w.2

    pub found_exactly : any_leading starts cs ms ≡ by_chain asked
    found_exactly = same_tests (any_leading starts cs ms) (any_of test cs) found_is_chain chain_is_found
      where
        same_tests : (a b : Bool) → (a ≡ true → b ≡ true) → (b ≡ true → a ≡ true) → a ≡ b
        same_tests true b f g = sym (f refl)
        same_tests false true f g = g refl
        same_tests false false f g = refl

-- ## The walk

-- a link that names one that leads, or the signer
pub link_leads : (asked : Asked) (next : Option Certificate) (c : Certificate) → Member c asked.tables.certificates → IfSome next (LeadsTo asked) → (names asked next c && applies asked c) ≡ true → LeadsTo asked c
link_leads asked None c m l e =
    let p = and_parts (names asked None c) (applies asked c) e in last c m p.1 ((bytes_eq-Decides c.subject asked.signer).0 p.0)
link_leads asked (Some next) c m l e =
    let p = and_parts (names asked (Some next) c) (applies asked c) e in
    let n = and_parts (bytes_eq c.subject next.issuer) c.scope.delegate p.0 in
    before c next m p.1 n.1 ((bytes_eq-Decides c.subject next.issuer).0 n.0) l

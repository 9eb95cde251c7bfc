-- The tables of owners, entries and certificates agree with the record through every answer.
use Rattle.std.proofs.Common.{◌≡◌, ℕ, ◌+◌, ◌<◌, ◌≤◌, Bool, true, false, cond, not, ◌&&◌, eqb, ltb, List, [], ◌∷◌, length, Some, Ok, Decides, sym, refl, ◌∙◌, subst, arith}
use Rattle.std.specs.Str.{bytes_eq}
use Rattle.std.proofs.lemmas.Slice.Eq.{bytes_eq-Decides}
use Rattle.std.proofs.lemmas.List.{length-append}
use Rattle.std.proofs.lemmas.Bool.{true≢false, false≢true, not-true, ltb-true, eqb-true, and_parts}
use Rattle.refusal.specs.declared.Refusal.TheVariants.{NotAuthorised, OtherDevice, BadIssuerTag, RevokesItself, NotListed, AlreadyListed, TableFull}
use Rattle.records.specs.declared.types.Entry.{Entry}
use Rattle.records.specs.declared.types.Certificate.{Certificate}
use Rattle.records.specs.Equality.{same_entry, same_certificate}
use Rattle.records.specs.Equal.{same_entry_decides, same_certificate_decides}
use Rattle.wire.specs.Envelope.{signer}
use Rattle.actions.specs.Arguments.{Arguments, Arguments.take_ownership, Arguments.set_session_keys, Arguments.expire_session_keys, Arguments.grant_ownership, Arguments.revoke_ownership, Arguments.add_entry, Arguments.delete_entry, Arguments.cache_certificate, Arguments.factory_security_reset, Arguments.perform}
use Rattle.machine.specs.Lists.{Member, any_of, without}
use Rattle.machine.specs.Requests.{Delivery, text_of, signed_of, presented}
use Rattle.machine.specs.Delegation.{is_owner}
use Rattle.machine.specs.Machine.{State, accepted, is_accepted, passing, listing, proof_text, owner_limit, entry_limit, certificate_limit, decided, owners_after, entries_after, certificates_after}
use Rattle.machine.specs.History.{Event, granted_in, granted, owners_by, owner_change, Owner, entries_by, entry_change, EntryInForce, certificates_by, certificate_change, CertificateInForce}
use Rattle.machine.specs.Law.{gained_by, lost_by, owned_by}
use Rattle.machine.proofs.Members.{passes_any, no_member, length_without, member_without, member_some}
use Rattle.machine.proofs.Agreeing.{Agree, Names, Applies, agree_changed}
use Rattle.machine.proofs.Delegating.{is_owner_decides}
use Rattle.machine.proofs.Judging.{accepted_passing}

-- ## Tests that name one record

names_by : {X : Type 0} (same : X → X → Bool) → ((a b : X) → Decides (same a b) (a ≡ b)) → (y : X) → Names (λ x. same x y) y
names_by same decides y = record { only = λ x. (decides x y).0; passes = (decides y y).1 refl }

not_any : {X : Type 0} (same : X → X → Bool) → ((a b : X) → Decides (same a b) (a ≡ b)) → (y : X) (xs : List X) → any_of (λ x. same x y) xs ≡ false → Member y xs → ⊥
not_any same decides y xs e m = true≢false (sym (passes_any (λ x. same x y) xs y m ((decides y y).1 refl)) ∙ e)

-- a new record is not listed, and there is room
accepted_listing : (listed : Bool) (count limit : ℕ) → is_accepted (listing listed count limit) ≡ true → (listed ≡ false) × (count < limit)
accepted_listing listed count limit h =
    let one = accepted_passing (not listed) AlreadyListed (passing (ltb count limit) TableFull accepted) h in
    (not-true listed one.0, ltb-true count limit (accepted_passing (ltb count limit) TableFull accepted one.1).0)

-- how many owners there are, by what was gained and lost since the last reset
pub record OwnersCounted (owners : List (List ℕ)) (lost gained : ℕ) (owned : Bool) : Type 0 where
  pub number : length owners + lost ≡ gained
  pub none : owned ≡ false → length owners ≡ 0
  pub some : owned ≡ true → 1 ≤ length owners
  pub most : length owners ≤ 8

module _ (s : State) (d : Delivery) (taken : Bool) where
  abbrev who : List ℕ
  who = signer (text_of d)

  -- ## What an accepted request says of the tables

  take-accepted : (proof : List ℕ) → is_accepted (decided s (presented d) taken (take_ownership proof)) ≡ true → length s.owners ≡ 0
  take-accepted proof h =
      let proved = d.session.stands s.password (proof_text (signed_of d)) proof in
      eqb-true (length s.owners) 0 (and_parts (eqb (length s.owners) 0) proved (accepted_passing (eqb (length s.owners) 0 && proved) NotAuthorised accepted h).0).0

  grant_accepted : (hash : List ℕ) → is_accepted (decided s (presented d) taken (grant_ownership hash)) ≡ true → (is_owner s.owners who ≡ true) × (is_owner s.owners hash ≡ false) × (length s.owners < owner_limit)
  grant_accepted hash h =
      let one = accepted_passing (is_owner s.owners who) NotAuthorised (listing (is_owner s.owners hash) (length s.owners) owner_limit) h in
      let two = accepted_listing (is_owner s.owners hash) (length s.owners) owner_limit one.1 in
      (one.0, two.0, two.1)

  revoke_accepted : (hash : List ℕ) → is_accepted (decided s (presented d) taken (revoke_ownership hash)) ≡ true → (is_owner s.owners who ≡ true) × (bytes_eq who hash ≡ false) × (is_owner s.owners hash ≡ true)
  revoke_accepted hash h =
      let listed = passing (is_owner s.owners hash) NotListed accepted in
      let one = accepted_passing (is_owner s.owners who) NotAuthorised (passing (not (bytes_eq who hash)) RevokesItself listed) h in
      let two = accepted_passing (not (bytes_eq who hash)) RevokesItself listed one.1 in
      (one.0, not-true (bytes_eq who hash) two.0, (accepted_passing (is_owner s.owners hash) NotListed accepted two.1).0)

  add_accepted : (entry : Entry) → is_accepted (decided s (presented d) taken (add_entry entry)) ≡ true → any_of (λ e. same_entry e entry) s.entries ≡ false
  add_accepted entry h =
      let listed = any_of (λ e. same_entry e entry) s.entries in
      (accepted_listing listed (length s.entries) entry_limit (accepted_passing (is_owner s.owners who) NotAuthorised (listing listed (length s.entries) entry_limit) h).1).0

  cache_accepted : (certificate : Certificate) (bytes tag : List ℕ) → is_accepted (decided s (presented d) taken (cache_certificate certificate bytes tag)) ≡ true → any_of (λ c. same_certificate c certificate) s.certificates ≡ false
  cache_accepted certificate bytes tag h =
      let listed = any_of (λ c. same_certificate c certificate) s.certificates in
      let room = listing listed (length s.certificates) certificate_limit in
      let stands = d.public.stands certificate.issuer bytes tag in
      let one = accepted_passing (bytes_eq certificate.device s.device) OtherDevice (passing stands BadIssuerTag room) h in
      (accepted_listing listed (length s.certificates) certificate_limit (accepted_passing stands BadIssuerTag room one.1).1).0

  -- ## What it changes

  owners_applies : (a : Arguments) → is_accepted (decided s (presented d) taken a) ≡ true → Applies (owners_by who (Some a)) s.owners (owners_after (signed_of d) a s.owners)
  owners_applies (take_ownership proof) h = (refl, no_member who s.owners (take-accepted proof h))
  owners_applies (set_session_keys key) h = refl
  owners_applies expire_session_keys h = refl
  owners_applies (grant_ownership hash) h = (refl, not_any bytes_eq bytes_eq-Decides hash s.owners (grant_accepted hash h).1)
  owners_applies (revoke_ownership hash) h = ((λ o. bytes_eq o hash), names_by bytes_eq bytes_eq-Decides hash, refl)
  owners_applies (add_entry entry) h = refl
  owners_applies (delete_entry entry) h = refl
  owners_applies (cache_certificate certificate bytes tag) h = refl
  owners_applies factory_security_reset h = refl
  owners_applies (perform name payload) h = refl

  entries_applies : (a : Arguments) → is_accepted (decided s (presented d) taken a) ≡ true → Applies (entries_by (Some a)) s.entries (entries_after a s.entries)
  entries_applies (take_ownership proof) h = refl
  entries_applies (set_session_keys key) h = refl
  entries_applies expire_session_keys h = refl
  entries_applies (grant_ownership hash) h = refl
  entries_applies (revoke_ownership hash) h = refl
  entries_applies (add_entry entry) h = (refl, not_any same_entry same_entry_decides entry s.entries (add_accepted entry h))
  entries_applies (delete_entry entry) h = ((λ e. same_entry e entry), names_by same_entry same_entry_decides entry, refl)
  entries_applies (cache_certificate certificate bytes tag) h = refl
  entries_applies factory_security_reset h = refl
  entries_applies (perform name payload) h = refl

  certificates_applies : (a : Arguments) → is_accepted (decided s (presented d) taken a) ≡ true → Applies (certificates_by (Some a)) s.certificates (certificates_after a s.certificates)
  certificates_applies (take_ownership proof) h = refl
  certificates_applies (set_session_keys key) h = refl
  certificates_applies expire_session_keys h = refl
  certificates_applies (grant_ownership hash) h = refl
  certificates_applies (revoke_ownership hash) h = refl
  certificates_applies (add_entry entry) h = refl
  certificates_applies (delete_entry entry) h = refl
  certificates_applies (cache_certificate certificate bytes tag) h = (refl, not_any same_certificate same_certificate_decides certificate s.certificates (cache_accepted certificate bytes tag h))
  certificates_applies factory_security_reset h = refl
  certificates_applies (perform name payload) h = refl

  -- ## How many owners there are

  counts : (a : Arguments) → is_accepted (decided s (presented d) taken a) ≡ true → (l g : ℕ) (b : Bool) → OwnersCounted s.owners l g b → OwnersCounted (owners_after (signed_of d) a s.owners) (lost_by (Some a) l) (gained_by (Some a) g) (owned_by (Some a) b)
  counts (take_ownership proof) h l g b o =
      let z = take-accepted proof h in
      let len = length-append s.owners (who ∷ []) in
      record { number = omega (arith, o.number); none = λ e. absurd (true≢false e); some = λ _. omega arith; most = omega arith }
  counts (set_session_keys key) h l g b o = o
  counts expire_session_keys h l g b o = o
  counts (grant_ownership hash) h l g b o =
      let f = grant_accepted hash h in
      let lt = f.2 in
      let one = member_some who s.owners ((is_owner_decides s.owners who).0 f.0) in
      let len = length-append s.owners (hash ∷ []) in
      record { number = omega (arith, o.number); none = λ e. let q = o.none e in absurd (omega arith); some = λ _. omega arith; most = omega arith }
  counts (revoke_ownership hash) h l g b o =
      let f = revoke_accepted hash h in
      let len = length_without (λ o. bytes_eq o hash) s.owners f.2 in
      let here = (is_owner_decides s.owners who).0 f.0 in
      let one = member_some who s.owners here in
      let left = member_some who (without (λ o. bytes_eq o hash) s.owners) (member_without (λ o. bytes_eq o hash) s.owners who here f.1) in
      record { number = omega (arith, o.number); none = λ e. let q = o.none e in absurd (omega arith); some = λ _. left; most = omega (arith, o.most) }
  counts (add_entry entry) h l g b o = o
  counts (delete_entry entry) h l g b o = o
  counts (cache_certificate certificate bytes tag) h l g b o = o
  counts factory_security_reset h l g b o = record { number = refl; none = λ _. refl; some = λ e. absurd (false≢true e); most = omega arith }
  counts (perform name payload) h l g b o = o

-- ## One event

module _ (e : Event) (past : List Event) (s : State) (asked : Arguments) (b : Bool) (g : granted e ≡ granted_in b (Ok asked)) (h : b ≡ true → is_accepted (decided s (presented e.delivery) e.taken asked) ≡ true) where
  abbrev d : Delivery
  d = e.delivery

  owners_change : Applies (owner_change e) s.owners (cond b (owners_after (signed_of d) asked s.owners) s.owners)
  owners_change = subst (λ z. Applies (owners_by (signer (text_of d)) z) s.owners (cond b (owners_after (signed_of d) asked s.owners) s.owners)) (sym g) (go b h)
    where
      go : (c : Bool) → (c ≡ true → is_accepted (decided s (presented e.delivery) e.taken asked) ≡ true) → Applies (owners_by (signer (text_of e.delivery)) (granted_in c (Ok asked))) s.owners (cond c (owners_after (signed_of e.delivery) asked s.owners) s.owners)
      go true k = owners_applies s e.delivery e.taken asked (k refl)
      go false k = refl

  entries_change : Applies (entry_change e) s.entries (cond b (entries_after asked s.entries) s.entries)
  entries_change = subst (λ z. Applies (entries_by z) s.entries (cond b (entries_after asked s.entries) s.entries)) (sym g) (go b h)
    where
      go : (c : Bool) → (c ≡ true → is_accepted (decided s (presented e.delivery) e.taken asked) ≡ true) → Applies (entries_by (granted_in c (Ok asked))) s.entries (cond c (entries_after asked s.entries) s.entries)
      go true k = entries_applies s e.delivery e.taken asked (k refl)
      go false k = refl

  certificates_change : Applies (certificate_change e) s.certificates (cond b (certificates_after asked s.certificates) s.certificates)
  certificates_change = subst (λ z. Applies (certificates_by z) s.certificates (cond b (certificates_after asked s.certificates) s.certificates)) (sym g) (go b h)
    where
      go : (c : Bool) → (c ≡ true → is_accepted (decided s (presented e.delivery) e.taken asked) ≡ true) → Applies (certificates_by (granted_in c (Ok asked))) s.certificates (cond c (certificates_after asked s.certificates) s.certificates)
      go true k = certificates_applies s e.delivery e.taken asked (k refl)
      go false k = refl

  pub owners_step : Agree s.owners (Owner past) → Agree (cond b (owners_after (signed_of d) asked s.owners) s.owners) (Owner (e ∷ past))
  unfolding Owner
  owners_step a = agree_changed (owner_change e) s.owners (cond b (owners_after (signed_of d) asked s.owners) s.owners) (Owner past) a owners_change

  pub entries_step : Agree s.entries (EntryInForce past) → Agree (cond b (entries_after asked s.entries) s.entries) (EntryInForce (e ∷ past))
  unfolding EntryInForce
  entries_step a = agree_changed (entry_change e) s.entries (cond b (entries_after asked s.entries) s.entries) (EntryInForce past) a entries_change

  pub certificates_step : Agree s.certificates (CertificateInForce past) → Agree (cond b (certificates_after asked s.certificates) s.certificates) (CertificateInForce (e ∷ past))
  unfolding CertificateInForce
  certificates_step a = agree_changed (certificate_change e) s.certificates (cond b (certificates_after asked s.certificates) s.certificates) (CertificateInForce past) a certificates_change

  pub counts_step : (l g : ℕ) (o : Bool) → OwnersCounted s.owners l g o → OwnersCounted (cond b (owners_after (signed_of d) asked s.owners) s.owners) (lost_by (granted e) l) (gained_by (granted e) g) (owned_by (granted e) o)
  counts_step l g' o c = subst (λ z. OwnersCounted (cond b (owners_after (signed_of d) asked s.owners) s.owners) (lost_by z l) (gained_by z g') (owned_by z o)) (sym g) (go b h)
    where
      go : (a : Bool) → (a ≡ true → is_accepted (decided s (presented e.delivery) e.taken asked) ≡ true) → OwnersCounted (cond a (owners_after (signed_of e.delivery) asked s.owners) s.owners) (lost_by (granted_in a (Ok asked)) l) (gained_by (granted_in a (Ok asked)) g') (owned_by (granted_in a (Ok asked)) o)
      go true k = counts s e.delivery e.taken asked (k refl) l g' o c
      go false k = c

-- What the parts of a delivery make together: the machine's step.
use Rattle.std.proofs.Common.{◌≡◌, ℕ, Bool, true, false, cond, not, eqb, ltb, leb, List, length, Some, None, Err, Option, sym, refl, ap, ◌∙◌, subst, arith}
use Rattle.std.specs.Str.{bytes_eq}
use Rattle.refusal.specs.declared.Refusal.{Refusal}
use Rattle.refusal.specs.declared.Refusal.TheVariants.{OtherControlNumber, WrongKind, NoSession, BadTag, StaleNumber, OtherBase, BaseExhausted, NotAuthorised, OtherDevice, BadIssuerTag, RevokesItself, NotListed, AlreadyListed, TableFull, NotTaken}
use Rattle.refusal.specs.Report.{report}
use Rattle.wire.specs.declared.types.Kind.{Kind}
use Rattle.sessions.specs.declared.types.Session.{Session}
use Rattle.actions.specs.Arguments.{Arguments, Arguments.take_ownership, Arguments.set_session_keys, Arguments.expire_session_keys, Arguments.grant_ownership, Arguments.revoke_ownership, Arguments.add_entry, Arguments.delete_entry, Arguments.cache_certificate, Arguments.factory_security_reset, Arguments.perform}
use Rattle.records.specs.declared.types.Entry.{Entry}
use Rattle.records.specs.declared.types.Certificate.{Certificate}
use Rattle.records.specs.Equality.{same_entry, same_certificate}
use Rattle.machine.specs.Lists.{first_of, any_of}
use Rattle.machine.specs.Requests.{Presented, time_of}
use Rattle.machine.specs.Delegation.{is_owner, authorised}
use Rattle.machine.specs.Machine.{State, Answer, accepted, is_consumed, passing, listing, by_session, is_kind, signs, screened_by_session, screened_by_key, screened, tables_of, owner_limit, entry_limit, certificate_limit, decided}

-- ## What is screened out stops early

early_passing : (b : Bool) (why : Refusal) (next : Answer) → leb 7 (report why).stage ≡ false → ((w : Refusal) → next ≡ Err w → leb 7 (report w).stage ≡ false) → (w : Refusal) → passing b why next ≡ Err w → leb 7 (report w).stage ≡ false
early_passing true why next l f w e = f w e
early_passing false why next l f w e = let q : why ≡ w = cc in subst (λ z. leb 7 (report z).stage ≡ false) q l

never_refused : (w : Refusal) → accepted ≡ Err w → leb 7 (report w).stage ≡ false
never_refused w e = let z : ◌≡◌ {A = ℕ} 0 1 = cc in absurd (omega arith)

early_session : (p : Presented) (o : Option Session) (w : Refusal) → screened_by_session p o ≡ Err w → leb 7 (report w).stage ≡ false
early_session p None w e = let q : NoSession ≡ w = cc in subst (λ z. leb 7 (report z).stage ≡ false) q refl
early_session p (Some s) w e = early_passing (p.session.stands s.key p.signed.text p.signed.tag) BadTag (passing (ltb s.last p.signed.number) StaleNumber accepted) refl
    (early_passing (ltb s.last p.signed.number) StaleNumber accepted refl never_refused) w e

early_key : (base : ℕ) (p : Presented) (w : Refusal) → screened_by_key base p ≡ Err w → leb 7 (report w).stage ≡ false
early_key base p = early_passing (p.public.stands p.signed.signer p.signed.text p.signed.tag) BadTag _ refl
    (early_passing (eqb p.signed.key_number base) OtherBase _ refl (early_passing (ltb base 18446744073709551615) BaseExhausted accepted refl never_refused))

early_either : (k : Bool) (p : Presented) (o : Option Session) (base : ℕ) (w : Refusal) → cond k (screened_by_session p o) (screened_by_key base p) ≡ Err w → leb 7 (report w).stage ≡ false
early_either true p o base = early_session p o
early_either false p o base = early_key base p

pub screened_early : (s : State) (p : Presented) (kind : Kind) (w : Refusal) → screened s p kind ≡ Err w → leb 7 (report w).stage ≡ false
unfolding screened
screened_early s p kind = early_passing (eqb p.signed.control p.control) OtherControlNumber _ refl (early_passing (is_kind kind p.signed.kind) WrongKind _ refl (early_either (by_session kind) p (first_of (signs p.signed) s.sessions) s.base))

-- ## What is decided is late

late_passing : (b : Bool) (why : Refusal) (next : Answer) → leb 7 (report why).stage ≡ true → is_consumed next ≡ true → is_consumed (passing b why next) ≡ true
late_passing true why next l n = n
late_passing false why next l n = l

late_listing : (listed : Bool) (count limit : ℕ) → is_consumed (listing listed count limit) ≡ true
late_listing listed count limit = late_passing (not listed) AlreadyListed _ refl (late_passing (ltb count limit) TableFull accepted refl refl)

pub decided_late : (s : State) (p : Presented) (taken : Bool) (a : Arguments) → is_consumed (decided s p taken a) ≡ true
decided_late s p taken (take_ownership proof) = late_passing _ NotAuthorised accepted refl refl
decided_late s p taken (set_session_keys key) = late_passing _ TableFull accepted refl refl
decided_late s p taken expire_session_keys = refl
decided_late s p taken (grant_ownership hash) = late_passing (is_owner s.owners p.signed.signer) NotAuthorised (listing (is_owner s.owners hash) (length s.owners) owner_limit) refl (late_listing (is_owner s.owners hash) (length s.owners) owner_limit)
decided_late s p taken (revoke_ownership hash) = late_passing (is_owner s.owners p.signed.signer) NotAuthorised (passing (not (bytes_eq p.signed.signer hash)) RevokesItself (passing (is_owner s.owners hash) NotListed accepted)) refl (late_passing (not (bytes_eq p.signed.signer hash)) RevokesItself (passing (is_owner s.owners hash) NotListed accepted) refl (late_passing (is_owner s.owners hash) NotListed accepted refl refl))
decided_late s p taken (add_entry entry) = late_passing (is_owner s.owners p.signed.signer) NotAuthorised (listing (any_of (λ e. same_entry e entry) s.entries) (length s.entries) entry_limit) refl (late_listing (any_of (λ e. same_entry e entry) s.entries) (length s.entries) entry_limit)
decided_late s p taken (delete_entry entry) = late_passing (is_owner s.owners p.signed.signer) NotAuthorised (passing (any_of (λ e. same_entry e entry) s.entries) NotListed accepted) refl (late_passing (any_of (λ e. same_entry e entry) s.entries) NotListed accepted refl refl)
decided_late s p taken (cache_certificate certificate bytes tag) =
    let room = listing (any_of (λ c. same_certificate c certificate) s.certificates) (length s.certificates) certificate_limit in
    late_passing (bytes_eq certificate.device s.device) OtherDevice (passing (p.public.stands certificate.issuer bytes tag) BadIssuerTag room) refl
    (late_passing (p.public.stands certificate.issuer bytes tag) BadIssuerTag room refl (late_listing (any_of (λ c. same_certificate c certificate) s.certificates) (length s.certificates) certificate_limit))
decided_late s p taken factory_security_reset = late_passing _ NotAuthorised accepted refl refl
decided_late s p taken (perform name payload) = late_passing (authorised (tables_of s) (time_of p) name p.signed.signer) NotAuthorised (passing taken NotTaken accepted) refl (late_passing taken NotTaken accepted refl refl)

-- ## What is decided depends on the tables, and on sessions only by their number

pub record SameTables (s t : State) : Type 0 where
  pub device : t.device ≡ s.device
  pub password : t.password ≡ s.password
  pub owners : t.owners ≡ s.owners
  pub entries : t.entries ≡ s.entries
  pub certificates : t.certificates ≡ s.certificates
  pub sessions : length t.sessions ≡ length s.sessions

-- the fields that a decision reads
decided_by : List ℕ → List ℕ → List (List ℕ) → List Entry → List Certificate → List Session → Presented → Bool → Arguments → Answer
decided_by device password owners entries certificates sessions p taken a = decided (record { device = device; password = password; base = 0; owners = owners; entries = entries; certificates = certificates; sessions = sessions; done = 0; last = None }) p taken a

-- the sessions count only by their number
by_number : (s : State) (ss ts : List Session) → length ss ≡ length ts → (p : Presented) (taken : Bool) (a : Arguments)
    → decided_by s.device s.password s.owners s.entries s.certificates ss p taken a ≡ decided_by s.device s.password s.owners s.entries s.certificates ts p taken a
unfolding decided_by
by_number s ss ts e p taken (take_ownership proof) = refl
by_number s ss ts e p taken (set_session_keys key) = ap (λ z. passing (ltb z 16) TableFull accepted) e
by_number s ss ts e p taken expire_session_keys = refl
by_number s ss ts e p taken (grant_ownership hash) = refl
by_number s ss ts e p taken (revoke_ownership hash) = refl
by_number s ss ts e p taken (add_entry entry) = refl
by_number s ss ts e p taken (delete_entry entry) = refl
by_number s ss ts e p taken (cache_certificate certificate bytes tag) = refl
by_number s ss ts e p taken factory_security_reset = refl
by_number s ss ts e p taken (perform name payload) = refl

-- nothing else of a state is read
fields_only : (s : State) (p : Presented) (taken : Bool) (a : Arguments) → decided s p taken a ≡ decided_by s.device s.password s.owners s.entries s.certificates s.sessions p taken a
unfolding decided_by
fields_only s p taken (take_ownership proof) = refl
fields_only s p taken (set_session_keys key) = refl
fields_only s p taken expire_session_keys = refl
fields_only s p taken (grant_ownership hash) = refl
fields_only s p taken (revoke_ownership hash) = refl
fields_only s p taken (add_entry entry) = refl
fields_only s p taken (delete_entry entry) = refl
fields_only s p taken (cache_certificate certificate bytes tag) = refl
fields_only s p taken factory_security_reset = refl
fields_only s p taken (perform name payload) = refl

six_same : {d e w v : List ℕ} {o q : List (List ℕ)} {x y : List Entry} {c b : List Certificate} (ss : List Session) (p : Presented) (taken : Bool) (a : Arguments) → d ≡ e → w ≡ v → o ≡ q → x ≡ y → c ≡ b → decided_by d w o x c ss p taken a ≡ decided_by e v q y b ss p taken a
six_same ss p taken a ed ew eo ex ec = cc

pub same_decision : (s t : State) → SameTables s t → (p : Presented) (taken : Bool) (a : Arguments) → decided t p taken a ≡ decided s p taken a
same_decision s t e p taken a =
    fields_only t p taken a
    ∙ (six_same t.sessions p taken a e.device e.password e.owners e.entries e.certificates
    ∙ (by_number s t.sessions s.sessions e.sessions p taken a
    ∙ sym (fields_only s p taken a)))

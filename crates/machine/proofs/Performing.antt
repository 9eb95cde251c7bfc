-- The machine has the service do a Perform exactly if the record makes it due.
use Rattle.std.proofs.Common.{◌≡◌, ℕ, Bool, true, eqb, ltb, List, Ok, Decides, sym, ap, ◌∙◌, subst, inl, inr}
use Rattle.std.proofs.lemmas.Bool.{lt-ltb, eq-eqb}
use Rattle.refusal.specs.declared.Refusal.TheVariants.{OtherControlNumber, WrongKind, BadTag, StaleNumber, NotAuthorised, NotTaken}
use Rattle.permission.proofs.Names.{is_name_decides}
use Rattle.sessions.specs.Opened.{name_of}
use Rattle.records.specs.declared.types.Scope.{Scope}
use Rattle.records.specs.Applicability.{applicable, Applicable}
use Rattle.records.proofs.Applying.{test_decides_for_names}
use Rattle.wire.specs.declared.types.Kind.TheVariants.{Session as Session'}
use Rattle.wire.specs.Envelope.{control_number, sequence_number, signer, kind_of}
use Rattle.actions.specs.Arguments.{Arguments.perform}
use Rattle.machine.specs.Lists.{first_of}
use Rattle.machine.specs.Requests.{tag_of, signed_of, presented, reading}
use Rattle.machine.specs.Delegation.{InForce, DelegationChain, DelegationChain.last_link, DelegationChain.link, Link, Entered, Root, Authorised, authorised, kept_in}
use Rattle.machine.specs.Machine.{State, tables_of, accepted, is_accepted, passing, and_then, is_kind, signs, screened_by_session, screened, decided, judged, answer}
use Rattle.machine.specs.History.{Event, signed_in, session_name, Owner, EntryInForce, CertificateInForce, Established, OpenedWith, Fresh, in_force, Due}
use Rattle.machine.proofs.Agreeing.{Agree}
use Rattle.machine.proofs.Delegating.{authorised_decides}
use Rattle.machine.proofs.Judging.{accepted_passing, passing_true, accepted_both, accepted_consumed, performs_a_name, screened_facts, session_facts}
use Rattle.machine.proofs.Numbering.{map_member, member_map, first_found, found_first, names_decides, opened_unique}
use Rattle.machine.proofs.Opening.{SessionsOk}

-- ## Authorisation by what is in force and by what is kept

pub record Included (a b : InForce) : Type 0 where
  pub owners : (h : List ℕ) → a.Owner h → b.Owner h
  pub entries : (e : _) → a.EntryHeld e → b.EntryHeld e
  pub certificates : (c : _) → a.CertificateHeld c → b.CertificateHeld c

module _ (a b : InForce) (i : Included a b) (clock : ℕ) (name : List ℕ) where
  chain_included : (to from : List ℕ) → DelegationChain (Link a clock name) to from → DelegationChain (Link b clock name) to from
  chain_included to from (last_link at c l e s) = last_link at c (i.certificates c l.0, l.1) e s
  chain_included to from (link at c l e f rest) = link at c (i.certificates c l.0, l.1) e f (chain_included to c.subject rest)

  pub entered_included : (h : List ℕ) → Entered a clock name h → Entered b clock name h
  entered_included h e = record { entry = e.entry; held = i.entries e.entry e.held; applies = e.applies; subject = e.subject }

  root_included : (h : List ℕ) → Root a clock name h → Root b clock name h
  unfolding entered_included
  root_included h (inl o) = inl (i.owners h o)
  root_included h (inr m) = inr (record { entered = entered_included h m.entered; flag = m.flag })

  authorised_included : (h : List ℕ) → Authorised a clock name h → Authorised b clock name h
  authorised_included h (inl o) = inl (i.owners h o)
  authorised_included h (inr (inl e)) = inr (inl (entered_included h e))
  authorised_included h (inr (inr c)) = inr (inr (record { root = c.root; begins = root_included c.root c.begins; chain = chain_included h c.root c.chain }))

-- ## One Perform

pub record TablesAgree (past : List Event) (s : State) : Type 0 where
  pub owners : Agree s.owners (Owner past)
  pub entries : Agree s.entries (EntryInForce past)
  pub certificates : Agree s.certificates (CertificateInForce past)
  pub sessions : SessionsOk past s.base s.sessions

kept_included : (past : List Event) (s : State) → TablesAgree past s → Included (kept_in (tables_of s)) (in_force past)
kept_included past s t = record { owners = t.owners.only; entries = t.entries.only; certificates = t.certificates.only }

pub in_force_included : (past : List Event) (s : State) → TablesAgree past s → Included (in_force past) (kept_in (tables_of s))
in_force_included past s t = record { owners = t.owners.all; entries = t.entries.all; certificates = t.certificates.all }

module _ (past : List Event) (s : State) (t : TablesAgree past s) (e : Event) (came : e.answer ≡ answer s e.delivery e.taken) (name payload : List ℕ) (reads : reading e.delivery ≡ Ok (perform name payload)) where
  abbrev text : List ℕ
  text = signed_in e

  applies : (x : Scope) → Decides (applicable x e.delivery.clock name) (Applicable x e.delivery.clock name)
  applies x = test_decides_for_names x e.delivery.clock name ((is_name_decides name).0 (performs_a_name e.delivery name payload reads))

  abbrev allowed : Bool
  allowed = authorised (tables_of s) e.delivery.clock name (signer text)

  allowed_decides : Decides allowed (Authorised (in_force past) e.delivery.clock name (signer text))
  allowed_decides =
      let r = authorised_decides (tables_of s) e.delivery.clock name applies (signer text) in (
        λ h. authorised_included (kept_in (tables_of s)) (in_force past) (kept_included past s t) e.delivery.clock name (signer text) (r.0 h),
        λ a. r.1 (authorised_included (in_force past) (kept_in (tables_of s)) (in_force_included past s t) e.delivery.clock name (signer text) a),
      )

  answer_is : e.answer ≡ and_then (screened s (presented e.delivery) Session') (decided s (presented e.delivery) e.taken (perform name payload))
  unfolding answer
  answer_is = came ∙ ap (judged s e.delivery e.taken) reads

  -- what was done was due
  pub done_is_due : is_accepted e.answer ≡ true → Due past e
  done_is_due h =
      let both = accepted_both (screened s (presented e.delivery) Session') (decided s (presented e.delivery) e.taken (perform name payload)) (ap is_accepted (sym answer_is) ∙ h) in
      let screen = screened_facts s e.delivery Session' (accepted_consumed (screened s (presented e.delivery) Session') both.0) in
      let found = session_facts e.delivery (first_of (signs (signed_of e.delivery)) s.sessions) screen.signed in
      let x = found.session in
      let seen = first_found (signs (signed_of e.delivery)) s.sessions x found.found in
      let is = (names_decides text (name_of x)).0 seen.1 in
      let sound = t.sessions.each x seen.0 in
      let may = accepted_passing allowed NotAuthorised (passing e.taken NotTaken accepted) both.1 in
      record {
        well_formed = record { name = name; payload = payload; asks = reads; kind = screen.right_kind };
        addressed_here = screen.addressed;
        established = subst (λ z. Established past z) is (t.sessions.names.only (name_of x) (member_map name_of s.sessions x seen.0));
        key = x.key;
        opened = subst (λ z. OpenedWith z x.key past) is sound.keyed;
        tagged = found.tagged;
        fresh = subst (λ z. Fresh past z (sequence_number text)) is ((sound.counted (sequence_number text)).0 found.above);
        authorised = allowed_decides.0 may.0;
        taken = (accepted_passing e.taken NotTaken accepted may.1).0;
      }

  -- the arguments of a due Perform are those that were read
  pub same_name : (due : Due past e) → due.well_formed.name ≡ name
  same_name due = let q = sym due.well_formed.asks ∙ reads in cc

  pub same_payload : (due : Due past e) → due.well_formed.payload ≡ payload
  same_payload due = let q = sym due.well_formed.asks ∙ reads in cc

  -- the session of a due Perform passes
  session_passes : (due : Due past e) → screened_by_session (presented e.delivery) (first_of (signs (signed_of e.delivery)) s.sessions) ≡ accepted
  session_passes due =
      let m = map_member name_of s.sessions (session_name e) (t.sessions.names.all (session_name e) due.established) in
      let f = found_first (signs (signed_of e.delivery)) s.sessions m.0 m.1 ((names_decides text (name_of m.0)).1 m.2) in
      let x = f.0 in
      let seen = first_found (signs (signed_of e.delivery)) s.sessions x f.1 in
      let is = (names_decides text (name_of x)).0 seen.1 in
      let sound = t.sessions.each x seen.0 in
      let key = opened_unique (session_name e) x.key due.key past (subst (λ z. OpenedWith z x.key past) is sound.keyed) due.opened in
      let tagged = ap (λ z. e.delivery.session.stands z text (tag_of e.delivery)) key ∙ due.tagged in
      let above = lt-ltb x.last (sequence_number text) ((sound.counted (sequence_number text)).1 (subst (λ z. Fresh past z (sequence_number text)) (sym is) due.fresh)) in
      ap (screened_by_session (presented e.delivery)) f.1
      ∙ (passing_true (e.delivery.session.stands x.key text (tag_of e.delivery)) BadTag (passing (ltb x.last (sequence_number text)) StaleNumber accepted) tagged
      ∙ passing_true (ltb x.last (sequence_number text)) StaleNumber accepted above)

  screen_passes : (due : Due past e) → screened s (presented e.delivery) Session' ≡ accepted
  unfolding screened
  screen_passes due =
      let signed = screened_by_session (presented e.delivery) (first_of (signs (signed_of e.delivery)) s.sessions) in
      passing_true (eqb (control_number text) e.delivery.control) OtherControlNumber (passing (is_kind Session' (kind_of text)) WrongKind signed) (eq-eqb (control_number text) e.delivery.control due.addressed_here)
      ∙ (passing_true (is_kind Session' (kind_of text)) WrongKind signed (ap (is_kind Session') due.well_formed.kind)
      ∙ session_passes due)

  -- what is due is done
  pub due_is_done : Due past e → is_accepted e.answer ≡ true
  due_is_done due =
      let may = allowed_decides.1 (subst (λ z. Authorised (in_force past) e.delivery.clock z (signer text)) (same_name due) due.authorised) in
      ap is_accepted answer_is
      ∙ (ap (λ z. is_accepted (and_then z (decided s (presented e.delivery) e.taken (perform name payload)))) (screen_passes due)
      ∙ (ap is_accepted (passing_true allowed NotAuthorised (passing e.taken NotTaken accepted) may)
      ∙ ap is_accepted (passing_true e.taken NotTaken accepted due.taken)))

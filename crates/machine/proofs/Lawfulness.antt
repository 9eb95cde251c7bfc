-- The law, by an invariant between the state and the record.
use Rattle.std.proofs.Common.{◌≡◌, ℕ, ◌+◌, ◌<◌, Bool, true, false, cond, not, ◌&&◌, List, [], ◌∷◌, map, Some, None, Ok, Err, Option, Result, sym, refl, ap, ◌∙◌, subst, inl, inr, arith}
use Rattle.std.proofs.lemmas.Bool.{true≢false, false≢true}
use Rattle.refusal.specs.declared.Refusal.{Refusal}
use Rattle.sessions.specs.Opened.{name_of}
use Rattle.parties.specs.Commands.{Command, command}
use Rattle.wire.specs.declared.types.Kind.{Kind}
use Rattle.wire.specs.Envelope.{key_number, sequence_number, signer}
use Rattle.actions.specs.Arguments.{Arguments, Arguments.take_ownership, Arguments.set_session_keys, Arguments.expire_session_keys, Arguments.grant_ownership, Arguments.revoke_ownership, Arguments.add_entry, Arguments.delete_entry, Arguments.cache_certificate, Arguments.factory_security_reset, Arguments.perform}
use Rattle.machine.specs.Requests.{Delivery, signed_of, presented, reading, kind_asked}
use Rattle.machine.specs.Delegation.{Authorised}
use Rattle.machine.specs.Machine.{State, is_accepted, is_consumed, by_session, signs, and_then, screened, decided, judged, answer, command_asked, done_after, last_after, changed_by, changed}
use Rattle.machine.specs.History.{Event, Making, signed_in, session_name, Consumed, granted_in, granted, Owner, EntryInForce, CertificateInForce, Established, OpenedWith.before, Fresh, owner_change, owners_by, entry_change, entries_by, certificate_change, certificates_by, session_change, sessions_by, in_force, WellFormedPerform, Due, command_of}
use Rattle.machine.specs.Law.{Dues, LatestDue, done_now, last_now, NeverConsumed, ConsumedOnce, gained_by, lost_by, owned_by, gains, losses, is_owned, Lawful, AtEveryMoment, start, state_after, Came, Lived, TheLawHoldsAtEveryMoment, NoCommandIsDoneForWhoIsNotAuthorised}
use Rattle.machine.proofs.Agreeing.{Applies, agree_none, agree_changed}
use Rattle.machine.proofs.Judging.{consumed_first, accepted_both, accepted_consumed, unread_early, Screened, screened_facts, by_session_kind}
use Rattle.machine.proofs.Numbering.{first_found, names_decides, ConsumedBelow, below_more, never_by_session, never_by_key}
use Rattle.machine.proofs.Opening.{sessions_step, by_key, when_by_session, base_grows}
use Rattle.machine.proofs.Keeping.{OwnersCounted, owners_step, entries_step, certificates_step, counts_step}
use Rattle.machine.proofs.Performing.{TablesAgree, done_is_due, due_is_done, same_name, same_payload}

-- ## The invariant

-- the service has done the due Performs
record Served (m : Making) (past : List Event) (done : ℕ) (last : Option Command) : Type 0 where
  dues : ℕ
  count : Dues past dues
  number : done ≡ m.done + dues
  latest : LatestDue m.last past last

record Inv (m : Making) (past : List Event) (s : State) : Type 0 where
  tables : TablesAgree past s
  owners : OwnersCounted s.owners (losses past) (gains past) (is_owned past)
  older : ConsumedBelow s.base past
  once : ConsumedOnce past
  served : Served m past s.done s.last

inv_start : (m : Making) → Inv m [] (start m)
unfolding Owner EntryInForce CertificateInForce Established
inv_start m = record {
  tables = record { owners = agree_none; entries = agree_none; certificates = agree_none; sessions = record { names = agree_none; each = λ x i. elim i [ ] } };
  owners = record { number = refl; none = λ _. refl; some = λ e. absurd (false≢true e); most = omega arith };
  older = tt;
  once = tt;
  served = record { dues = 0; count = refl; number = omega arith; latest = refl };
}

-- ## One event

module _ (m : Making) (past : List Event) (s : State) (i : Inv m past s) (e : Event) (came : e.answer ≡ answer s e.delivery e.taken) where
  abbrev d : Delivery
  d = e.delivery

  abbrev text : List ℕ
  text = signed_in e

  -- an event that is no due Perform leaves the service as it was
  served_same : (Due past e → ⊥) → Served m (e ∷ past) s.done s.last
  served_same never = let v = i.served in record { dues = v.dues; count = inr (never, v.count); number = v.number; latest = inr (never, v.latest) }

  -- ### An envelope that cannot be read

  module _ (why : Refusal) (reads : reading d ≡ Err why) where
    unread_answer : e.answer ≡ Err why
    unfolding answer
    unread_answer = came ∙ ap (judged s d e.taken) reads

    unread_consumed : Consumed e → ⊥
    unread_consumed c = true≢false (sym c ∙ (ap is_consumed unread_answer ∙ unread_early d why reads))

    unread_granted : granted e ≡ None
    unread_granted = ap (λ z. granted_in (is_accepted e.answer) z) reads

    unread_due : Due past e → ⊥
    unread_due due = let q = sym due.well_formed.asks ∙ reads in let z : ◌≡◌ {A = ℕ} 0 1 = cc in omega arith

    -- nothing changes
    unread_tables : TablesAgree (e ∷ past) s
    unfolding Owner EntryInForce CertificateInForce Established
    unread_tables = record {
      owners = agree_changed (owner_change e) s.owners s.owners (Owner past) i.tables.owners (subst (λ z. Applies (owners_by (signer text) z) s.owners s.owners) (sym unread_granted) refl);
      entries = agree_changed (entry_change e) s.entries s.entries (EntryInForce past) i.tables.entries (subst (λ z. Applies (entries_by z) s.entries s.entries) (sym unread_granted) refl);
      certificates = agree_changed (certificate_change e) s.certificates s.certificates (CertificateInForce past) i.tables.certificates (subst (λ z. Applies (certificates_by z) s.certificates s.certificates) (sym unread_granted) refl);
      sessions = record {
        names = agree_changed (session_change e) (map name_of s.sessions) (map name_of s.sessions) (Established past) i.tables.sessions.names (subst (λ z. Applies (sessions_by (session_name e) z) (map name_of s.sessions) (map name_of s.sessions)) (sym unread_granted) refl);
        each = λ x k. let o = i.tables.sessions.each x k in record {
          keyed = before e past (λ other g q. let z : ◌≡◌ {A = ℕ} 0 1 = let w = sym unread_granted ∙ g in cc in absurd (omega arith)) o.keyed;
          counted = λ n. (λ l. (λ c. absurd (unread_consumed c), (o.counted n).0 l), λ f. (o.counted n).1 f.1);
          below = o.below;
        };
      };
    }

    inv_unread : Inv m (e ∷ past) s
    inv_unread = record {
      tables = unread_tables;
      owners = subst (λ z. OwnersCounted s.owners (lost_by z (losses past)) (gained_by z (gains past)) (owned_by z (is_owned past))) (sym unread_granted) i.owners;
      older = (λ c. absurd (unread_consumed c), i.older);
      once = (λ c. absurd (unread_consumed c), i.once);
      served = served_same unread_due;
    }

  -- ### A request

  module _ (asked : Arguments) (reads : reading d ≡ Ok asked) where
    abbrev kind : Kind
    kind = kind_asked asked

    answer_is : e.answer ≡ and_then (screened s (presented d) kind) (decided s (presented d) e.taken asked)
    unfolding answer
    answer_is = came ∙ ap (judged s d e.taken) reads

    screen : Consumed e → Screened s d kind
    screen c = screened_facts s d kind (consumed_first (screened s (presented d) kind) (decided s (presented d) e.taken asked) (ap is_consumed (sym answer_is) ∙ c))

    decision : is_accepted e.answer ≡ true → is_accepted (decided s (presented d) e.taken asked) ≡ true
    decision h = (accepted_both (screened s (presented d) kind) (decided s (presented d) e.taken asked) (ap is_accepted (sym answer_is) ∙ h)).1

    granted_is : granted e ≡ granted_in (is_accepted e.answer) (Ok asked)
    granted_is = ap (λ z. granted_in (is_accepted e.answer) z) reads

    abbrev next : State
    next = changed_by s d e.answer (Ok asked)

    tables_next : TablesAgree (e ∷ past) next
    tables_next = record {
      owners = owners_step e past s asked (is_accepted e.answer) granted_is decision i.tables.owners;
      entries = entries_step e past s asked (is_accepted e.answer) granted_is decision i.tables.entries;
      certificates = certificates_step e past s asked (is_accepted e.answer) granted_is decision i.tables.certificates;
      sessions = sessions_step e past s i.tables.sessions i.older asked reads screen (is_accepted e.answer) granted_is (λ h. accepted_consumed e.answer h);
    }

    owners_next : OwnersCounted next.owners (losses (e ∷ past)) (gains (e ∷ past)) (is_owned (e ∷ past))
    owners_next = counts_step e past s asked (is_accepted e.answer) granted_is decision (losses past) (gains past) (is_owned past) i.owners

    -- the key number of a consumed request is below the base after it
    number_below : (k c : Bool) → by_session kind ≡ k → is_consumed e.answer ≡ c → Consumed e → key_number text < cond (c && not k) (s.base + 1) s.base
    number_below k false q c h = absurd (true≢false (sym h ∙ c))
    number_below false true q c h = let b = by_key e past s i.tables.sessions i.older asked reads screen h q in omega arith
    number_below true true q c h =
        let f = when_by_session e past s i.tables.sessions i.older asked reads screen h q in
        let seen = first_found (signs (signed_of d)) s.sessions f.session f.found in
        let id = ap (λ z. z.id) ((names_decides text (name_of f.session)).0 seen.1) in
        let b = (i.tables.sessions.each f.session seen.0).below in
        omega arith

    older_next : ConsumedBelow next.base (e ∷ past)
    older_next = (
      number_below (by_session kind) (is_consumed e.answer) refl refl,
      below_more s.base next.base (base_grows e past s i.tables.sessions i.older asked reads screen) past i.older,
    )

    never_before : (k : Bool) → by_session kind ≡ k → Consumed e → NeverConsumed text past
    never_before false q h = never_by_key text s.base past (by_key e past s i.tables.sessions i.older asked reads screen h q) i.older
    never_before true q h =
        let f = when_by_session e past s i.tables.sessions i.older asked reads screen h q in
        let seen = first_found (signs (signed_of d)) s.sessions f.session f.found in
        let is = (names_decides text (name_of f.session)).0 seen.1 in
        let fresh = ((i.tables.sessions.each f.session seen.0).counted (sequence_number text)).0 f.above in
        never_by_session text past ((screen h).right_kind ∙ ap {B = Option Kind} Some (by_session_kind kind q)) (subst (λ z. Fresh past z (sequence_number text)) is fresh)

    -- #### The service

    not_perform : command_asked d.clock asked ≡ None → Due past e → ⊥
    not_perform n due =
        let q = sym due.well_formed.asks ∙ reads in
        let a : asked ≡ perform due.well_formed.name due.well_formed.payload = cc in
        let c = sym (ap (command_asked d.clock) a) ∙ n in
        let z : ◌≡◌ {A = ℕ} 0 1 = cc in omega arith

    -- a request that is no Perform
    served_other : command_asked d.clock asked ≡ None → Served m (e ∷ past) next.done next.last
    served_other n =
        let never = not_perform n in
        let v = i.served in
        let done : next.done ≡ s.done = ap (λ z. cond (is_accepted e.answer) (done_after z s.done) s.done) n ∙ same (is_accepted e.answer) s.done in
        let last : next.last ≡ s.last = ap (λ z. cond (is_accepted e.answer) (last_after z s.last) s.last) n ∙ same (is_accepted e.answer) s.last in
        record { dues = v.dues; count = inr (never, v.count); number = done ∙ v.number; latest = inr (never, subst (λ z. LatestDue m.last past z) (sym last) v.latest) }
      where
        same : {X : Type 0} (b : Bool) (x : X) → cond b x x ≡ x
        same true x = refl
        same false x = refl

    served_perform : (name payload : List ℕ) → asked ≡ perform name payload → Served m (e ∷ past) next.done next.last
    served_perform name payload q = go (is_accepted e.answer) refl
      where
        r : reading e.delivery ≡ Ok (perform name payload)
        r = reads ∙ ap {B = Result Arguments Refusal} Ok q

        go : (b : Bool) → is_accepted e.answer ≡ b → Served m (e ∷ past) (cond b (done_after (command_asked e.delivery.clock asked) s.done) s.done) (cond b (last_after (command_asked e.delivery.clock asked) s.last) s.last)
        go true h =
            let due = done_is_due past s i.tables e came name payload r h in
            let v = i.served in
            let c = ap (command_asked e.delivery.clock) q in
            let given : ◌≡◌ {A = Option Command} (Some (command name payload e.delivery.clock)) (Some (command_of past e due)) =
            ap {B = Option Command} (λ z. Some (command z payload e.delivery.clock)) (sym (same_name past s i.tables e came name payload r due))
            ∙ ap {B = Option Command} (λ z. Some (command due.well_formed.name z e.delivery.clock)) (sym (same_payload past s i.tables e came name payload r due)) in
            let n = v.number in
            record {
              dues = v.dues + 1;
              count = inl (due, (v.dues, v.count, refl));
              number = ap (λ z. done_after z s.done) c ∙ omega arith;
              latest = inl (due, ap (λ z. last_after z s.last) c ∙ given);
            }
        go false h =
            let never : Due past e → ⊥ = λ due. true≢false (sym (due_is_done past s i.tables e came name payload r due) ∙ h) in
            let v = i.served in
            record { dues = v.dues; count = inr (never, v.count); number = v.number; latest = inr (never, v.latest) }

  inv_asked : (asked : Arguments) → reading d ≡ Ok asked → Served m (e ∷ past) (changed_by s d e.answer (Ok asked)).done (changed_by s d e.answer (Ok asked)).last → Inv m (e ∷ past) (changed_by s d e.answer (Ok asked))
  inv_asked asked r v = record {
    tables = tables_next asked r;
    owners = owners_next asked r;
    older = older_next asked r;
    once = (never_before asked r (by_session (kind_asked asked)) refl, i.once);
    served = v;
  }

  served_asked : (asked : Arguments) → reading d ≡ Ok asked → Served m (e ∷ past) (changed_by s d e.answer (Ok asked)).done (changed_by s d e.answer (Ok asked)).last
  served_asked (take_ownership proof) r = served_other (take_ownership proof) r refl
  served_asked (set_session_keys key) r = served_other (set_session_keys key) r refl
  served_asked expire_session_keys r = served_other expire_session_keys r refl
  served_asked (grant_ownership hash) r = served_other (grant_ownership hash) r refl
  served_asked (revoke_ownership hash) r = served_other (revoke_ownership hash) r refl
  served_asked (add_entry entry) r = served_other (add_entry entry) r refl
  served_asked (delete_entry entry) r = served_other (delete_entry entry) r refl
  served_asked (cache_certificate certificate bytes tag) r = served_other (cache_certificate certificate bytes tag) r refl
  served_asked factory_security_reset r = served_other factory_security_reset r refl
  served_asked (perform name payload) r = served_perform (perform name payload) r name payload refl

  inv_read : (r : Result Arguments Refusal) → reading d ≡ r → Inv m (e ∷ past) (changed_by s d e.answer r)
  inv_read (Err why) q = inv_unread why q
  inv_read (Ok asked) q = inv_asked asked q (served_asked asked q)

  inv_step : Inv m (e ∷ past) (changed s d e.answer)
  unfolding changed
  inv_step = inv_read (reading d) refl

-- ## Every history

inv_of : (m : Making) (events : List Event) → Came m events → Inv m events (state_after m events)
inv_of m [] c = inv_start m
inv_of m (e ∷ past) c = inv_step m past (state_after m past) (inv_of m past c.0) e c.1

lawful_by : (m : Making) (events : List Event) (s : State) → Inv m events s → done_now m events ≡ s.done → last_now m events ≡ s.last → Lawful m events
lawful_by m events s i n l = record {
  dues = i.served.dues;
  count = i.served.count;
  number_counts_the_due_performs = n ∙ i.served.number;
  last_is_the_latest_due_perform = subst (λ z. LatestDue m.last events z) (sym l) i.served.latest;
  every_text_is_consumed_once = i.once;
  ownership = record {
    owners = s.owners;
    distinct = i.tables.owners.distinct;
    exactly_the_owners = λ h. (i.tables.owners.only h, i.tables.owners.all h);
    number = i.owners.number;
    none_before_a_take = i.owners.none;
    one_at_least_after_it = i.owners.some;
    eight_at_most = i.owners.most;
  };
}

done_now_is : (m : Making) (events : List Event) → Came m events → done_now m events ≡ (state_after m events).done
done_now_is m [] c = refl
done_now_is m (e ∷ past) c = c.2

last_now_is : (m : Making) (events : List Event) → Came m events → last_now m events ≡ (state_after m events).last
last_now_is m [] c = refl
last_now_is m (e ∷ past) c = c.3

lawful_of : (m : Making) (events : List Event) → Came m events → Lawful m events
lawful_of m events c = lawful_by m events (state_after m events) (inv_of m events c) (done_now_is m events c) (last_now_is m events c)

pub lawful_always : (m : Making) (events : List Event) → Came m events → AtEveryMoment m events
lawful_always m [] c = lawful_of m [] c
lawful_always m (e ∷ past) c = (lawful_of m (e ∷ past) c, lawful_always m past c.0)

pub the_law_holds_at_every_moment : TheLawHoldsAtEveryMoment
the_law_holds_at_every_moment h s l = lawful_always h.making h.events l.came

pub tables_after : (m : Making) (events : List Event) → Came m events → TablesAgree events (state_after m events)
tables_after m events c = (inv_of m events c).tables

-- ## The auditor's sentence

module _ (m : Making) (past : List Event) (e : Event) (s : State) (l : Lived (record { making = m; events = e ∷ past }) s) (p : WellFormedPerform e) where
  abbrev before_it : State
  before_it = state_after m past

  abbrev agreeing : TablesAgree past before_it
  agreeing = (inv_of m past l.came.0).tables

  refused : (Due past e → ⊥) → (b : Bool) → is_accepted e.answer ≡ b → is_accepted e.answer ≡ false
  refused never true h = absurd (never (done_is_due past before_it agreeing e l.came.1 p.name p.payload p.asks h))
  refused never false h = h

  -- a Perform that is not accepted leaves the service as it was
  state_after_is : changed before_it e.delivery e.answer ≡ changed_by before_it e.delivery e.answer (Ok (perform p.name p.payload))
  unfolding changed
  state_after_is = ap (changed_by before_it e.delivery e.answer) p.asks

  pub nothing_done : (Due past e → ⊥) → (e.done ≡ done_now m past) × (e.last ≡ last_now m past)
  nothing_done never =
      let r = refused never (is_accepted e.answer) refl in
      let c = command_asked e.delivery.clock (perform p.name p.payload) in (
        l.came.2 ∙ (ap (λ z. z.done) state_after_is ∙ (ap (λ z. cond z (done_after c before_it.done) before_it.done) r ∙ sym (done_now_is m past l.came.0))),
        l.came.3 ∙ (ap (λ z. z.last) state_after_is ∙ (ap (λ z. cond z (last_after c before_it.last) before_it.last) r ∙ sym (last_now_is m past l.came.0))),
      )

pub no_command_is_done_for_who_is_not_authorised : NoCommandIsDoneForWhoIsNotAuthorised
no_command_is_done_for_who_is_not_authorised m past e s hash l p who never =
    nothing_done m past e s l p
    (λ due. never (subst (λ z. Authorised (in_force past) e.delivery.clock p.name z) who
    (subst (λ z. Authorised (in_force past) e.delivery.clock z (signer (signed_in e))) (same_name past (state_after m past) (inv_of m past l.came.0).tables e l.came.1 p.name p.payload p.asks due) due.authorised)))

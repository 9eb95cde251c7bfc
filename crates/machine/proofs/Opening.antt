-- The session table agrees with the record through every answer.
use Rattle.std.proofs.Common.{◌≡◌, ℕ, ◌+◌, ◌<◌, ◌≤◌, Bool, true, false, cond, not, ◌&&◌, List, [], ◌∷◌, ◌++◌, map, Some, None, Ok, Option, sym, refl, ap, ◌∙◌, subst, inl, inr, arith}
use Rattle.std.proofs.lemmas.Bool.{true≢false}
use Rattle.sessions.specs.declared.types.Session.{Session}
use Rattle.sessions.specs.Opened.{name_of, with_last}
use Rattle.wire.specs.declared.types.Kind.{Kind}
use Rattle.wire.specs.Envelope.{key_number, sequence_number}
use Rattle.actions.specs.Arguments.{Arguments, Arguments.take_ownership, Arguments.set_session_keys, Arguments.expire_session_keys, Arguments.grant_ownership, Arguments.revoke_ownership, Arguments.add_entry, Arguments.delete_entry, Arguments.cache_certificate, Arguments.factory_security_reset, Arguments.perform}
use Rattle.machine.specs.Lists.{Member, first_of, without, with_first}
use Rattle.machine.specs.Requests.{signed_of, presented, reading, kind_asked}
use Rattle.machine.specs.Machine.{State, is_consumed, by_session, signs, screened_by_session, screened_by_key, sessions_after, new_session, base_after, number_used}
use Rattle.machine.specs.History.{Event, Change.nothing, signed_in, session_name, Consumed, SignedBySession, granted_in, granted, sessions_by, session_change, Established, OpenedWith, OpenedWith.here, OpenedWith.before, Fresh}
use Rattle.machine.proofs.Members.{without_member, member_appended}
use Rattle.machine.proofs.Agreeing.{Agree, Applies, agree_changed}
use Rattle.machine.proofs.Judging.{Screened, BySession, session_facts, key_facts, by_session_kind, by_key_kind}
use Rattle.machine.proofs.Numbering.{map_member, map_appended, map_without, map_with_first, with_first_member, first_found, name_for, names_it, names_decides, fresh_positive, fresh_new, ConsumedBelow}

-- a number is fresh in a session exactly if it is above the session's last
abbrev pub Counted : List Event → Session → Type 0
Counted past x = (n : ℕ) → (x.last < n → Fresh past (name_of x) n) × (Fresh past (name_of x) n → x.last < n)

pub record Sound (past : List Event) (base : ℕ) (x : Session) : Type 0 where
  pub keyed : OpenedWith (name_of x) x.key past
  pub counted : Counted past x
  pub below : x.id < base

pub record SessionsOk (past : List Event) (base : ℕ) (xs : List Session) : Type 0 where
  pub names : Agree (map name_of xs) (Established past)
  pub each : (x : Session) → Member x xs → Sound past base x

module _ (e : Event) (past : List Event) (s : State) (ok : SessionsOk past s.base s.sessions) (older : ConsumedBelow s.base past) (asked : Arguments) (reads : reading e.delivery ≡ Ok asked)
    (screen : is_consumed e.answer ≡ true → Screened s e.delivery (kind_asked asked)) where
  abbrev text : List ℕ
  text = signed_in e

  abbrev kind : Kind
  kind = kind_asked asked

  -- ## The number that is used

  -- the key and the bound are as before the event, the numbers as after it
  record Used (x : Session) : Type 0 where
    keyed : OpenedWith (name_of x) x.key past
    counted : Counted (e ∷ past) x
    below : x.id < s.base

  unused : (x : Session) → Member x s.sessions → (Consumed e → SignedBySession e → session_name e ≡ name_of x → ⊥) → Used x
  unused x m never =
      let o = ok.each x m in
      record { keyed = o.keyed; counted = λ n. (λ l. (λ c k q. absurd (never c k q), (o.counted n).0 l), λ f. (o.counted n).1 f.1); below = o.below }

  signs_one : (x y : Session) → signs (signed_of e.delivery) x ≡ true → signs (signed_of e.delivery) y ≡ true → name_of x ≡ name_of y
  signs_one x y p q = (names_decides text (name_of x)).0 p ∙ sym ((names_decides text (name_of y)).0 q)

  pub when_by_session : Consumed e → by_session kind ≡ true → BySession e.delivery (first_of (signs (signed_of e.delivery)) s.sessions)
  when_by_session c k =
      session_facts e.delivery (first_of (signs (signed_of e.delivery)) s.sessions)
      (subst (λ z. is_consumed (cond z (screened_by_session (presented e.delivery) (first_of (signs (signed_of e.delivery)) s.sessions)) (screened_by_key s.base (presented e.delivery))) ≡ true) k (screen c).signed)

  pub by_key : Consumed e → by_session kind ≡ false → key_number text ≡ s.base
  by_key c k =
      key_facts s.base e.delivery
      (subst (λ z. is_consumed (cond z (screened_by_session (presented e.delivery) (first_of (signs (signed_of e.delivery)) s.sessions)) (screened_by_key s.base (presented e.delivery))) ≡ true) k (screen c).signed)

  -- the session whose number is used: all that pass the test are the one that was found
  used_here : Consumed e → by_session kind ≡ true → (x : Session) → Member x s.sessions → signs (signed_of e.delivery) x ≡ true → Used (with_last (sequence_number text) x)
  used_here c k x m t =
      let o = ok.each x m in
      let f = when_by_session c k in
      let seen = first_found (signs (signed_of e.delivery)) s.sessions f.session f.found in
      let name = (names_decides text (name_of x)).0 t in
      let same = signs_one f.session x seen.1 t in
      -- the number is fresh, by the session that was found
      let fresh = ((ok.each f.session seen.0).counted (sequence_number text)).0 f.above in
      let above = (o.counted (sequence_number text)).1 (subst (λ z. Fresh past z (sequence_number text)) same fresh) in
      record {
        keyed = o.keyed;
        counted = λ n. (
          λ l. let lt : x.last < n = omega arith in (λ _ _ _. l, (o.counted n).0 lt),
          λ g. g.0 c ((screen c).right_kind ∙ ap {B = Option Kind} Some (by_session_kind kind k)) (sym name),
        );
        below = o.below;
      }

  -- the sessions after the number was used
  record Numbered (ys : List Session) : Type 0 where
    names : map name_of ys ≡ map name_of s.sessions
    each : (x : Session) → Member x ys → Used x

  numbered : (c k : Bool) → is_consumed e.answer ≡ c → by_session kind ≡ k → Numbered (cond (c && k) (with_first (signs (signed_of e.delivery)) (with_last (sequence_number text)) s.sessions) s.sessions)
  numbered false k c b = record { names = refl; each = λ x m. unused x m (λ h. absurd (true≢false (sym h ∙ c))) }
  numbered true false c b = record { names = refl; each = λ x m. unused x m (λ h q. absurd (by_key_kind kind b (sym (screen c).right_kind ∙ q))) }
  numbered true true c b = record {
    names = map_with_first name_of (signs (signed_of e.delivery)) (with_last (sequence_number text)) (λ x. refl) s.sessions;
    each = λ x m. elim (with_first_member name_of (signs (signed_of e.delivery)) (with_last (sequence_number text)) signs_one s.sessions ok.names.distinct x m) [
      | inl r ↦ subst (λ z. Used z) (sym r.3) (used_here c b r.0 r.1 r.2)
      | inr r ↦ unused x r.0 (λ h q n. true≢false (sym ((names_decides text (name_of x)).1 (sym n)) ∙ r.1))
    ];
  }

  abbrev after : List Session
  after = number_used (is_consumed e.answer) kind (signed_of e.delivery) s.sessions

  numbers : Numbered after
  numbers = numbered (is_consumed e.answer) (by_session kind) refl refl

  -- ## What an accepted request changes

  abbrev base' : ℕ
  base' = base_after (is_consumed e.answer) kind s.base

  grows : (b : Bool) → s.base ≤ cond b (s.base + 1) s.base
  grows true = omega arith
  grows false = omega arith

  pub base_grows : s.base ≤ base'
  base_grows = grows (is_consumed e.answer && not (by_session kind))

  sound_after : (x : Session) → Used x → ((other : List ℕ) → granted e ≡ Some (set_session_keys other) → session_name e ≡ name_of x → ⊥) → Sound (e ∷ past) base' x
  sound_after x u never = let g = base_grows in let b = u.below in record { keyed = before e past never u.keyed; counted = u.counted; below = omega arith }

  -- no session opens: those that are kept are sound, whichever they are
  kept : (ys : List Session) → ((x : Session) → Member x ys → Member x after) → ((other : List ℕ) → granted e ≡ Some (set_session_keys other) → ⊥) → (x : Session) → Member x ys → Sound (e ∷ past) base' x
  kept ys sub never x m = sound_after x (numbers.each x (sub x m)) (λ other g q. never other g)

  names_after : (ys : List Session) → Applies (session_change e) (map name_of s.sessions) (map name_of ys) → Agree (map name_of ys) (Established (e ∷ past))
  unfolding Established
  names_after ys a = agree_changed (session_change e) (map name_of s.sessions) (map name_of ys) (Established past) ok.names a

  -- the change, for what was granted
  names_by : (ys : List Session) (o : Option Arguments) → granted e ≡ o → Applies (sessions_by (session_name e) o) (map name_of s.sessions) (map name_of ys) → Agree (map name_of ys) (Established (e ∷ past))
  names_by ys o g a = names_after ys (subst (λ z. Applies (sessions_by (session_name e) z) (map name_of s.sessions) (map name_of ys)) (sym g) a)

  -- a grant that does nothing to sessions
  unchanged : (o : Option Arguments) → granted e ≡ o → (sessions_by (session_name e) o ≡ nothing) → ((other : List ℕ) → o ≡ Some (set_session_keys other) → ⊥) → SessionsOk (e ∷ past) base' after
  unchanged o g n never = record {
    names = names_by after o g (subst (λ z. Applies z (map name_of s.sessions) (map name_of after)) (sym n) numbers.names);
    each = kept after (λ x m. m) (λ other q. never other (sym g ∙ q));
  }

  expired : granted e ≡ Some expire_session_keys → SessionsOk (e ∷ past) base' (without (signs (signed_of e.delivery)) after)
  expired g = record {
    names = names_by (without (signs (signed_of e.delivery)) after) (Some expire_session_keys) g (
      names_it text,
      record { only = λ x. (names_decides text x).0; passes = (names_decides text (name_for text)).1 refl },
      map_without name_of (names_it text) after ∙ ap (without (names_it text)) numbers.names,
    );
    each = kept (without (signs (signed_of e.delivery)) after) (λ x m. without_member (signs (signed_of e.delivery)) after x m) (λ other q. let z : ◌≡◌ {A = ℕ} 0 1 = cc in absurd (omega arith));
  }

  emptied : granted e ≡ Some factory_security_reset → SessionsOk (e ∷ past) base' []
  emptied g = record { names = names_by [] (Some factory_security_reset) g refl; each = λ x m. elim m [ ] }

  opened : (key : List ℕ) → granted e ≡ Some (set_session_keys key) → Consumed e → by_session kind ≡ false → SessionsOk (e ∷ past) base' (after ++ new_session (signed_of e.delivery) key ∷ [])
  opened key g c k =
      let at = by_key c k in
      let more : base' ≡ s.base + 1 = ap (λ z. cond (z && not (by_session kind)) (s.base + 1) s.base) c ∙ ap (λ z. cond (not z) (s.base + 1) s.base) k in
      let others : (x : Session) → Used x → session_name e ≡ name_of x → ⊥ = λ x u q. let b = u.below in let i = ap (λ z. z.id) q in omega arith in
      record {
        names = names_by (after ++ new_session (signed_of e.delivery) key ∷ []) (Some (set_session_keys key)) g (
          map_appended name_of after (new_session (signed_of e.delivery) key) ∙ ap (λ z. z ++ name_for text ∷ []) numbers.names,
          λ m. let r = map_member name_of after (name_for text) (subst (λ z. Member (name_for text) z) (sym numbers.names) m) in others r.0 (numbers.each r.0 r.1) (sym r.2),
        );
        each = λ x m. elim (member_appended x (new_session (signed_of e.delivery) key) after m) [
          | inl q ↦ subst (λ z. Sound (e ∷ past) base' z) (sym q) (record {
            keyed = here e past g refl;
            counted = λ n. (
              λ l. (λ c' b q'. absurd (by_key_kind kind k (sym (screen c).right_kind ∙ b)), fresh_new past (name_for text) n s.base older (omega arith) l),
              λ f. fresh_positive past (name_for text) n f.1,
            );
            below = omega arith;
          })
          | inr k' ↦ let u = numbers.each x k' in sound_after x u (λ other g' q. others x u q)
        ];
      }

  -- by what was asked
  accepted_sessions : (a : Arguments) → a ≡ asked → granted e ≡ Some a → Consumed e → SessionsOk (e ∷ past) base' (sessions_after (signed_of e.delivery) a after)
  accepted_sessions (take_ownership proof) q g c = unchanged _ g refl (λ other h. let z : ◌≡◌ {A = ℕ} 0 1 = cc in absurd (omega arith))
  accepted_sessions (set_session_keys key) q g c = opened key g c (ap (λ z. by_session (kind_asked z)) (sym q))
  accepted_sessions expire_session_keys q g c = expired g
  accepted_sessions (grant_ownership hash) q g c = unchanged _ g refl (λ other h. let z : ◌≡◌ {A = ℕ} 0 1 = cc in absurd (omega arith))
  accepted_sessions (revoke_ownership hash) q g c = unchanged _ g refl (λ other h. let z : ◌≡◌ {A = ℕ} 0 1 = cc in absurd (omega arith))
  accepted_sessions (add_entry entry) q g c = unchanged _ g refl (λ other h. let z : ◌≡◌ {A = ℕ} 0 1 = cc in absurd (omega arith))
  accepted_sessions (delete_entry entry) q g c = unchanged _ g refl (λ other h. let z : ◌≡◌ {A = ℕ} 0 1 = cc in absurd (omega arith))
  accepted_sessions (cache_certificate certificate bytes tag) q g c = unchanged _ g refl (λ other h. let z : ◌≡◌ {A = ℕ} 0 1 = cc in absurd (omega arith))
  accepted_sessions factory_security_reset q g c = emptied g
  accepted_sessions (perform name payload) q g c = unchanged _ g refl (λ other h. let z : ◌≡◌ {A = ℕ} 0 1 = cc in absurd (omega arith))

  pub sessions_step : (b : Bool) → granted e ≡ granted_in b (Ok asked) → (b ≡ true → Consumed e) → SessionsOk (e ∷ past) base' (cond b (sessions_after (signed_of e.delivery) asked after) after)
  sessions_step true g c = accepted_sessions asked refl g (c refl)
  sessions_step false g c = unchanged None g refl (λ other h. let z : ◌≡◌ {A = ℕ} 0 1 = cc in absurd (omega arith))

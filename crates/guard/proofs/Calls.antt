-- From what the parts of a call promise to the machine's step.
use Rattle.std.proofs.Common.{◌≡◌, ℕ, ◌+◌, ◌<◌, Bool, true, false, cond, not, ◌&&◌, eqb, ltb, List, [], length, Some, None, Ok, Err, Option, Result, MatchOption, sym, refl, ap, subst, ◌∙◌, arith}
use Rattle.std.proofs.lemmas.Bool.{ltb-true, true≢false}
use Rattle.refusal.specs.declared.Refusal.{Refusal}
use Rattle.refusal.specs.declared.Refusal.TheVariants.{BadTag, OtherBase, BaseExhausted}
use Rattle.wire.specs.declared.types.Kind.{Kind}
use Rattle.sessions.specs.Opened.{used_at, with_last}
use Rattle.std.specs.List.{position}
use Rattle.parties.specs.Commands.{Command}
use Rattle.actions.specs.Arguments.{Arguments}
use Rattle.machine.specs.Lists.{first_of, with_first}
use Rattle.machine.specs.Requests.{Delivery, Presented, Signed, signed_from, presented, reading_in, reading, kind_asked}
use Rattle.machine.specs.Machine.{State, Answer, accepted, is_accepted, is_consumed, passing, by_session, signs, largest, screened_by_session, screened_by_key, screened, decided, base_after, number_used, owners_after, entries_after, certificates_after, sessions_after, command_asked, done_after, last_after}
use Rattle.machine.specs.History.{Making}
use Rattle.machine.specs.Law.{start}
use Rattle.machine.proofs.Judging.{passed, screened_facts}
use Rattle.machine.proofs.Lawfulness.{lawful_always}
use Rattle.requests.specs.Received.{Received, with_signed, received_in}
use Rattle.guard.specs.declared.types.Guard.{Guard}
use Rattle.guard.specs.View.{view, alone, opened_as, taken_of, taken_as, taken, Acted}
use Rattle.guard.specs.Call.{Stepped, Begins}
use Rattle.guard.proofs.Finding.{used_is_with_first, length-with_first}
use Rattle.guard.proofs.Steps.{SameTables, same_decision}
use Rattle.guard.proofs.Delivering.{state_same, unread, screened_out, decided_on}

-- ## The making

pub begins : (device password : List ℕ) (base done : ℕ) (last : Option Command) (s : State)
    → s.device ≡ device → s.password ≡ password → s.base ≡ base → s.owners ≡ [] → s.entries ≡ [] → s.certificates ≡ [] → s.sessions ≡ [] → s.done ≡ done → s.last ≡ last
    → Begins device password base done last s
begins device password base done last s e1 e2 e3 e4 e5 e6 e7 e8 e9 =
    let m : Making = record { device = device; password = password; base = base; done = done; last = last } in
    record {
      lived = record { came = tt; here = state_same (start m) s (record { device = sym e1; password = sym e2; base = sym e3; owners = sym e4; entries = sym e5; certificates = sym e6; sessions = sym e7; done = sym e8; last = sym e9 }) };
      lawful = lawful_always m [] tt;
    }

-- ## What was received

unread_of : (q : Signed) (why : Refusal) (r : Result Arguments Refusal) → Err why ≡ with_signed q r → r ≡ Err why
unread_of q why (Err w) e = cc
unread_of q why (Ok a) e = let z : ◌≡◌ {A = ℕ} 0 1 = cc in absurd (omega arith)

pub not_read : (ws wp : ℕ) (bytes : List ℕ) (why : Refusal) → Err why ≡ received_in ws wp bytes → reading_in ws wp bytes ≡ Err why
not_read ws wp bytes why e = unread_of (signed_from bytes) why (reading_in ws wp bytes) e

read_of : (p q : Signed) (asked : Arguments) (r : Result Arguments Refusal) → Ok (record { signed = q; asked = asked }) ≡ with_signed p r → (r ≡ Ok asked) × (q ≡ p)
read_of p q asked (Err w) e = let z : ◌≡◌ {A = ℕ} 0 1 = cc in absurd (omega arith)
read_of p q asked (Ok a) e =
    let f : ◌≡◌ {A = Received} (record { signed = q; asked = asked }) (record { signed = p; asked = a }) = cc in
    (ap {B = Result Arguments Refusal} (λ z. Ok z.asked) (sym f), ap (λ z. z.signed) f)

-- ## One delivery

module _ (g : Guard) (n : ℕ) (l : Option Command) (d : Delivery) (verdict : Command → Bool) where
  abbrev s : State
  s = view g n l

  abbrev bytes : List ℕ
  bytes = d.envelope

  abbrev y : Bool
  y = taken verdict d

  pub refused_unread : (why : Refusal) → Err why ≡ received_in d.session.width d.public.width bytes → (r : Answer) → r ≡ Err why → Stepped s d y r s
  refused_unread why e r a = subst (λ z. Stepped s d y z s) (sym a) (unread s d y why (not_read d.session.width d.public.width bytes why e))

  module _ (q : Signed) (asked : Arguments) (kind : Kind) (read : Ok (record { signed = q; asked = asked }) ≡ received_in d.session.width d.public.width bytes) (is : kind ≡ kind_asked asked) where
    reads : reading d ≡ Ok asked
    reads = (read_of (signed_from bytes) q asked (reading_in d.session.width d.public.width bytes) read).0

    signed : q ≡ signed_from bytes
    signed = (read_of (signed_from bytes) q asked (reading_in d.session.width d.public.width bytes) read).1

    -- screening does not read the service
    same_screen : (p : Presented) (k : Kind) → screened (alone g) p k ≡ screened s p k
    unfolding screened
    same_screen p k = refl

    screen_is : screened (alone g) (opened_as q d) kind ≡ screened s (presented d) (kind_asked asked)
    screen_is = same_screen (opened_as q d) kind ∙ (ap (λ z. screened s (opened_as z d) kind) signed ∙ ap (screened s (presented d)) is)

    pub refused_screened : (why : Refusal) → Err why ≡ screened (alone g) (opened_as q d) kind → (r : Answer) → r ≡ Err why → Stepped s d y r s
    refused_screened why e r a = subst (λ z. Stepped s d y z s) (sym a) (screened_out s d y asked reads why (sym (e ∙ screen_is)))

    module _ (pass : accepted ≡ screened (alone g) (opened_as q d) kind) where
      passes : accepted ≡ screened s (presented d) (kind_asked asked)
      passes = pass ∙ screen_is

      base_of_key : (k : Bool) → k ≡ false → is_consumed (cond k (screened_by_session (presented d) (first_of (signs (signed_from bytes)) s.sessions)) (screened_by_key s.base (presented d))) ≡ true → g.base < largest
      base_of_key true e h = absurd (let z : ◌≡◌ {A = ℕ} 0 1 = cc in omega arith)
      base_of_key false e h =
          let p = presented d in
          let three = passing (ltb g.base largest) BaseExhausted accepted in
          let one = passed (p.public.stands p.signed.signer p.signed.text p.signed.tag) BadTag (passing (eqb p.signed.key_number g.base) OtherBase three) refl h in
          let two = passed (eqb p.signed.key_number g.base) OtherBase three refl one.1 in
          ltb-true g.base largest (passed (ltb g.base largest) BaseExhausted accepted refl two.1).0

      unused : by_session kind ≡ false → g.base < largest
      unused k = base_of_key (by_session (kind_asked asked)) (ap by_session (sym is) ∙ k) (screened_facts s d (kind_asked asked) (ap is_consumed (sym passes))).signed

      pub base_left : (o : Option ℕ) → MatchOption o (by_session kind ≡ false) (λ i. (by_session kind ≡ true) × (position (signs q) g.sessions ≡ Some i)) → o ≡ None → g.base < largest
      base_left None k e = unused k
      base_left (Some i) p e = absurd (let z : ◌≡◌ {A = ℕ} 0 1 = cc in omega arith)

      -- what was used up
      module _ (g1 : Guard) (place : Option ℕ) (placed : MatchOption place (by_session kind ≡ false) (λ i. (by_session kind ≡ true) × (position (signs q) g.sessions ≡ Some i)))
          (used : MatchOption place (g1.sessions ≡ g.sessions) (λ i. g1.sessions ≡ used_at g.sessions i q.number))
          (raised : MatchOption place (g1.base ≡ g.base + 1) (λ _. g1.base ≡ g.base))
          (kept-rest : (g1.device ≡ g.device) × (g1.password ≡ g.password) × (g1.owners ≡ g.owners) × (g1.entries ≡ g.entries) × (g1.certificates ≡ g.certificates)) where
        used_by : (o : Option ℕ) (k : Bool) → by_session kind ≡ k → MatchOption o (by_session kind ≡ false) (λ i. (by_session kind ≡ true) × (position (signs q) g.sessions ≡ Some i))
            → MatchOption o (g1.sessions ≡ g.sessions) (λ i. g1.sessions ≡ used_at g.sessions i q.number)
            → g1.sessions ≡ cond (true && k) (with_first (signs q) (with_last q.number) g.sessions) g.sessions
        used_by None true e p u = absurd (true≢false (sym e ∙ p))
        used_by None false e p u = u
        used_by (Some i) true e p u = u ∙ used_is_with_first (signs q) g.sessions i q.number p.1
        used_by (Some i) false e p u = absurd (true≢false (sym p.0 ∙ e))

        sessions_used_now : g1.sessions ≡ number_used true (kind_asked asked) (signed_from bytes) g.sessions
        sessions_used_now = used_by place (by_session kind) refl placed used ∙ (ap (λ z. number_used true kind z g.sessions) signed ∙ ap (λ z. number_used true z (signed_from bytes) g.sessions) is)

        raised_by : (o : Option ℕ) (k : Bool) → by_session kind ≡ k → MatchOption o (by_session kind ≡ false) (λ i. (by_session kind ≡ true) × (position (signs q) g.sessions ≡ Some i))
            → MatchOption o (g1.base ≡ g.base + 1) (λ _. g1.base ≡ g.base) → g1.base ≡ cond (true && not k) (g.base + 1) g.base
        raised_by None true e p u = absurd (true≢false (sym e ∙ p))
        raised_by None false e p u = u
        raised_by (Some i) true e p u = u
        raised_by (Some i) false e p u = absurd (true≢false (sym p.0 ∙ e))

        base_raised : g1.base ≡ base_after true (kind_asked asked) g.base
        base_raised = raised_by place (by_session kind) refl placed raised ∙ ap (λ z. base_after true z g.base) is

        length-used : (k : Bool) → length (cond (true && k) (with_first (signs (signed_from bytes)) (with_last (signed_from bytes).number) (g.sessions)) (g.sessions)) ≡ length (g.sessions)
        length-used true = length-with_first (signs (signed_from bytes)) (with_last (signed_from bytes).number) (g.sessions)
        length-used false = refl

        tables_same : SameTables s (alone g1)
        tables_same = record {
          device = kept-rest.0;
          password = kept-rest.1;
          owners = kept-rest.2;
          entries = kept-rest.3;
          certificates = kept-rest.4;
          sessions = ap length sessions_used_now ∙ length-used (by_session (kind_asked asked));
        }

        taken_is : taken_of verdict (command_asked d.clock asked) ≡ y
        taken_is = sym (ap (taken_as verdict d) reads)

        pub delivered : (g2 : Guard) (r : Answer) (n2 : ℕ) (l2 : Option Command)
            → r ≡ decided (alone g1) (opened_as q d) (taken_of verdict (command_asked d.clock asked)) asked
            → Acted q asked r g1 g2
            → n2 ≡ cond (is_accepted r) (done_after (command_asked d.clock asked) n) n
            → l2 ≡ cond (is_accepted r) (last_after (command_asked d.clock asked) l) l
            → Stepped s d y r (view g2 n2 l2)
        delivered g2 r n2 l2 decision acted done last =
            decided_on s d y asked reads r (view g2 n2 l2) passes
            (decision
            ∙ (ap (λ z. decided (alone g1) (opened_as z d) (taken_of verdict (command_asked d.clock asked)) asked) signed
            ∙ (same_decision s (alone g1) tables_same (presented d) (taken_of verdict (command_asked d.clock asked)) asked
            ∙ ap (λ z. decided s (presented d) z asked) taken_is)))
            (acted.device ∙ kept-rest.0)
            (acted.password ∙ kept-rest.1)
            (acted.base ∙ base_raised)
            (acted.owners ∙ ap (λ z. cond (is_accepted r) (owners_after q asked z) z) kept-rest.2 ∙ ap (λ z. cond (is_accepted r) (owners_after z asked (g.owners)) (g.owners)) signed)
            (acted.entries ∙ ap (λ z. cond (is_accepted r) (entries_after asked z) z) kept-rest.3)
            (acted.certificates ∙ ap (λ z. cond (is_accepted r) (certificates_after asked z) z) kept-rest.4)
            (acted.sessions ∙ ap (λ z. cond (is_accepted r) (sessions_after q asked z) z) sessions_used_now ∙ ap (λ z. cond (is_accepted r) (sessions_after z asked (number_used true (kind_asked asked) (signed_from bytes) (g.sessions))) (number_used true (kind_asked asked) (signed_from bytes) (g.sessions))) signed)
            done
            last

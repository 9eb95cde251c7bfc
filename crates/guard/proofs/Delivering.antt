-- The three ways of a delivery are the machine's step, and so lawful after every history.
use Rattle.std.proofs.Common.{◌≡◌, ℕ, Bool, true, cond, List, ◌∷◌, Ok, Err, Option, sym, ap, ◌∙◌}
use Rattle.refusal.specs.declared.Refusal.{Refusal}
use Rattle.sessions.specs.declared.types.Session.{Session}
use Rattle.parties.specs.Commands.{Command}
use Rattle.records.specs.declared.types.Entry.{Entry}
use Rattle.records.specs.declared.types.Certificate.{Certificate}
use Rattle.actions.specs.Arguments.{Arguments}
use Rattle.machine.specs.Requests.{Delivery, presented, signed_of, reading, kind_asked}
use Rattle.machine.specs.Machine.{State, Answer, accepted, is_accepted, is_consumed, and_then, screened, decided, judged, answer, owners_after, entries_after, certificates_after, sessions_after, base_after, number_used, command_asked, done_after, last_after, changed_by, changed}
use Rattle.machine.specs.Law.{Came}
use Rattle.machine.proofs.Lawfulness.{lawful_always}
use Rattle.guard.specs.Call.{Stepped, event, LawfulOn}
use Rattle.guard.proofs.Steps.{screened_early, decided_late}

-- ## A state by its fields

state_of : List ℕ → List ℕ → ℕ → List (List ℕ) → List Entry → List Certificate → List Session → ℕ → Option Command → State
state_of d w b o e c s n l = record { device = d; password = w; base = b; owners = o; entries = e; certificates = c; sessions = s; done = n; last = l }

fields_same : {d d' w w' : List ℕ} {b b' : ℕ} {o o' : List (List ℕ)} {e e' : List Entry} {c c' : List Certificate} {s s' : List Session} {n n' : ℕ} {l l' : Option Command}
    → d ≡ d' → w ≡ w' → b ≡ b' → o ≡ o' → e ≡ e' → c ≡ c' → s ≡ s' → n ≡ n' → l ≡ l' → state_of d w b o e c s n l ≡ state_of d' w' b' o' e' c' s' n' l'
fields_same p1 p2 p3 p4 p5 p6 p7 p8 p9 = cc

pub record Fields (t u : State) : Type 0 where
  pub device : t.device ≡ u.device
  pub password : t.password ≡ u.password
  pub base : t.base ≡ u.base
  pub owners : t.owners ≡ u.owners
  pub entries : t.entries ≡ u.entries
  pub certificates : t.certificates ≡ u.certificates
  pub sessions : t.sessions ≡ u.sessions
  pub done : t.done ≡ u.done
  pub last : t.last ≡ u.last

pub state_same : (t u : State) → Fields t u → t ≡ u
unfolding state_of
state_same t u f = fields_same {d = t.device} {d' = u.device} {w = t.password} {w' = u.password} f.device f.password f.base f.owners f.entries f.certificates f.sessions f.done f.last

module _ (s : State) (d : Delivery) (taken : Bool) where
  -- ## What cannot be read

  pub unread : (why : Refusal) → reading d ≡ Err why → Stepped s d taken (Err why) s
  unfolding answer changed
  unread why e = record { answer_is = sym (ap (judged s d taken) e); after_is = sym (ap (changed_by s d (Err why)) e) }

  module _ (asked : Arguments) (reads : reading d ≡ Ok asked) where
    -- ## What is screened out

    -- the state after an answer that is not accepted, by whether it is consumed
    after_refusal : Bool → State
    after_refusal consumed = record {
      device = s.device;
      password = s.password;
      base = base_after consumed (kind_asked asked) s.base;
      owners = s.owners;
      entries = s.entries;
      certificates = s.certificates;
      sessions = number_used consumed (kind_asked asked) (signed_of d) s.sessions;
      done = s.done;
      last = s.last;
    }

    pub screened_out : (why : Refusal) → screened s (presented d) (kind_asked asked) ≡ Err why → Stepped s d taken (Err why) s
    unfolding answer changed after_refusal
    screened_out why e = record {
      answer_is = sym (ap (judged s d taken) reads ∙ ap (λ z. and_then z (decided s (presented d) taken asked)) e);
      after_is = ap after_refusal (sym (screened_early s (presented d) (kind_asked asked) why e)) ∙ sym (ap (changed_by s d (Err why)) reads);
    }

    -- ## What is decided

    -- the state after a decision, where what was decided is consumed
    after_decision : Answer → Bool → State
    after_decision r consumed = record {
      device = s.device;
      password = s.password;
      base = base_after consumed (kind_asked asked) s.base;
      owners = cond (is_accepted r) (owners_after (signed_of d) asked s.owners) s.owners;
      entries = cond (is_accepted r) (entries_after asked s.entries) s.entries;
      certificates = cond (is_accepted r) (certificates_after asked s.certificates) s.certificates;
      sessions = cond (is_accepted r) (sessions_after (signed_of d) asked (number_used consumed (kind_asked asked) (signed_of d) s.sessions)) (number_used consumed (kind_asked asked) (signed_of d) s.sessions);
      done = cond (is_accepted r) (done_after (command_asked d.clock asked) s.done) s.done;
      last = cond (is_accepted r) (last_after (command_asked d.clock asked) s.last) s.last;
    }

    pub decided_on : (r : Answer) (t : State) → accepted ≡ screened s (presented d) (kind_asked asked) → r ≡ decided s (presented d) taken asked
        → t.device ≡ s.device → t.password ≡ s.password
        → t.base ≡ base_after true (kind_asked asked) s.base
        → t.owners ≡ cond (is_accepted r) (owners_after (signed_of d) asked s.owners) s.owners
        → t.entries ≡ cond (is_accepted r) (entries_after asked s.entries) s.entries
        → t.certificates ≡ cond (is_accepted r) (certificates_after asked s.certificates) s.certificates
        → t.sessions ≡ cond (is_accepted r) (sessions_after (signed_of d) asked (number_used true (kind_asked asked) (signed_of d) s.sessions)) (number_used true (kind_asked asked) (signed_of d) s.sessions)
        → t.done ≡ cond (is_accepted r) (done_after (command_asked d.clock asked) s.done) s.done
        → t.last ≡ cond (is_accepted r) (last_after (command_asked d.clock asked) s.last) s.last
        → Stepped s d taken r t
    unfolding answer changed after_decision
    decided_on r t screen decision e1 e2 e3 e4 e5 e6 e7 e8 e9 = record {
      answer_is = decision ∙ sym (ap (judged s d taken) reads ∙ ap (λ z. and_then z (decided s (presented d) taken asked)) (sym screen));
      after_is =
          state_same t (after_decision r true) (record { device = e1; password = e2; base = e3; owners = e4; entries = e5; certificates = e6; sessions = e7; done = e8; last = e9 })
          ∙ (ap (after_decision r) (sym (ap is_consumed decision ∙ decided_late s (presented d) taken asked))
          ∙ sym (ap (changed_by s d r) reads));
    }

-- ## The law

pub lawful_on : (s : State) (d : Delivery) (taken : Bool) (r : Answer) (t : State) → Stepped s d taken r t → LawfulOn s d taken r t
lawful_on s d taken r t p past l =
    let came : Came past.making (event d taken r t ∷ past.events) = (
      l.came,
      p.answer_is ∙ ap (λ z. answer z d taken) (sym l.here),
      ap (λ z. z.done) p.after_is ∙ ap (λ z. (changed z d r).done) (sym l.here),
      ap (λ z. z.last) p.after_is ∙ ap (λ z. (changed z d r).last) (sym l.here),
    ) in
    (record { came = came; here = ap (λ z. changed z d r) l.here ∙ sym p.after_is }, lawful_always past.making (event d taken r t ∷ past.events) came)

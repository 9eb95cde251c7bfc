-- The law over every history that the machine can have.
use Rattle.std.specs.Prelude.{◌≡◌, ℕ, ◌+◌, ◌≤◌, Bool, true, false, ◌⊎◌, List, [], ◌∷◌, length, Some, None, Option, ◌≢◌}
use Rattle.parties.specs.Commands.{Command}
use Rattle.wire.specs.Envelope.{signer}
use Rattle.actions.specs.Arguments.{Arguments, Arguments.take_ownership, Arguments.set_session_keys, Arguments.expire_session_keys, Arguments.grant_ownership, Arguments.revoke_ownership, Arguments.add_entry, Arguments.delete_entry, Arguments.cache_certificate, Arguments.factory_security_reset, Arguments.perform}
use Rattle.machine.specs.Lists.{Member, Distinct}
use Rattle.machine.specs.Requests.{presented, time_of}
use Rattle.machine.specs.Delegation.{Authorised}
use Rattle.machine.specs.Machine.{State, answer, changed}
use Rattle.machine.specs.History.{Event, Making, History, signed_in, Consumed, granted, Owner, WellFormedPerform, Due, command_of, in_force}

-- # (a) The service does the due Performs, and nothing else

-- how many of the events are due Performs
abbrev pub Dues : List Event → ℕ → Type 0
Dues [] n = n ≡ 0
Dues (e ∷ past) n = (Due past e × ((k : ℕ) × Dues past k × (n ≡ k + 1))) ⊎ ((Due past e → ⊥) × Dues past n)

-- the last command is that of the latest due Perform, or, while there is none, what it was at the making
abbrev pub LatestDue : Option Command → List Event → Option Command → Type 0
LatestDue first [] last = last ≡ first
LatestDue first (e ∷ past) last = ((due : Due past e) × (last ≡ Some (command_of past e due))) ⊎ ((Due past e → ⊥) × LatestDue first past last)

abbrev pub done_now : Making → List Event → ℕ
done_now m [] = m.done
done_now m (e ∷ past) = e.done

abbrev pub last_now : Making → List Event → Option Command
last_now m [] = m.last
last_now m (e ∷ past) = e.last

-- # (b) A signed text is consumed once

abbrev pub NeverConsumed : List ℕ → List Event → Type 0
NeverConsumed text [] = Unit {0}
NeverConsumed text (e ∷ past) = (Consumed e → signed_in e ≢ text) × NeverConsumed text past

abbrev pub ConsumedOnce : List Event → Type 0
ConsumedOnce [] = Unit {0}
ConsumedOnce (e ∷ past) = (Consumed e → NeverConsumed (signed_in e) past) × ConsumedOnce past

-- # (c) Ownership

abbrev pub gained_by : Option Arguments → ℕ → ℕ
gained_by None n = n
gained_by (Some (take_ownership proof)) n = n + 1
gained_by (Some (set_session_keys key)) n = n
gained_by (Some expire_session_keys) n = n
gained_by (Some (grant_ownership hash)) n = n + 1
gained_by (Some (revoke_ownership hash)) n = n
gained_by (Some (add_entry entry)) n = n
gained_by (Some (delete_entry entry)) n = n
gained_by (Some (cache_certificate certificate bytes tag)) n = n
gained_by (Some factory_security_reset) n = 0
gained_by (Some (perform name payload)) n = n

abbrev pub lost_by : Option Arguments → ℕ → ℕ
lost_by None n = n
lost_by (Some (take_ownership proof)) n = n
lost_by (Some (set_session_keys key)) n = n
lost_by (Some expire_session_keys) n = n
lost_by (Some (grant_ownership hash)) n = n
lost_by (Some (revoke_ownership hash)) n = n + 1
lost_by (Some (add_entry entry)) n = n
lost_by (Some (delete_entry entry)) n = n
lost_by (Some (cache_certificate certificate bytes tag)) n = n
lost_by (Some factory_security_reset) n = 0
lost_by (Some (perform name payload)) n = n

abbrev pub owned_by : Option Arguments → Bool → Bool
owned_by None b = b
owned_by (Some (take_ownership proof)) b = true
owned_by (Some (set_session_keys key)) b = b
owned_by (Some expire_session_keys) b = b
owned_by (Some (grant_ownership hash)) b = b
owned_by (Some (revoke_ownership hash)) b = b
owned_by (Some (add_entry entry)) b = b
owned_by (Some (delete_entry entry)) b = b
owned_by (Some (cache_certificate certificate bytes tag)) b = b
owned_by (Some factory_security_reset) b = false
owned_by (Some (perform name payload)) b = b

-- takes and grants, and revocations, since the last reset or the making; and whether there was a take since then
abbrev pub gains : List Event → ℕ
gains [] = 0
gains (e ∷ past) = gained_by (granted e) (gains past)

abbrev pub losses : List Event → ℕ
losses [] = 0
losses (e ∷ past) = lost_by (granted e) (losses past)

abbrev pub is_owned : List Event → Bool
is_owned [] = false
is_owned (e ∷ past) = owned_by (granted e) (is_owned past)

pub record Ownership (events : List Event) : Type 0 where
  pub owners : List (List ℕ)
  pub distinct : Distinct owners
  pub exactly_the_owners : (hash : List ℕ) → (Member hash owners → Owner events hash) × (Owner events hash → Member hash owners)
  pub number : length owners + losses events ≡ gains events
  pub none_before_a_take : is_owned events ≡ false → length owners ≡ 0
  pub one_at_least_after_it : is_owned events ≡ true → 1 ≤ length owners
  pub eight_at_most : length owners ≤ 8

-- # The law

pub record Lawful (m : Making) (events : List Event) : Type 0 where
  pub dues : ℕ
  pub count : Dues events dues
  pub number_counts_the_due_performs : done_now m events ≡ m.done + dues
  pub last_is_the_latest_due_perform : LatestDue m.last events (last_now m events)
  pub every_text_is_consumed_once : ConsumedOnce events
  pub ownership : Ownership events

-- at the history and at each moment before, back to the making
abbrev pub AtEveryMoment : Making → List Event → Type 0
AtEveryMoment m [] = Lawful m []
AtEveryMoment m (e ∷ past) = Lawful m (e ∷ past) × AtEveryMoment m past

-- # Histories that the machine can have

abbrev pub start : Making → State
start m = record { device = m.device; password = m.password; base = m.base; owners = []; entries = []; certificates = []; sessions = []; done = m.done; last = m.last }

abbrev pub state_after : Making → List Event → State
state_after m [] = start m
state_after m (e ∷ past) = changed (state_after m past) e.delivery e.answer

abbrev pub Came : Making → List Event → Type 0
Came m [] = Unit {0}
Came m (e ∷ past) =
    Came m past
    × (e.answer ≡ answer (state_after m past) e.delivery e.taken)
    × (e.done ≡ (state_after m (e ∷ past)).done)
    × (e.last ≡ (state_after m (e ∷ past)).last)

-- the history came from the machine, which is now at s
pub record Lived (h : History) (s : State) : Type 0 where
  pub came : Came h.making h.events
  pub here : state_after h.making h.events ≡ s

-- # The theorems

abbrev pub TheLawHoldsAtEveryMoment : Type 0
TheLawHoldsAtEveryMoment = (h : History) (s : State) → Lived h s → AtEveryMoment h.making h.events

-- A hash that is no owner by the record, and that no applicable entry or chain authorises at the Perform's clock and name, has
-- no command done for it, whatever came before.
abbrev pub NoCommandIsDoneForWhoIsNotAuthorised : Type 0
NoCommandIsDoneForWhoIsNotAuthorised =
    (m : Making) (past : List Event) (e : Event) (s : State) (hash : List ℕ)
    → Lived (record { making = m; events = e ∷ past }) s
    → (p : WellFormedPerform e) → signer (signed_in e) ≡ hash
    → (Authorised (in_force past) (time_of (presented e.delivery)) p.name hash → ⊥)
    → (e.done ≡ done_now m past) × (e.last ≡ last_now m past)

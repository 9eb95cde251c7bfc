-- The service does the command that it is given and takes, and no other.
use Rattle.std.proofs.Common.{◌≡◌, Bool, true, false, cond, None, Ok, Err, Option, Result, refl}
use Rattle.refusal.specs.declared.Refusal.{Refusal}
use Rattle.refusal.specs.declared.Refusal.TheVariants.{NotAuthorised, NotTaken}
use Rattle.parties.specs.Commands.{Command}
use Rattle.wire.specs.Envelope.{signer}
use Rattle.actions.specs.Arguments.{Arguments, Arguments.take_ownership, Arguments.set_session_keys, Arguments.expire_session_keys, Arguments.grant_ownership, Arguments.revoke_ownership, Arguments.add_entry, Arguments.delete_entry, Arguments.cache_certificate, Arguments.factory_security_reset, Arguments.perform}
use Rattle.machine.specs.Requests.{Delivery, text_of, presented, time_of, reading, kind_asked}
use Rattle.machine.specs.Delegation.{authorised}
use Rattle.machine.specs.Machine.{State, tables_of, Answer, accepted, is_accepted, passing, and_then, screened, decided, judged, answer, command_asked, done_after, last_after, changed_by, changed, given_by, given, done_by, TheServiceDoesWhatItIsGivenAndTakes}

-- a command is done where the Perform is accepted
abbrev Same : {X : Type 0} → (Option Command → X → X) → Answer → Answer → Bool → Option Command → X → Type 0
Same f one other taken c x = cond (is_accepted one) (f c x) x ≡ f (done_by taken (cond (is_accepted other) c None)) x

-- no command at all
none_given : {X : Type 0} (f : Option Command → X → X) → ((x : X) → f None x ≡ x) → (a b taken : Bool) (x : X) → cond a (f None x) x ≡ f (done_by taken (cond b None None)) x
none_given f same true true true x = refl
none_given f same true true false x = refl
none_given f same true false true x = refl
none_given f same true false false x = refl
none_given f same false true true x = cc (same x)
none_given f same false true false x = cc (same x)
none_given f same false false true x = cc (same x)
none_given f same false false false x = cc (same x)

-- a Perform, by whether it is authorised and taken
perform_given : {X : Type 0} (f : Option Command → X → X) → ((x : X) → f None x ≡ x) → (screen : Answer) (may taken : Bool) (c : Option Command) (x : X)
    → Same f (and_then screen (passing may NotAuthorised (passing taken NotTaken accepted))) (and_then screen (passing may NotAuthorised (passing true NotTaken accepted))) taken c x
perform_given f same (Ok u) true true c x = refl
perform_given f same (Ok u) true false c x = cc (same x)
perform_given f same (Ok u) false true c x = cc (same x)
perform_given f same (Ok u) false false c x = cc (same x)
perform_given f same (Err why) may true c x = cc (same x)
perform_given f same (Err why) may false c x = cc (same x)

module _ {X : Type 0} (f : Option Command → X → X) (same : (x : X) → f None x ≡ x) (s : State) (d : Delivery) (taken : Bool) (x : X) where
  given_asked : (a : Arguments) → Same f (and_then (screened s (presented d) (kind_asked a)) (decided s (presented d) taken a)) (and_then (screened s (presented d) (kind_asked a)) (decided s (presented d) true a)) taken (command_asked d.clock a) x
  given_asked (take_ownership proof) = none_given f same _ _ taken x
  given_asked (set_session_keys key) = none_given f same _ _ taken x
  given_asked expire_session_keys = none_given f same _ _ taken x
  given_asked (grant_ownership hash) = none_given f same _ _ taken x
  given_asked (revoke_ownership hash) = none_given f same _ _ taken x
  given_asked (add_entry entry) = none_given f same _ _ taken x
  given_asked (delete_entry entry) = none_given f same _ _ taken x
  given_asked (cache_certificate certificate bytes tag) = none_given f same _ _ taken x
  given_asked factory_security_reset = none_given f same _ _ taken x
  given_asked (perform name payload) = perform_given f same (screened s (presented d) (kind_asked (perform name payload))) (authorised (tables_of s) (time_of (presented d)) name (signer (text_of d))) taken (command_asked d.clock (perform name payload)) x

unread_given : {X : Type 0} (f : Option Command → X → X) → ((x : X) → f None x ≡ x) → (taken : Bool) (x : X) → x ≡ f (done_by taken None) x
unread_given f same true x = cc (same x)
unread_given f same false x = cc (same x)

given_read : (s : State) (d : Delivery) (taken : Bool) (r : Result Arguments Refusal)
    → ((changed_by s d (judged s d taken r) r).done ≡ done_after (done_by taken (given_by s d r)) s.done) × ((changed_by s d (judged s d taken r) r).last ≡ last_after (done_by taken (given_by s d r)) s.last)
given_read s d taken (Err why) = (unread_given done_after (λ x. refl) taken s.done, unread_given last_after (λ x. refl) taken s.last)
given_read s d taken (Ok asked) = (given_asked done_after (λ x. refl) s d taken s.done asked, given_asked last_after (λ x. refl) s d taken s.last asked)

pub the_service_does_what_it_is_given_and_takes : TheServiceDoesWhatItIsGivenAndTakes
unfolding answer changed given
the_service_does_what_it_is_given_and_takes s d taken = given_read s d taken (reading d)

-- The example: that the machine can have it, by computing, and what is due in it, by the law's lemmas.
use Rattle.std.proofs.Common.{◌≡◌, ℕ, Bool, true, false, List, [], ◌∷◌, Ok, sym, refl, ap, ◌∙◌, subst, inl, inr}
use Rattle.std.proofs.lemmas.Bool.{true≢false}
use Rattle.permission.specs.Reading.{text_in, set_in, term_of, covering}
use Rattle.permission.specs.Names.{IsName}
use Rattle.permission.proofs.Names.{is_name_decides}
use Rattle.keyhash.specs.Base64.{text, spelled}
use Rattle.keyhash.specs.Numeral.{numeral}
use Rattle.keyhash.specs.Element.{element, opening, closing, reading_element}
use Rattle.records.specs.declared.types.Certificate.{Certificate}
use Rattle.records.specs.Records.{big_endian, entry, entry_in, certificate_in, entry_bytes, certificate_bytes, scope_in, scope_bytes}
use Rattle.records.specs.Applicability.{applicable, Applicable}
use Rattle.records.specs.Equality.{same_entry, same_certificate}
use Rattle.records.proofs.Applying.{test_decides_for_names}
use Rattle.wire.specs.Envelope.{sound_header, arguments, signed_text, tag, kind_of, number_at, signer, places_agree, sound_of_kind}
use Rattle.wire.specs.Writing.{front_bytes, signed_text_of}
use Rattle.actions.specs.Codes.{action_of}
use Rattle.actions.specs.Arguments.{Arguments.perform, bytes_in, nothing_in, caching_of, caching_in, performing_of, perform_in}
use Rattle.machine.specs.Lists.{Member}
use Rattle.machine.specs.Delegation.{Entered, is_owner, is_entered, authorised, delegates, kept_in}
use Rattle.machine.specs.Requests.{reading_in, reading}
use Rattle.machine.specs.Machine.{tables_of, is_accepted, answer, changed, screened}
use Rattle.machine.specs.History.{Making, Owner, CertificateInForce, in_force, Due}
use Rattle.machine.specs.Law.{done_now, state_after, Came}
use Rattle.machine.specs.Example.{Attempt, played, sealed, key, scope, making, to_agent, to_guest, opened_by_owner, owner_switches, opened_by_tenant, tenant_switches, cached_by_guest, guest_switches, opened_by_partner, partner_switches, revoked_by_owner, partner_tries_again, whole, past, event_after, name, AnExampleShowsWhatIsDue}
use Rattle.machine.proofs.Delegating.{is_owner_decides, entered_decides}
use Rattle.machine.proofs.Performing.{TablesAgree, in_force_included, entered_included, done_is_due, due_is_done}
use Rattle.machine.proofs.Lawfulness.{tables_after}

-- ## Whatever is played came from the machine

pub came_played : (m : Making) (attempts : List Attempt) → Came m (played m attempts)
unfolding played
came_played m [] = tt
came_played m (a ∷ earlier) = (came_played m earlier, refl, refl, refl)

agreeing : (earlier : List Attempt) → TablesAgree (past earlier) (state_after making (past earlier))
agreeing earlier = tables_after making (past earlier) (came_played making earlier)

-- ## From what the machine answers to what is due

due_by : (earlier : List Attempt) (a : Attempt) → reading a.delivery ≡ Ok (perform name (0 ∷ 1 ∷ [])) → is_accepted (event_after earlier a).answer ≡ true → Due (past earlier) (event_after earlier a)
due_by earlier a reads h = done_is_due (past earlier) (state_after making (past earlier)) (agreeing earlier) (event_after earlier a) refl name (0 ∷ 1 ∷ []) reads h

not_due_by : (earlier : List Attempt) (a : Attempt) → reading a.delivery ≡ Ok (perform name (0 ∷ 1 ∷ [])) → is_accepted (event_after earlier a).answer ≡ false → Due (past earlier) (event_after earlier a) → ⊥
not_due_by earlier a reads h due = true≢false (sym (due_is_done (past earlier) (state_after making (past earlier)) (agreeing earlier) (event_after earlier a) refl name (0 ∷ 1 ∷ []) reads due) ∙ h)

owner_by : (earlier : List Attempt) (h : List ℕ) → is_owner (state_after making (past earlier)).owners h ≡ true → Owner (past earlier) h
owner_by earlier h e = (agreeing earlier).owners.only h ((is_owner_decides (state_after making (past earlier)).owners h).0 e)

no_owner_by : (earlier : List Attempt) (h : List ℕ) → is_owner (state_after making (past earlier)).owners h ≡ false → Owner (past earlier) h → ⊥
no_owner_by earlier h e o = true≢false (sym ((is_owner_decides (state_after making (past earlier)).owners h).1 ((agreeing earlier).owners.all h o)) ∙ e)

-- ## By computing

reads_owner : reading owner_switches.delivery ≡ Ok (perform name (0 ∷ 1 ∷ []))
unfolding played answer changed reading_in sound_header arguments signed_text tag kind_of number_at signer places_agree sound_of_kind action_of bytes_in nothing_in caching_of caching_in performing_of perform_in screened sealed signed_text_of front_bytes big_endian reading_element element opening closing text spelled numeral entry_in certificate_in entry_bytes certificate_bytes scope_in scope_bytes term_of text_in set_in covering applicable authorised delegates same_entry same_certificate
reads_owner = refl

reads_tenant : reading tenant_switches.delivery ≡ Ok (perform name (0 ∷ 1 ∷ []))
unfolding played answer changed reading_in sound_header arguments signed_text tag kind_of number_at signer places_agree sound_of_kind action_of bytes_in nothing_in caching_of caching_in performing_of perform_in screened sealed signed_text_of front_bytes big_endian reading_element element opening closing text spelled numeral entry_in certificate_in entry_bytes certificate_bytes scope_in scope_bytes term_of text_in set_in covering applicable authorised delegates same_entry same_certificate
reads_tenant = refl

reads_guest : reading guest_switches.delivery ≡ Ok (perform name (0 ∷ 1 ∷ []))
unfolding played answer changed reading_in sound_header arguments signed_text tag kind_of number_at signer places_agree sound_of_kind action_of bytes_in nothing_in caching_of caching_in performing_of perform_in screened sealed signed_text_of front_bytes big_endian reading_element element opening closing text spelled numeral entry_in certificate_in entry_bytes certificate_bytes scope_in scope_bytes term_of text_in set_in covering applicable authorised delegates same_entry same_certificate
reads_guest = refl

reads_partner : reading partner_switches.delivery ≡ Ok (perform name (0 ∷ 1 ∷ []))
unfolding played answer changed reading_in sound_header arguments signed_text tag kind_of number_at signer places_agree sound_of_kind action_of bytes_in nothing_in caching_of caching_in performing_of perform_in screened sealed signed_text_of front_bytes big_endian reading_element element opening closing text spelled numeral entry_in certificate_in entry_bytes certificate_bytes scope_in scope_bytes term_of text_in set_in covering applicable authorised delegates same_entry same_certificate
reads_partner = refl

reads_again : reading partner_tries_again.delivery ≡ Ok (perform name (0 ∷ 1 ∷ []))
unfolding played answer changed reading_in sound_header arguments signed_text tag kind_of number_at signer places_agree sound_of_kind action_of bytes_in nothing_in caching_of caching_in performing_of perform_in screened sealed signed_text_of front_bytes big_endian reading_element element opening closing text spelled numeral entry_in certificate_in entry_bytes certificate_bytes scope_in scope_bytes term_of text_in set_in covering applicable authorised delegates same_entry same_certificate
reads_again = refl

accepts_owner : is_accepted (event_after opened_by_owner owner_switches).answer ≡ true
unfolding played answer changed reading_in sound_header arguments signed_text tag kind_of number_at signer places_agree sound_of_kind action_of bytes_in nothing_in caching_of caching_in performing_of perform_in screened sealed signed_text_of front_bytes big_endian reading_element element opening closing text spelled numeral entry_in certificate_in entry_bytes certificate_bytes scope_in scope_bytes term_of text_in set_in covering applicable authorised delegates same_entry same_certificate
accepts_owner = refl

accepts_tenant : is_accepted (event_after opened_by_tenant tenant_switches).answer ≡ true
unfolding played answer changed reading_in sound_header arguments signed_text tag kind_of number_at signer places_agree sound_of_kind action_of bytes_in nothing_in caching_of caching_in performing_of perform_in screened sealed signed_text_of front_bytes big_endian reading_element element opening closing text spelled numeral entry_in certificate_in entry_bytes certificate_bytes scope_in scope_bytes term_of text_in set_in covering applicable authorised delegates same_entry same_certificate
accepts_tenant = refl

accepts_guest : is_accepted (event_after cached_by_guest guest_switches).answer ≡ true
unfolding played answer changed reading_in sound_header arguments signed_text tag kind_of number_at signer places_agree sound_of_kind action_of bytes_in nothing_in caching_of caching_in performing_of perform_in screened sealed signed_text_of front_bytes big_endian reading_element element opening closing text spelled numeral entry_in certificate_in entry_bytes certificate_bytes scope_in scope_bytes term_of text_in set_in covering applicable authorised delegates same_entry same_certificate
accepts_guest = refl

accepts_partner : is_accepted (event_after opened_by_partner partner_switches).answer ≡ true
unfolding played answer changed reading_in sound_header arguments signed_text tag kind_of number_at signer places_agree sound_of_kind action_of bytes_in nothing_in caching_of caching_in performing_of perform_in screened sealed signed_text_of front_bytes big_endian reading_element element opening closing text spelled numeral entry_in certificate_in entry_bytes certificate_bytes scope_in scope_bytes term_of text_in set_in covering applicable authorised delegates same_entry same_certificate
accepts_partner = refl

refuses_partner : is_accepted (event_after revoked_by_owner partner_tries_again).answer ≡ false
unfolding played answer changed reading_in sound_header arguments signed_text tag kind_of number_at signer places_agree sound_of_kind action_of bytes_in nothing_in caching_of caching_in performing_of perform_in screened sealed signed_text_of front_bytes big_endian reading_element element opening closing text spelled numeral entry_in certificate_in entry_bytes certificate_bytes scope_in scope_bytes term_of text_in set_in covering applicable authorised delegates same_entry same_certificate
refuses_partner = refl

-- who is an owner when
owners_first : (state_after making (past opened_by_owner)).owners ≡ key 1 ∷ []
unfolding played answer changed reading_in sound_header arguments signed_text tag kind_of number_at signer places_agree sound_of_kind action_of bytes_in nothing_in caching_of caching_in performing_of perform_in screened sealed signed_text_of front_bytes big_endian reading_element element opening closing text spelled numeral entry_in certificate_in entry_bytes certificate_bytes scope_in scope_bytes term_of text_in set_in covering applicable authorised delegates same_entry same_certificate
owners_first = refl

owners_tenant : (state_after making (past opened_by_tenant)).owners ≡ key 1 ∷ []
unfolding played answer changed reading_in sound_header arguments signed_text tag kind_of number_at signer places_agree sound_of_kind action_of bytes_in nothing_in caching_of caching_in performing_of perform_in screened sealed signed_text_of front_bytes big_endian reading_element element opening closing text spelled numeral entry_in certificate_in entry_bytes certificate_bytes scope_in scope_bytes term_of text_in set_in covering applicable authorised delegates same_entry same_certificate
owners_tenant = refl

owners_guest : (state_after making (past cached_by_guest)).owners ≡ key 1 ∷ []
unfolding played answer changed reading_in sound_header arguments signed_text tag kind_of number_at signer places_agree sound_of_kind action_of bytes_in nothing_in caching_of caching_in performing_of perform_in screened sealed signed_text_of front_bytes big_endian reading_element element opening closing text spelled numeral entry_in certificate_in entry_bytes certificate_bytes scope_in scope_bytes term_of text_in set_in covering applicable authorised delegates same_entry same_certificate
owners_guest = refl

owners_last : (state_after making (past revoked_by_owner)).owners ≡ key 1 ∷ []
unfolding played answer changed reading_in sound_header arguments signed_text tag kind_of number_at signer places_agree sound_of_kind action_of bytes_in nothing_in caching_of caching_in performing_of perform_in screened sealed signed_text_of front_bytes big_endian reading_element element opening closing text spelled numeral entry_in certificate_in entry_bytes certificate_bytes scope_in scope_bytes term_of text_in set_in covering applicable authorised delegates same_entry same_certificate
owners_last = refl

entries_tenant : (state_after making (past opened_by_tenant)).entries ≡ entry (key 2) (scope false) ∷ []
unfolding played answer changed reading_in sound_header arguments signed_text tag kind_of number_at signer places_agree sound_of_kind action_of bytes_in nothing_in caching_of caching_in performing_of perform_in screened sealed signed_text_of front_bytes big_endian reading_element element opening closing text spelled numeral entry_in certificate_in entry_bytes certificate_bytes scope_in scope_bytes term_of text_in set_in covering applicable authorised delegates same_entry same_certificate
entries_tenant = refl

entries_guest : (state_after making (past cached_by_guest)).entries ≡ entry (key 2) (scope false) ∷ []
unfolding played answer changed reading_in sound_header arguments signed_text tag kind_of number_at signer places_agree sound_of_kind action_of bytes_in nothing_in caching_of caching_in performing_of perform_in screened sealed signed_text_of front_bytes big_endian reading_element element opening closing text spelled numeral entry_in certificate_in entry_bytes certificate_bytes scope_in scope_bytes term_of text_in set_in covering applicable authorised delegates same_entry same_certificate
entries_guest = refl

certificates_guest : (state_after making (past cached_by_guest)).certificates ≡ to_agent ∷ to_guest ∷ []
unfolding played answer changed reading_in sound_header arguments signed_text tag kind_of number_at signer places_agree sound_of_kind action_of bytes_in nothing_in caching_of caching_in performing_of perform_in screened sealed signed_text_of front_bytes big_endian reading_element element opening closing text spelled numeral entry_in certificate_in entry_bytes certificate_bytes scope_in scope_bytes term_of text_in set_in covering applicable authorised delegates same_entry same_certificate
certificates_guest = refl

four : done_now making (past whole) ≡ 4
unfolding played answer changed reading_in sound_header arguments signed_text tag kind_of number_at signer places_agree sound_of_kind action_of bytes_in nothing_in caching_of caching_in performing_of perform_in screened sealed signed_text_of front_bytes big_endian reading_element element opening closing text spelled numeral entry_in certificate_in entry_bytes certificate_bytes scope_in scope_bytes term_of text_in set_in covering applicable authorised delegates same_entry same_certificate
four = refl

applies_either : (flag : Bool) → applicable (scope flag) 50 name ≡ true
unfolding applicable covering term_of set_in text_in
applies_either flag = refl

enters_nobody_else : is_entered (entry (key 2) (scope false) ∷ []) 50 name (key 4) ≡ false
enters_nobody_else = refl

-- ## What the example shows

named : IsName name
named = (is_name_decides name).0 refl

applies : (flag : Bool) → Applicable (scope flag) 50 name
applies flag = (test_decides_for_names (scope flag) 50 name named).0 (applies_either flag)

owner_of : (earlier : List Attempt) → (state_after making (past earlier)).owners ≡ key 1 ∷ [] → Owner (past earlier) (key 1)
owner_of earlier e = owner_by earlier (key 1) (ap (λ z. is_owner z (key 1)) e)

guest_link : (c : Certificate) → Member c (to_agent ∷ to_guest ∷ []) → CertificateInForce (past cached_by_guest) c
guest_link c i = (agreeing cached_by_guest).certificates.only c (subst (λ z. Member c z) (sym certificates_guest) i)

guest_not_entered : Entered (in_force (past cached_by_guest)) 50 name (key 4) → ⊥
guest_not_entered e =
    let s = state_after making (past cached_by_guest) in
    let kept = entered_included (in_force (past cached_by_guest)) (kept_in (tables_of s)) (in_force_included (past cached_by_guest) s (agreeing cached_by_guest)) 50 name (key 4) e in
    let found = (entered_decides (tables_of s) 50 name (λ x. test_decides_for_names x 50 name named) (key 4)).1 kept in
    true≢false (sym found ∙ (ap (λ z. is_entered z 50 name (key 4)) entries_guest ∙ enters_nobody_else))

pub an_example_shows_what_is_due : AnExampleShowsWhatIsDue
an_example_shows_what_is_due = record {
  the_machine_can_have_it = record { came = came_played making whole; here = refl };
  owner_is_one = owner_of opened_by_owner owners_first;
  owner_is_due = due_by opened_by_owner owner_switches reads_owner accepts_owner;
  tenant_is_no_owner = no_owner_by opened_by_tenant (key 2) (ap (λ z. is_owner z (key 2)) owners_tenant);
  tenant_is_entered = record { entry = entry (key 2) (scope false); held = (agreeing opened_by_tenant).entries.only (entry (key 2) (scope false)) (subst (λ z. Member (entry (key 2) (scope false)) z) (sym entries_tenant) (inl refl)); applies = applies false; subject = refl };
  tenant_is_due = due_by opened_by_tenant tenant_switches reads_tenant accepts_tenant;
  guest_is_no_owner = no_owner_by cached_by_guest (key 4) (ap (λ z. is_owner z (key 4)) owners_guest);
  guest_is_not_entered = guest_not_entered;
  guest_has_two_links = record {
    first = to_agent;
    second = to_guest;
    begins = owner_of cached_by_guest owners_guest;
    first_applies = (guest_link to_agent (inl refl), applies true);
    first_has_its_flag = refl;
    second_follows = refl;
    second_applies = (guest_link to_guest (inr (inl refl)), applies false);
    second_ends = refl;
  };
  guest_is_due = due_by cached_by_guest guest_switches reads_guest accepts_guest;
  partner_is_due = due_by opened_by_partner partner_switches reads_partner accepts_partner;
  revoked_partner_is_no_owner = no_owner_by revoked_by_owner (key 5) (ap (λ z. is_owner z (key 5)) owners_last);
  revoked_partner_is_not_due = not_due_by revoked_by_owner partner_tries_again reads_again refuses_partner;
  four_are_done = four;
}

-- The fields of an envelope are those of its signed text.
use Rattle.std.proofs.Common.{◌≡◌, ℕ, zero, suc, ◌+◌, ◌≤◌, Bool, true, false, cond, List, [], ◌∷◌, take, drop, Some, None, Ok, Err, Option, Result, MatchOption, sym, refl, ap, ◌∙◌, arith}
use Rattle.std.specs.Int.Digits.{number_from_digits}
use Rattle.std.proofs.lemmas.List.{take-take}
use Rattle.std.proofs.lemmas.Bool.{cond-true, cond-false}
use Rattle.refusal.specs.declared.Refusal.{Refusal}
use Rattle.refusal.specs.declared.Refusal.TheVariants.{Malformed, UnknownAction}
use Rattle.wire.specs.declared.types.Kind.{Kind}
use Rattle.wire.specs.declared.types.Kind.TheVariants.{Unmarked}
use Rattle.wire.specs.Envelope.{number_at, kind_of, kind_in, kind_or, action_code, signer, tag_place, signed_text, sound_header}
use Rattle.wire.specs.Header.{Header, header_of, header_in}
use Rattle.wire.proofs.Headers.{header_decided}
use Rattle.actions.specs.declared.types.Action.{Action}
use Rattle.actions.specs.Codes.{action_of}
use Rattle.actions.specs.Arguments.{Arguments, arguments_in}
use Rattle.machine.specs.Requests.{Signed, signed_from, or_malformed, asked_by, reading_in}
use Rattle.requests.specs.Received.{Received, with_signed, received_in}

within : (c p n : ℕ) (xs : List ℕ) → p + c ≤ n → take c (drop p (take n xs)) ≡ take c (drop p xs)
within c zero n xs l = take-take c n xs (omega arith)
within c (suc p) zero xs l = absurd (omega arith)
within c (suc p) (suc n) [] l = refl
within c (suc p) (suc n) (x ∷ xs) l = within c p n xs (omega arith)

kind_of_front : (n : ℕ) (b : List ℕ) → 1 ≤ n → kind_of (take n b) ≡ kind_of b
unfolding kind_of
kind_of_front zero b l = absurd (omega arith)
kind_of_front (suc n) [] l = refl
kind_of_front (suc n) (x ∷ xs) l = refl

module _ (ws wp : ℕ) (b : List ℕ) (sound : sound_header ws wp b ≡ true) where
  abbrev text : List ℕ
  text = signed_text b

  long : 46 ≤ tag_place b
  long = let w = (header_decided ws wp b).0 sound in omega (arith, w.arguments_follow_the_header, w.tag_follows_the_arguments)

  number_same : (place count : ℕ) → place + count ≤ 46 → number_at place count text ≡ number_at place count b
  unfolding number_at signed_text
  number_same place count l = let g = long in ap (number_from_digits 256) (within count place (tag_place b) b (omega arith))

  kind_same : kind_of text ≡ kind_of b
  unfolding signed_text
  kind_same = let g = long in kind_of_front (tag_place b) b (omega arith)

  signer_same : signer text ≡ signer b
  unfolding signer signed_text
  signer_same = let g = long in within 20 26 (tag_place b) b (omega arith)

  abbrev signed : Header → Signed
  signed h = record { kind = Some h.kind; control = h.control_number; key_number = h.key_number; number = h.sequence_number; signer = h.signer; text = h.signed_text.bytes; tag = h.tag.bytes }

  kind_known : Some (kind_in b) ≡ kind_of b
  kind_known = let w = (header_decided ws wp b).0 sound in ap {B = Option Kind} (λ z. Some (kind_or Unmarked z)) w.kind_is ∙ sym w.kind_is

  signed_is : signed (header_of b) ≡ signed_from b
  signed_is =
      let k = kind_known ∙ sym kind_same in
      let c = sym (number_same 2 2 (omega arith)) in
      let i = sym (number_same 14 8 (omega arith)) in
      let n = sym (number_same 22 4 (omega arith)) in
      let w = sym signer_same in
      cc

-- ## The ways of stage 1

module _ (ws wp : ℕ) (b : List ℕ) where
  sound_of : (h : Header) (t : Bool) → cond t (Ok (header_of b)) (Err Malformed) ≡ Ok h → (t ≡ true) × (header_of b ≡ h)
  sound_of h true e = (refl, cc)
  sound_of h false e = let z : ◌≡◌ {A = ℕ} 0 1 = cc in absurd (omega arith)

  header_found : (h : Header) → Ok h ≡ header_in ws wp b → (sound_header ws wp b ≡ true) × (header_of b ≡ h)
  unfolding header_in
  header_found h e = sound_of h (sound_header ws wp b) (sym e)

  unsound_of : (why : Refusal) (t : Bool) → cond t (Ok (header_of b)) (Err Malformed) ≡ Err why → t ≡ false
  unsound_of why true e = let z : ◌≡◌ {A = ℕ} 0 1 = cc in absurd (omega arith)
  unsound_of why false e = refl

  pub no_header : (why : Refusal) → Err why ≡ header_in ws wp b → Err why ≡ received_in ws wp b
  unfolding header_in reading_in
  no_header why e =
      let u = unsound_of why (sound_header ws wp b) (sym e) in
      let h = e ∙ cond-false (sound_header ws wp b) (Ok (header_of b)) (Err Malformed) u in
      let malformed : why ≡ Malformed = cc in
      ap Err malformed ∙ sym (ap (with_signed (signed_from b)) (cond-false (sound_header ws wp b) (asked_by ws wp b (action_of (action_code b))) (Err Malformed) u))

  read_as : (h : Header) → Ok h ≡ header_in ws wp b → reading_in ws wp b ≡ asked_by ws wp b (action_of h.action_code)
  unfolding reading_in
  read_as h e =
      let f = header_found h e in
      cond-true (sound_header ws wp b) (asked_by ws wp b (action_of (action_code b))) (Err Malformed) f.0 ∙ ap (λ z. asked_by ws wp b (action_of z.action_code)) f.1

  pub no_action : (h : Header) → Ok h ≡ header_in ws wp b → action_of h.action_code ≡ None → Err UnknownAction ≡ received_in ws wp b
  no_action h e n = sym (ap (with_signed (signed_from b)) (read_as h e ∙ ap (asked_by ws wp b) n))

  pub no_arguments : (h : Header) (action : Action) (why : Refusal) → Ok h ≡ header_in ws wp b → action_of h.action_code ≡ Some action → why ≡ Malformed → Err why ≡ arguments_in ws wp action h.arguments.bytes → Err why ≡ received_in ws wp b
  no_arguments h action why e a malformed r =
      let f = header_found h e in
      let g = r ∙ ap (λ z. arguments_in ws wp action z.arguments.bytes) (sym f.1) in
      ap Err malformed ∙ sym (ap (with_signed (signed_from b)) (read_as h e ∙ (ap (asked_by ws wp b) a ∙ ap or_malformed (sym g))))

  pub all_read : (h : Header) (action : Action) (asked : Arguments) → Ok h ≡ header_in ws wp b → action_of h.action_code ≡ Some action → Ok asked ≡ arguments_in ws wp action h.arguments.bytes
      → Ok (record { signed = record { kind = Some h.kind; control = h.control_number; key_number = h.key_number; number = h.sequence_number; signer = h.signer; text = h.signed_text.bytes; tag = h.tag.bytes }; asked = asked }) ≡ received_in ws wp b
  all_read h action asked e a r =
      let f = header_found h e in
      let g = r ∙ ap (λ z. arguments_in ws wp action z.arguments.bytes) (sym f.1) in
      let s = ap (signed ws wp b f.0) (sym f.1) ∙ signed_is ws wp b f.0 in
      ap {B = Result Received Refusal} (λ z. Ok (record { signed = z; asked = asked })) s
      ∙ sym (ap (with_signed (signed_from b)) (read_as h e ∙ (ap (asked_by ws wp b) a ∙ ap or_malformed (sym g))))

-- what the code reads, field by field
pub field_by_field : (h : Header) (asked : Arguments) (r : Result Received Refusal) {k : Kind} {c i n : ℕ} {w t g : List ℕ}
    → k ≡ h.kind → c ≡ h.control_number → i ≡ h.key_number → n ≡ h.sequence_number → w ≡ h.signer → t ≡ h.signed_text.bytes → g ≡ h.tag.bytes
    → Ok (record { signed = record { kind = Some h.kind; control = h.control_number; key_number = h.key_number; number = h.sequence_number; signer = h.signer; text = h.signed_text.bytes; tag = h.tag.bytes }; asked = asked }) ≡ r
    → Ok (record { signed = record { kind = Some k; control = c; key_number = i; number = n; signer = w; text = t; tag = g }; asked = asked }) ≡ r
field_by_field h asked r ek ec ei en ew et eg e = cc

-- the action that a code is read as, and the refusal where there is none
pub action_told : (code : ℕ) (o : Option Action) (action : Action) → action_of code ≡ o → MatchOption o (◌≡◌ {A = Result Action Refusal} (Ok action) (Err UnknownAction)) (λ a. ◌≡◌ {A = Result Action Refusal} (Ok action) (Ok a)) → action_of code ≡ Some action
action_told code None action is e = let z : ◌≡◌ {A = ℕ} 0 1 = cc in absurd (omega arith)
action_told code (Some a) action is e = cc

pub no_action_told : (code : ℕ) (o : Option Action) (why : Refusal) → action_of code ≡ o → MatchOption o (◌≡◌ {A = Result Action Refusal} (Err why) (Err UnknownAction)) (λ a. ◌≡◌ {A = Result Action Refusal} (Err why) (Ok a)) → (action_of code ≡ None) × (why ≡ UnknownAction)
no_action_told code None why is e = (is, cc)
no_action_told code (Some a) why is e = let z : ◌≡◌ {A = ℕ} 0 1 = cc in absurd (omega arith)

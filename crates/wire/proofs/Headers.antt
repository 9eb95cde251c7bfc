-- What a sound header says of the places of its parts.
use Rattle.std.proofs.Common.{◌≡◌, ℕ, ◌+◌, ◌≤◌, Bool, true, false, cond, List, ◌++◌, length, take, drop, is_ok, Some, None, Ok, Err, Decides, Option, Result, sym, refl, ap, ◌∙◌, arith, take-add}
use Rattle.std.proofs.lemmas.Slice.Eq.{bytes_eq-Decides}
use Rattle.std.proofs.lemmas.List.{take_all, length-drop, length-take-le}
use Rattle.std.proofs.lemmas.Bool.{and_parts, and_from, leb-true, eqb-true, le-leb, eq-eqb, cond-true, cond-false}
use Rattle.std.proofs.lemmas.Bool.Decides.{Decides-at, Decides-eqb, Decides-and}
use Rattle.refusal.specs.declared.Refusal.{Refusal}
use Rattle.refusal.specs.declared.Refusal.TheVariants.{Malformed}
use Rattle.wire.specs.Header.{Header, header_of, header_in}
use Rattle.wire.specs.Views.{answered}
use Rattle.wire.specs.declared.envelope.Envelope.{Envelope}
use Rattle.wire.specs.declared.types.Kind.TheVariants.{Unmarked, Session, PublicKey}
use Rattle.wire.specs.declared.types.Kind.{Kind}
use Rattle.wire.specs.Envelope.{kind_of, header_length, total_length, arguments_place, arguments_length, tag_place, tag_length, tag_width, arguments, signed_text, tag, no_signer, signer, key_number, sequence_number, places_agree, sound_of_kind, sound_as, sound_header, unused_fields_zero, UnusedFieldsAreZero, WellFormedHeader, PartsLie}

-- the places of the parts, from the test
pub record Places (width : ℕ) (kind : Kind) (bytes : List ℕ) : Type 0 where
  pub header_is_there : header_length kind ≤ length bytes
  pub total : total_length bytes ≡ length bytes
  pub arguments : arguments_place bytes ≡ header_length kind
  pub tag_follows : tag_place bytes ≡ arguments_place bytes + arguments_length bytes
  pub tag_ends : tag_place bytes + tag_length bytes ≡ total_length bytes
  pub tag_length_is : tag_length bytes ≡ width
  pub unused : unused_fields_zero kind bytes ≡ true

pub places : (width : ℕ) (kind : Kind) (bytes : List ℕ) → sound_of_kind width kind bytes ≡ true → Places width kind bytes
unfolding sound_of_kind places_agree
places width kind bytes sound =
    let (there, rest) = and_parts _ _ sound in
    let (agree, unused) = and_parts _ _ rest in
    let (front, back) = and_parts _ _ agree in
    let (total, arguments) = and_parts _ _ front in
    let (middle, width_is) = and_parts _ _ back in
    let (follows, ends) = and_parts _ _ middle in
    record {
      header_is_there = leb-true _ _ there;
      total = eqb-true _ _ total;
      arguments = eqb-true _ _ arguments;
      tag_follows = eqb-true _ _ follows;
      tag_ends = eqb-true _ _ ends;
      tag_length_is = eqb-true _ _ width_is;
      unused = unused;
    }

sound_of_places : (width : ℕ) (kind : Kind) (bytes : List ℕ) → Places width kind bytes → sound_of_kind width kind bytes ≡ true
unfolding sound_of_kind places_agree
sound_of_places width kind bytes p =
    and_from _ _ (le-leb _ _ p.header_is_there)
    (and_from _ _
    (and_from _ _ (and_from _ _ (eq-eqb _ _ p.total) (eq-eqb _ _ p.arguments))
    (and_from _ _ (and_from _ _ (eq-eqb _ _ p.tag_follows) (eq-eqb _ _ p.tag_ends)) (eq-eqb _ _ p.tag_length_is)))
    p.unused)

-- the header of an envelope is judged by its kind
pub judged_by_kind : (session public : ℕ) (bytes : List ℕ) (kind : Option Kind) → kind_of bytes ≡ kind → sound_header session public bytes ≡ sound_as session public bytes kind
unfolding sound_header
judged_by_kind session public bytes kind is = ap (sound_as session public bytes) is

pub refused : (session public : ℕ) (bytes : List ℕ) → sound_header session public bytes ≡ false → header_in session public bytes ≡ Err Malformed
unfolding header_in
refused session public bytes unsound = cond-false _ _ _ unsound

pub accepted : (session public : ℕ) (bytes : List ℕ) → sound_header session public bytes ≡ true → header_in session public bytes ≡ Ok (header_of bytes)
unfolding header_in
accepted session public bytes sound = cond-true _ _ _ sound

-- the fields that a kind has no use for
decides_unused : (kind : Kind) (bytes : List ℕ) → Decides (unused_fields_zero kind bytes) (UnusedFieldsAreZero kind bytes)
decides_unused Unmarked bytes =
    let d = Decides-and _ _ (Decides-and _ _ (Decides-eqb (key_number bytes) 0) (Decides-eqb (sequence_number bytes) 0)) (bytes_eq-Decides (signer bytes) no_signer) in
    ((λ r. let h = d.0 r in (h.0.0, h.0.1, h.1)), (λ h. d.1 ((h.0, h.1), h.2)))
decides_unused Session bytes = ((λ _. tt), (λ _. refl))
decides_unused PublicKey bytes = Decides-eqb (sequence_number bytes) 0

-- a kind, where a header is sound
some_kind : (session public : ℕ) (bytes : List ℕ) (o : Option Kind) → kind_of bytes ≡ o → sound_as session public bytes o ≡ true → (kind : Kind) × (kind_of bytes ≡ Some kind) × (sound_of_kind (tag_width session public kind) kind bytes ≡ true)
some_kind session public bytes None is sound = let z : ◌≡◌ {A = ℕ} 0 1 = cc in absurd (omega arith)
some_kind session public bytes (Some kind) is sound = (kind, is, sound)

known_kind : (session public : ℕ) (bytes : List ℕ) → sound_header session public bytes ≡ true → (kind : Kind) × (kind_of bytes ≡ Some kind) × (sound_of_kind (tag_width session public kind) kind bytes ≡ true)
known_kind session public bytes sound = some_kind session public bytes (kind_of bytes) refl (sym (judged_by_kind session public bytes (kind_of bytes) refl) ∙ sound)

-- the test decides the relation
pub header_decided : (session public : ℕ) (bytes : List ℕ) → Decides (sound_header session public bytes) (WellFormedHeader session public bytes)
header_decided session public bytes = (
  (λ sound. let (kind, is, of-kind) = known_kind session public bytes sound in
      let p = places (tag_width session public kind) kind bytes of-kind in
      record {
        kind = kind;
        kind_is = is;
        header_is_there = p.header_is_there;
        total_length_is_the_number_of_bytes = p.total;
        arguments_follow_the_header = p.arguments;
        tag_follows_the_arguments = p.tag_follows;
        tag_ends_at_the_total_length = p.tag_ends;
        tag_has_the_length_of_its_kind = p.tag_length_is;
        unused_fields_are_zero = (decides_unused kind bytes).0 p.unused;
      }),
  (λ h. judged_by_kind session public bytes (Some h.kind) h.kind_is
      ∙ sound_of_places (tag_width session public h.kind) h.kind bytes
      record {
        header_is_there = h.header_is_there;
        total = h.total_length_is_the_number_of_bytes;
        arguments = h.arguments_follow_the_header;
        tag_follows = h.tag_follows_the_arguments;
        tag_ends = h.tag_ends_at_the_total_length;
        tag_length_is = h.tag_has_the_length_of_its_kind;
        unused = (decides_unused h.kind bytes).1 h.unused_fields_are_zero;
      }),
)

pub parts_lie : (session public : ℕ) (bytes : List ℕ) → sound_header session public bytes ≡ true → PartsLie session public bytes
unfolding signed_text arguments tag
parts_lie session public bytes sound =
    let (kind, is, of-kind) = known_kind session public bytes sound in
    let p = places (tag_width session public kind) kind bytes of-kind in
    let within : tag_place bytes + tag_length bytes ≡ length bytes = omega arith in
    let rest : tag_length bytes ≤ length (drop (tag_place bytes) bytes) = simp length-drop (omega arith) in
    let behind : header_length kind + arguments_length bytes ≡ tag_place bytes = omega arith in
    record {
      kind = kind;
      kind_is = is;
      signed_text_and_tag_are_the_envelope = sym (take-add (tag_place bytes) (tag_length bytes) bytes) ∙ take_all (tag_place bytes + tag_length bytes) bytes (omega arith);
      arguments_end_the_signed_text =
          ap (λ at. take (header_length kind) bytes ++ take (arguments_length bytes) (drop at bytes)) p.arguments
          ∙ sym (take-add (header_length kind) (arguments_length bytes) bytes)
          ∙ ap (λ n. take n bytes) behind;
      tag_has_the_length_of_its_kind = length-take-le (tag_length bytes) (drop (tag_place bytes) bytes) rest ∙ p.tag_length_is;
    }

-- what an answer says of the header
ok_as_answered : (r : Result Envelope Refusal) → is_ok r ≡ is_ok (answered r)
ok_as_answered (Ok e) = refl
ok_as_answered (Err why) = refl

ok_of_cond : (b : Bool) (h : Header) → is_ok {E = Refusal} (cond b (Ok h) (Err Malformed)) ≡ b
ok_of_cond true h = refl
ok_of_cond false h = refl

pub answered_exactly : (session public : ℕ) (bytes : List ℕ) (r : Result Envelope Refusal) → answered r ≡ header_in session public bytes → Decides (is_ok r) (WellFormedHeader session public bytes)
unfolding header_in
answered_exactly session public bytes r is =
    Decides-at (is_ok r) (sound_header session public bytes) (ok_as_answered r ∙ ap is_ok is ∙ ok_of_cond (sound_header session public bytes) (header_of bytes)) (header_decided session public bytes)

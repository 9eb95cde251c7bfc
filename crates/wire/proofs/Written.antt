-- A signed text with a tag behind it reads as the fields that it was made of.
use Rattle.std.proofs.Common.{◌≡◌, ℕ, ◌+◌, List, ◌++◌, length, take, drop, Some, Ok, sym, refl, ap, ◌∙◌, zero-add, arith}
use Rattle.std.proofs.lemmas.List.{append_assoc, length-append, take_at, drop_at, take_all}
use Rattle.records.specs.Records.{big_endian}
use Rattle.records.specs.Numbers.{number_of_big_endian}
use Rattle.wire.specs.declared.types.Kind.{Kind}
use Rattle.wire.specs.declared.types.Kind.TheVariants.{Unmarked, Session, PublicKey}
use Rattle.wire.specs.Envelope.{number_at, kind_of, kind_numbered, kind_or, number_of, header_length, hash_length, action_code, control_number, total_length, arguments_place, arguments_length, tag_place, tag_length, key_number, sequence_number, signer, arguments, signed_text, tag, tag_width, UnusedFieldsAreZero, WellFormedHeader}
use Rattle.wire.specs.Header.{Header, placed, header_of}
use Rattle.wire.specs.Writing.{Fields, Unused, Fits, text_length, front_bytes, signed_text_of, header_with, ReadsBack}
use Rattle.wire.specs.declared.request.Signer.{Signer}
use Rattle.wire.specs.declared.request.Signer.TheVariants.{Nobody, InSession, ByPublicKey}
use Rattle.wire.specs.declared.request.Request.{Request}
use Rattle.wire.specs.Requests.{kind_by, key_number_by, sequence_number_by, signer_by, fields_of}
use Rattle.wire.proofs.Headers.{header_decided, accepted}

numbered : (kind : Kind) → kind_numbered (number_of kind) ≡ Some kind
numbered Unmarked = refl
numbered Session = refl
numbered PublicKey = refl

same_header : {k k' : Kind} {a a' c c' n n' s s' p p' q q' : ℕ} {h h' xs xs' ts ts' gs gs' : List ℕ} → k ≡ k' → a ≡ a' → c ≡ c' → n ≡ n' → s ≡ s' → h ≡ h' → p ≡ p' → xs ≡ xs' → ts ≡ ts' → q ≡ q' → gs ≡ gs' → ◌≡◌ {A = Header} (record { kind = k; action_code = a; control_number = c; key_number = n; sequence_number = s; signer = h; arguments = placed p xs; signed_text = placed 0 ts; tag = placed q gs }) (record { kind = k'; action_code = a'; control_number = c'; key_number = n'; sequence_number = s'; signer = h'; arguments = placed p' xs'; signed_text = placed 0 ts'; tag = placed q' gs' })
same_header e₀ e₁ e₂ e₃ e₄ e₅ e₆ e₇ e₈ e₉ e₁₀ = cc

module _ (width : ℕ) (f : Fields) (fits : Fits width f) (t : List ℕ) (long : length t ≡ width) where
  abbrev text : List ℕ
  text = signed_text_of width f

  length-text : length text ≡ text_length f
  unfolding signed_text_of front_bytes big_endian
  length-text = let e = length-append f.signer f.arguments in let h = fits.hash in omega arith

  whole_kind : kind_of (text ++ t) ≡ Some f.kind
  unfolding kind_of signed_text_of front_bytes big_endian
  whole_kind = numbered f.kind

  whole_action : action_code (text ++ t) ≡ f.action_code
  unfolding number_at signed_text_of front_bytes big_endian
  whole_action = zero-add f.action_code

  whole_control : control_number (text ++ t) ≡ f.control_number
  unfolding number_at signed_text_of front_bytes big_endian
  whole_control = number_of_big_endian 2 f.control_number fits.control

  whole_total : total_length (text ++ t) ≡ text_length f + width
  unfolding number_at signed_text_of front_bytes big_endian
  whole_total = number_of_big_endian 2 (text_length f + width) (let r = fits.room in omega arith)

  whole_arguments_place : arguments_place (text ++ t) ≡ header_length f.kind
  unfolding number_at signed_text_of front_bytes big_endian
  whole_arguments_place = number_of_big_endian 2 (header_length f.kind) (omega arith)

  whole_arguments_length : arguments_length (text ++ t) ≡ length f.arguments
  unfolding number_at signed_text_of front_bytes big_endian
  whole_arguments_length = number_of_big_endian 2 (length f.arguments) (let r = fits.room in omega arith)

  whole_tag_place : tag_place (text ++ t) ≡ text_length f
  unfolding number_at signed_text_of front_bytes big_endian
  whole_tag_place = number_of_big_endian 2 (text_length f) (let r = fits.room in omega arith)

  whole_tag_length : tag_length (text ++ t) ≡ width
  unfolding number_at signed_text_of front_bytes big_endian
  whole_tag_length = number_of_big_endian 2 width (let r = fits.room in omega arith)

  whole_key : key_number (text ++ t) ≡ f.key_number
  unfolding number_at signed_text_of front_bytes big_endian
  whole_key = number_of_big_endian 8 f.key_number fits.key

  whole_sequence : sequence_number (text ++ t) ≡ f.sequence_number
  unfolding number_at signed_text_of front_bytes big_endian
  whole_sequence = number_of_big_endian 4 f.sequence_number fits.sequence

  whole_signer : signer (text ++ t) ≡ f.signer
  unfolding signer signed_text_of front_bytes big_endian
  whole_signer = ap (take hash_length) (append_assoc f.signer f.arguments t) ∙ take_at f.signer (f.arguments ++ t) hash_length fits.hash

  behind_the_header : drop (header_length f.kind) (text ++ t) ≡ f.arguments ++ t
  unfolding signed_text_of front_bytes big_endian
  behind_the_header = ap (drop hash_length) (append_assoc f.signer f.arguments t) ∙ drop_at f.signer (f.arguments ++ t) hash_length fits.hash

  whole_arguments : arguments (text ++ t) ≡ f.arguments
  unfolding arguments
  whole_arguments =
      ap (λ n. take n (drop (arguments_place (text ++ t)) (text ++ t))) whole_arguments_length
      ∙ ap (λ at. take (length f.arguments) (drop at (text ++ t))) whole_arguments_place
      ∙ ap (take (length f.arguments)) behind_the_header
      ∙ take_at f.arguments t (length f.arguments) refl

  whole_signed_text : signed_text (text ++ t) ≡ text
  unfolding signed_text
  whole_signed_text = ap (λ n. take n (text ++ t)) whole_tag_place ∙ take_at text t (text_length f) length-text

  whole_tag : tag (text ++ t) ≡ t
  unfolding tag
  whole_tag =
      ap (λ n. take n (drop (tag_place (text ++ t)) (text ++ t))) whole_tag_length
      ∙ ap (λ at. take width (drop at (text ++ t))) whole_tag_place
      ∙ ap (take width) (drop_at text t (text_length f) length-text)
      ∙ take_all width t (omega arith)

  pub whole_reads : header_of (text ++ t) ≡ header_with f text t
  whole_reads = same_header (ap (kind_or Unmarked) whole_kind) whole_action whole_control whole_key whole_sequence whole_signer whole_arguments_place whole_arguments whole_signed_text whole_tag_place whole_tag

  unused_by : (kind : Kind) → Unused kind f → UnusedFieldsAreZero kind (text ++ t)
  unused_by Unmarked u = (whole_key ∙ u.0, whole_sequence ∙ u.1, whole_signer ∙ u.2)
  unused_by Session u = tt
  unused_by PublicKey u = whole_sequence ∙ u

  pub whole_well_formed : (session public : ℕ) → tag_width session public f.kind ≡ width → WellFormedHeader session public (text ++ t)
  whole_well_formed session public is =
      let all : length (text ++ t) ≡ text_length f + width = length-append text t ∙ (let e = length-text in omega arith) in
      let e₁ = whole_total in
      let e₂ = whole_arguments_place in
      let e₃ = whole_arguments_length in
      let e₄ = whole_tag_place in
      let e₅ = whole_tag_length in
      record {
        kind = f.kind;
        kind_is = whole_kind;
        header_is_there = omega arith;
        total_length_is_the_number_of_bytes = omega arith;
        arguments_follow_the_header = whole_arguments_place;
        tag_follows_the_arguments = omega arith;
        tag_ends_at_the_total_length = omega arith;
        tag_has_the_length_of_its_kind = whole_tag_length ∙ sym is;
        unused_fields_are_zero = unused_by f.kind fits.unused;
      }

pub reads_back : (session public : ℕ) (f : Fields) → Fits (tag_width session public f.kind) f → ReadsBack session public f
reads_back session public f fits t long =
    let width = tag_width session public f.kind in
    accepted session public (signed_text_of width f ++ t) ((header_decided session public (signed_text_of width f ++ t)).1 (whole_well_formed width f fits t long session public refl))
    ∙ ap Ok (whole_reads width f fits t long)

-- a request's kind has no use for the fields that it does not say
unused_by_signer : (who : Signer) (q : Request) → q.signer ≡ who → Unused (kind_by who) (fields_of q)
unused_by_signer Nobody q is = (ap key_number_by is, ap sequence_number_by is, ap signer_by is)
unused_by_signer (InSession id n hash) q is = tt
unused_by_signer (ByPublicKey base hash) q is = ap sequence_number_by is

pub unused_of : (q : Request) → Unused (kind_by q.signer) (fields_of q)
unused_of q = unused_by_signer q.signer q refl

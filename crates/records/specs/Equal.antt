-- The comparisons of fields decide whether two records are equal.
use Rattle.std.specs.Prelude.{◌≡◌, Bool, true, false, Decides, ◌&&◌, ◌==◌, ◌++◌, length, refl}
use Rattle.std.proofs.Common.{ap, ap₂, ◌∙◌}
use Rattle.std.specs.Bool.{beq}
use Rattle.std.specs.Str.{bytes_eq}
use Rattle.std.proofs.lemmas.Slice.Eq.{bytes_eq-Decides}
use Rattle.std.proofs.lemmas.Bool.{false≢true, true≢false}
use Rattle.std.proofs.lemmas.Bool.Decides.{Decides-and, Decides-at, Decides-like, Decides-eqb}
use Rattle.records.specs.declared.types.Scope.{Scope}
use Rattle.records.specs.declared.types.Entry.{Entry}
use Rattle.records.specs.declared.types.Certificate.{Certificate}
use Rattle.records.specs.Records.{scope_bytes, entry_bytes, certificate_bytes, entry, certificate}
use Rattle.records.specs.Inverse.{WindowFits}
use Rattle.records.specs.Equality.{same_window, same_scope, same_entry, same_certificate}
use Rattle.records.specs.Fields.{same_fields}
use Rattle.records.specs.RecordLaws.{same_parts, same_certificates}
use Rattle.records.specs.ScopeLaws.{same_from_bytes}

flags_decide : (a b : Bool) → Decides (beq a b) (a ≡ b)
flags_decide true true = (λ _. refl, λ _. refl)
flags_decide true false = (λ e. absurd (false≢true e), λ e. absurd (true≢false e))
flags_decide false true = (λ e. absurd (false≢true e), λ e. absurd (false≢true e))
flags_decide false false = (λ _. refl, λ _. refl)

pub same_scope_decides : (a b : Scope) → Decides (same_scope a b) (a ≡ b)
same_scope_decides a b =
    Decides-like (same_scope a b) (λ h. same_fields h.0 h.1.0 h.1.1.0 h.1.1.1.0 h.1.1.1.1)
    (λ e. (ap (λ (s : Scope). s.delegate) e, (ap (λ (s : Scope). s.not_before) e, (ap (λ (s : Scope). s.not_after) e, (ap (λ (s : Scope). s.term_length) e, ap (λ (s : Scope). s.term) e)))))
    (Decides-and _ _ (flags_decide a.delegate b.delegate) (Decides-and _ _ (Decides-eqb a.not_before b.not_before) (Decides-and _ _ (Decides-eqb a.not_after b.not_after) (Decides-and _ _ (Decides-eqb a.term_length b.term_length) (bytes_eq-Decides a.term b.term)))))

pub same_scope_bytes_decides : (a b : Scope) (r : Bool) → WindowFits a × WindowFits b → r ≡ same_scope a b → Decides r (scope_bytes a ≡ scope_bytes b)
same_scope_bytes_decides a b r fits is = Decides-like r (ap scope_bytes) (same_from_bytes a b fits.0 fits.1) (Decides-at r (same_scope a b) is (same_scope_decides a b))

pub same_entry_decides : (a b : Entry) → Decides (same_entry a b) (a ≡ b)
unfolding same_entry
same_entry_decides a b =
    Decides-like (same_entry a b) (λ h. ap₂ entry h.0 h.1) (λ e. (ap (λ (x : Entry). x.subject) e, ap (λ (x : Entry). x.scope) e))
    (Decides-and _ _ (bytes_eq-Decides a.subject b.subject) (same_scope_decides a.scope b.scope))

pub same_certificate_decides : (a b : Certificate) → Decides (same_certificate a b) (a ≡ b)
unfolding same_certificate
same_certificate_decides a b =
    Decides-like (same_certificate a b) (λ h. same_certificates a.scope h.0 h.1.0 h.1.1.0 ∙ ap (certificate b.issuer b.subject b.device) h.1.1.1)
    (λ e. (ap (λ (x : Certificate). x.issuer) e, (ap (λ (x : Certificate). x.subject) e, (ap (λ (x : Certificate). x.device) e, ap (λ (x : Certificate). x.scope) e))))
    (Decides-and _ _ (bytes_eq-Decides a.issuer b.issuer) (Decides-and _ _ (bytes_eq-Decides a.subject b.subject) (Decides-and _ _ (bytes_eq-Decides a.device b.device) (same_scope_decides a.scope b.scope))))

-- the windows are among what is compared
same_window_among : (d n a l t : Bool) → ((n && a) && (d && (n && (a && (l && t))))) ≡ (d && (n && (a && (l && t))))
same_window_among true true true l t = refl
same_window_among true true false l t = refl
same_window_among true false a l t = refl
same_window_among false true true l t = refl
same_window_among false true false l t = refl
same_window_among false false a l t = refl

pub window_and_scope : (a b : Scope) → (same_window a b && same_scope a b) ≡ same_scope a b
window_and_scope a b = same_window_among (beq a.delegate b.delegate) (a.not_before == b.not_before) (a.not_after == b.not_after) (a.term_length == b.term_length) (bytes_eq a.term b.term)

-- a test of both first changes nothing
pub tested_twice : (w h s : Bool) → (w && s) ≡ s → (w && (h && s)) ≡ (h && s)
tested_twice w true s e = e
tested_twice true false s e = refl
tested_twice false false s e = refl

-- unless they are hashes of one length and windows that fit eight bytes, two records can have the same bytes
pub same_entry_bytes_decides : (a b : Entry) → length a.subject ≡ length b.subject → WindowFits a.scope × WindowFits b.scope → Decides (same_entry a b) (entry_bytes a ≡ entry_bytes b)
unfolding entry_bytes
same_entry_bytes_decides a b long fits =
    Decides-like (same_entry a b) (ap entry_bytes)
    (λ e. let parts = same_parts a.subject (scope_bytes a.scope) b.subject (scope_bytes b.scope) long e in ap₂ entry parts.0 (same_from_bytes a.scope b.scope fits.0 fits.1 parts.1))
    (same_entry_decides a b)

pub same_certificate_bytes_decides : (a b : Certificate) → length a.issuer ≡ length b.issuer → length a.subject ≡ length b.subject → length a.device ≡ length b.device → WindowFits a.scope × WindowFits b.scope → Decides (same_certificate a b) (certificate_bytes a ≡ certificate_bytes b)
unfolding certificate_bytes
same_certificate_bytes_decides a b issuers subjects devices fits =
    Decides-like (same_certificate a b) (ap certificate_bytes)
    (λ e.
    let one = same_parts a.issuer (a.subject ++ (a.device ++ scope_bytes a.scope)) b.issuer (b.subject ++ (b.device ++ scope_bytes b.scope)) issuers e in
    let two = same_parts a.subject (a.device ++ scope_bytes a.scope) b.subject (b.device ++ scope_bytes b.scope) subjects one.1 in
    let three = same_parts a.device (scope_bytes a.scope) b.device (scope_bytes b.scope) devices two.1 in
    same_certificates a.scope one.0 two.0 three.0 ∙ ap (certificate b.issuer b.subject b.device) (same_from_bytes a.scope b.scope fits.0 fits.1 three.1))
    (same_certificate_decides a b)

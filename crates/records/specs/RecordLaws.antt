-- Reading and writing of entries and of certificates are each other's inverse, since those of scopes are.
use Rattle.std.specs.Prelude.{◌≡◌, ℕ, ◌+◌, ◌<◌, ◌≤◌, Bool, true, false, cond, List, ◌++◌, length, take, drop, Ok, Err, Result, ◌==◌, refl}
use Rattle.std.proofs.Common.{sym, ap, ap₂, subst, ◌∙◌, arith}
use Rattle.std.proofs.Math.Path.{fun_ext}
use Rattle.std.specs.Int.Digits.{AllBelowBase}
use Rattle.std.proofs.ByRecursion.{All-append, All-take, All-drop}
use Rattle.std.proofs.lemmas.List.{append_assoc, length-append, length-drop, length-take-le, take_all, take-append-drop, take_at, take-take, drop_at, drop-drop, drop-take}
use Rattle.std.proofs.lemmas.Bool.{eqb-true, eq-eqb}
use Rattle.refusal.specs.declared.Refusal.{Refusal}
use Rattle.refusal.specs.declared.Refusal.TheVariants.{Malformed}
use Rattle.records.specs.declared.types.Scope.{Scope}
use Rattle.records.specs.declared.types.Certificate.{Certificate}
use Rattle.records.specs.Records.{scope_bytes, scope_in, with_scope, entry, entry_bytes, entry_in, certificate, certificate_bytes, certificate_in}
use Rattle.records.specs.Inverse.{Bytes, ScopeFits, EntryFits, CertificateFits, WellFormedScope, Inverse, EntriesInverse, CertificatesInverse}
use Rattle.records.specs.ScopeLaws.{Told, else_malformed, scope_told, scopes_inverse}

-- equal bytes of equal length in front, equal bytes behind
pub same_parts : (a b c d : List ℕ) → length a ≡ length c → a ++ b ≡ c ++ d → (a ≡ c) × (b ≡ d)
same_parts a b c d size e = (
  sym (take_at a b (length c) size) ∙ ap (take (length c)) e ∙ take_at c d (length c) refl,
  sym (drop_at a b (length c) size) ∙ ap (drop (length c)) e ∙ drop_at c d (length c) refl,
)

bytes_append : (m n : ℕ) (xs ys : List ℕ) → Bytes m xs → Bytes n ys → Bytes (m + n) (xs ++ ys)
bytes_append m n xs ys (size, under) (size', under') = (length-append xs ys ∙ ap₂ (λ a b. a + b) size size', All-append (λ b. b < 256) xs ys under under')

bytes_take : (m n : ℕ) (xs : List ℕ) → m ≤ n → Bytes n xs → Bytes m (take m xs)
bytes_take m n xs fit (size, under) = (length-take-le m xs (omega arith), All-take (λ b. b < 256) m xs under)

bytes_drop : (m n k : ℕ) (xs : List ℕ) → m + k ≡ n → Bytes n xs → Bytes k (drop m xs)
bytes_drop m n k xs fit (size, under) = (length-drop m xs ∙ omega arith, All-drop (λ b. b < 256) m xs under)

module _ {R : Type 0} (made : Scope → R) where
  scope_of : (answer : Result Scope Refusal) (r : R) → with_scope made answer ≡ Ok r → (s : Scope) × (answer ≡ Ok s) × (made s ≡ r)
  scope_of (Ok s) r e = (s, refl, cc)
  scope_of (Err why) r e = let z : ◌≡◌ {A = ℕ} 0 1 = cc in absurd (omega arith)

  told_with_scope : (answer : Result Scope Refusal) → Told answer → Told (with_scope made answer)
  told_with_scope (Ok s) told why e = let z : ◌≡◌ {A = ℕ} 0 1 = cc in absurd (omega arith)
  told_with_scope (Err how) told why e = let same : how ≡ why = cc in sym same ∙ told how refl

told_at_a_size : {R : Type 0} (test : Bool) (answer : Result R Refusal) → Told answer → Told (cond test answer (Err Malformed))
told_at_a_size true answer told why e = told why e
told_at_a_size false answer told why e = cc

held_at_a_size : {R : Type 0} {r : R} (test : Bool) (answer : Result R Refusal) → cond test answer (Err Malformed) ≡ Ok r → (test ≡ true) × (answer ≡ Ok r)
held_at_a_size true answer e = (refl, e)
held_at_a_size false answer e = let z : ◌≡◌ {A = ℕ} 0 1 = cc in absurd (omega arith)

-- a record of n bytes of hashes and a scope
record Made {R : Type 0} (n : ℕ) (Fits : R → Type 0) (hashes : R → List ℕ) (scope : R → Scope) (made : List ℕ → Scope → R) : Type 0 where
  fits : (front : List ℕ) (s : Scope) → Bytes n front → ScopeFits s → Fits (made front s)
  hashes_fit : (r : R) → Fits r → Bytes n (hashes r)
  scope_fits : (r : R) → Fits r → ScopeFits (scope r)
  hashes_of : (front : List ℕ) (s : Scope) → Bytes n front → hashes (made front s) ≡ front
  scope_of : (front : List ℕ) (s : Scope) → scope (made front s) ≡ s
  whole : (r : R) → Fits r → made (hashes r) (scope r) ≡ r

module _ {R : Type 0} (n : ℕ) (Fits : R → Type 0) (hashes : R → List ℕ) (scope : R → Scope) (made : List ℕ → Scope → R) (m : Made n Fits hashes scope made) where
  abbrev write : R → List ℕ
  write r = hashes r ++ scope_bytes (scope r)

  abbrev read : List ℕ → Result R Refusal
  read bytes = cond (length bytes == n + 66) (with_scope (made (take n bytes)) (scope_in (drop n bytes))) (Err Malformed)

  abbrev WellFormed : R → Type 0
  WellFormed r = WellFormedScope (scope r)

  size_of : (r : R) → Fits r → Bytes (n + 66) (write r)
  size_of r fits = bytes_append n 66 (hashes r) (scope_bytes (scope r)) (m.hashes_fit r fits) (scopes_inverse.every_record_has_its_size (scope r) (m.scope_fits r fits))

  reads_back : (r : R) → Fits r → WellFormed r → read (write r) ≡ Ok r
  reads_back r fits well =
      let long = (m.hashes_fit r fits).0 in
      ap (λ b. cond b (with_scope (made (take n (write r))) (scope_in (drop n (write r)))) (Err Malformed)) (eq-eqb _ (n + 66) (size_of r fits).0)
      ∙ ap₂ (λ front rest. with_scope (made front) (scope_in rest)) (take_at (hashes r) (scope_bytes (scope r)) n long) (drop_at (hashes r) (scope_bytes (scope r)) n long)
      ∙ ap (with_scope (made (hashes r))) (scopes_inverse.what_is_written_reads_back (scope r) (m.scope_fits r fits) well)
      ∙ ap Ok (m.whole r fits)

  what_reads : (bytes : List ℕ) (r : R) → AllBelowBase 256 bytes → read bytes ≡ Ok r → Fits r × WellFormed r × (write r ≡ bytes)
  what_reads bytes r under e =
      let held = held_at_a_size (length bytes == n + 66) (with_scope (made (take n bytes)) (scope_in (drop n bytes))) e in
      let size : length bytes ≡ n + 66 = eqb-true _ (n + 66) held.0 in
      let found = scope_of (made (take n bytes)) (scope_in (drop n bytes)) r held.1 in
      let s = found.0 in
      let front : Bytes n (take n bytes) = bytes_take n (n + 66) bytes (omega arith) (size, under) in
      let law = scopes_inverse.what_reads_is_written_back (drop n bytes) s (All-drop (λ b. b < 256) n bytes under) found.1 in
      let bytes-again : write (made (take n bytes) s) ≡ bytes = ap₂ (λ h (t : Scope). h ++ scope_bytes t) (m.hashes_of (take n bytes) s front) (m.scope_of (take n bytes) s) ∙ ap (λ rest. take n bytes ++ rest) law.2 ∙ take-append-drop n bytes in
      subst (λ (q : R). Fits q × WellFormed q × (write q ≡ bytes)) found.2
      (m.fits (take n bytes) s front law.0, subst WellFormedScope (sym (m.scope_of (take n bytes) s)) law.1, bytes-again)

  equal_records : (one other : R) → Fits one → Fits other → write one ≡ write other → one ≡ other
  equal_records one other fits fits' e =
      let parts = same_parts (hashes one) (scope_bytes (scope one)) (hashes other) (scope_bytes (scope other)) ((m.hashes_fit one fits).0 ∙ sym (m.hashes_fit other fits').0) e in
      sym (m.whole one fits)
      ∙ ap₂ made parts.0 (scopes_inverse.equal_bytes_are_of_equal_records (scope one) (scope other) (m.scope_fits one fits) (m.scope_fits other fits') parts.1)
      ∙ m.whole other fits'

  inverse : Inverse (n + 66) Fits WellFormed write read
  inverse = record {
    every_record_has_its_size = size_of;
    what_is_written_reads_back = reads_back;
    what_reads_is_written_back = what_reads;
    all_else_is_malformed = λ bytes under never.
        else_malformed (read bytes) (told_at_a_size (length bytes == n + 66) _ (told_with_scope (made (take n bytes)) (scope_in (drop n bytes)) (scope_told (drop n bytes))))
        (λ r e. let h = what_reads bytes r under e in never r h.0 h.1 h.2);
    equal_bytes_are_of_equal_records = equal_records;
  }

entries_made : Made 20 EntryFits (λ e. e.subject) (λ e. e.scope) entry
entries_made = record {
  fits = λ front s is fits. record { subject = is; scope = fits };
  hashes_fit = λ e fits. fits.subject;
  scope_fits = λ e fits. fits.scope;
  hashes_of = λ front s is. refl;
  scope_of = λ front s. refl;
  whole = λ e fits. refl;
}

pub entries_inverse : EntriesInverse
unfolding entry_bytes entry_in
entries_inverse = inverse 20 EntryFits (λ e. e.subject) (λ e. e.scope) entry entries_made

abbrev three_hashes : Certificate → List ℕ
three_hashes c = c.issuer ++ (c.subject ++ c.device)

abbrev cut_in3 : List ℕ → Scope → Certificate
cut_in3 front = certificate (take 20 front) (take 20 (drop 20 front)) (take 20 (drop 40 front))

pub same_certificates : {i j a b d e : List ℕ} (s : Scope) → i ≡ j → a ≡ b → d ≡ e → certificate i a d s ≡ certificate j b e s
same_certificates s one two three = cc

module _ (a b c : List ℕ) (size : length a ≡ 20) (size' : length b ≡ 20) (size'' : length c ≡ 20) where
  second_of_three : take 20 (drop 20 (a ++ (b ++ c))) ≡ b
  second_of_three = ap (take 20) (drop_at a (b ++ c) 20 size) ∙ take_at b c 20 size'

  third_of_three : take 20 (drop 40 (a ++ (b ++ c))) ≡ c
  third_of_three =
      ap (take 20) (sym (drop-drop 20 20 (a ++ (b ++ c))) ∙ ap (drop 20) (drop_at a (b ++ c) 20 size) ∙ drop_at b c 20 size')
      ∙ take_all 20 c (omega arith)

three_again : (front : List ℕ) → length front ≡ 60 → take 20 front ++ (take 20 (drop 20 front) ++ take 20 (drop 40 front)) ≡ front
three_again front size =
    let last : take 20 (drop 40 front) ≡ drop 20 (drop 20 front) = take_all 20 (drop 40 front) (simp length-drop (omega arith)) ∙ sym (drop-drop 20 20 front) in
    ap (λ xs. take 20 front ++ (take 20 (drop 20 front) ++ xs)) last
    ∙ ap (λ xs. take 20 front ++ xs) (take-append-drop 20 (drop 20 front))
    ∙ take-append-drop 20 front

certificates_made : Made 60 CertificateFits three_hashes (λ c. c.scope) cut_in3
certificates_made = record {
  fits = λ front s is fits. record {
    issuer = bytes_take 20 60 front (omega arith) is;
    subject = bytes_take 20 40 (drop 20 front) (omega arith) (bytes_drop 20 60 40 front refl is);
    device = bytes_take 20 20 (drop 40 front) (omega arith) (bytes_drop 40 60 20 front refl is);
    scope = fits;
  };
  hashes_fit = λ c fits. bytes_append 20 40 c.issuer (c.subject ++ c.device) fits.issuer (bytes_append 20 20 c.subject c.device fits.subject fits.device);
  scope_fits = λ c fits. fits.scope;
  hashes_of = λ front s is. three_again front is.0;
  scope_of = λ front s. refl;
  whole = λ c fits.
      let first = take_at c.issuer (c.subject ++ c.device) 20 fits.issuer.0 in
      let second = second_of_three c.issuer c.subject c.device fits.issuer.0 fits.subject.0 fits.device.0 in
      let third = third_of_three c.issuer c.subject c.device fits.issuer.0 fits.subject.0 fits.device.0 in
      same_certificates c.scope first second third;
}

same_bytes : (c : Certificate) → three_hashes c ++ scope_bytes c.scope ≡ certificate_bytes c
unfolding certificate_bytes
same_bytes c = simp append_assoc

-- the hashes, read from the bytes or from their first sixty
same_answer : (bytes : List ℕ) → cond (length bytes == 126) (with_scope (cut_in3 (take 60 bytes)) (scope_in (drop 60 bytes))) (Err Malformed) ≡ certificate_in bytes
unfolding certificate_in
same_answer bytes =
    let first = take-take 20 60 bytes (omega arith) in
    let second : take 20 (drop 20 (take 60 bytes)) ≡ take 20 (drop 20 bytes) = ap (take 20) (drop-take 20 40 bytes) ∙ take-take 20 40 (drop 20 bytes) (omega arith) in
    let third : take 20 (drop 40 (take 60 bytes)) ≡ take 20 (drop 40 bytes) = ap (take 20) (drop-take 40 20 bytes) ∙ take-take 20 20 (drop 40 bytes) (omega arith) in
    ap (λ made. cond (length bytes == 126) (with_scope made (scope_in (drop 60 bytes))) (Err Malformed)) (fun_ext (λ s. same_certificates s first second third))

pub certificates_inverse : CertificatesInverse
certificates_inverse =
    subst (λ (w : Certificate → List ℕ). Inverse 126 CertificateFits (λ c. WellFormedScope c.scope) w certificate_in) (fun_ext same_bytes)
    (subst (λ (r : List ℕ → Result Certificate Refusal). Inverse 126 CertificateFits (λ c. WellFormedScope c.scope) (λ c. three_hashes c ++ scope_bytes c.scope) r) (fun_ext same_answer)
    (inverse 60 CertificateFits three_hashes (λ c. c.scope) cut_in3 certificates_made))

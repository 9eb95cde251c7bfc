-- A reader that compares with what the writer writes is the writer's inverse.
use Rattle.std.proofs.Common.{◌≡◌, ℕ, Bool, true, false, cond, List, Ok, Err, sym, refl, ap, ◌∙◌, subst, arith}
use Rattle.std.specs.Str.{bytes_eq}
use Rattle.std.proofs.lemmas.Slice.Eq.{bytes_eq-Decides}
use Rattle.refusal.specs.declared.Refusal.TheVariants.{Malformed}
use Rattle.keyhash.specs.Canonical.{KeyHash, read_by, Canonical}

module _ (write : List ℕ → List ℕ) (spell : List ℕ → List ℕ) where
  -- the bytes are what is written of the hash that they spell
  pub reads : (bytes : List ℕ) → bytes ≡ write (spell bytes) → read_by write spell bytes ≡ Ok (spell bytes)
  reads bytes e = let t = (bytes_eq-Decides bytes (write (spell bytes))).1 e in ap (λ b. cond b (Ok (spell bytes)) (Err Malformed)) t

  pub refuses : (bytes : List ℕ) → (bytes ≡ write (spell bytes) → ⊥) → read_by write spell bytes ≡ Err Malformed
  refuses bytes no_text = by (bytes_eq bytes (write (spell bytes))) refl
    where
      by : (b : Bool) → bytes_eq bytes (write (spell bytes)) ≡ b → cond b (Ok (spell bytes)) (Err Malformed) ≡ Err Malformed
      by true e = absurd (no_text ((bytes_eq-Decides bytes (write (spell bytes))).0 e))
      by false e = refl

  -- what was read: the hash that the bytes spell, and they are written of it
  pub read_is : (bytes hash : List ℕ) → read_by write spell bytes ≡ Ok hash → (spell bytes ≡ hash) × (bytes ≡ write (spell bytes))
  read_is bytes hash = by (bytes_eq bytes (write (spell bytes))) refl
    where
      by : (b : Bool) → bytes_eq bytes (write (spell bytes)) ≡ b → cond b (Ok (spell bytes)) (Err Malformed) ≡ Ok hash → (spell bytes ≡ hash) × (bytes ≡ write (spell bytes))
      by true e r = (cc, (bytes_eq-Decides bytes (write (spell bytes))).0 e)
      by false e r = let z : ◌≡◌ {A = ℕ} 0 1 = cc in absurd (omega arith)

  pub canonical : ((hash : List ℕ) → KeyHash hash → spell (write hash) ≡ hash) → ((bytes : List ℕ) → KeyHash (spell bytes)) → Canonical write (read_by write spell)
  canonical back hashes =
      record {
        written_text_reads_back = λ hash is. let e = back hash is in reads (write hash) (ap write (sym e)) ∙ ap Ok e;
        only_written_text_reads = λ bytes hash r. let is = read_is bytes hash r in (subst KeyHash is.0 (hashes bytes), is.1 ∙ ap write is.0);
        equal_hashes_have_equal_texts = λ one other hash r s. let p = read_is one hash r in let q = read_is other hash s in p.1 ∙ ap write (p.0 ∙ sym q.0) ∙ sym q.1;
        other_text_is_malformed = λ bytes none. refuses bytes (none (spell bytes) (hashes bytes));
      }

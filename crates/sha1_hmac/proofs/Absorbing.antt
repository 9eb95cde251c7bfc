-- What the parts of a message leave behind them.
use Rattle.std.proofs.Common.{◌≡◌, ℕ, zero, suc, zero-mul, ◌+◌, ◌*◌, ◌/◌, ◌%◌, ◌^◌, ◌<◌, ◌≤◌, List, ◌++◌, length, take, drop, sym, refl, ap, ◌∙◌, ap₂, arith, length-append, length-drop}
use Rattle.std.proofs.lemmas.List.{take_all, take-append-le, drop-append-le, drop_all, drop-drop, take-append-drop, append_assoc}
use Rattle.std.specs.List.{flat_map}
use Rattle.std.specs.Simd.{first_chunks}
use Rattle.sha1_hmac.specs.Compression.{compress}
use Rattle.sha1_hmac.specs.Message.{block, hashed}
use Rattle.sha1_hmac.specs.Stream.{Absorbed}
use Rattle.sha1_hmac.specs.declared.stream.Sha1.{Sha1}

-- the hash value after n blocks does not depend on what follows them
pub hashed_front : (m z : List ℕ) (n : ℕ) → 64 * n ≤ length m → hashed (m ++ z) n ≡ hashed m n
hashed_front m z zero h = refl
hashed_front m z (suc n) h =
    let l : 64 * n + 64 ≤ length m = omega arith in
    let d = drop-append-le (64 * n) m z (omega arith) in
    let t = take-append-le 64 (drop (64 * n) m) z (simp length-drop (omega arith)) in
    ap₂ compress (hashed_front m z n (omega arith)) (ap (take 64) d ∙ t)

module _ (s s' : Sha1) (m p : List ℕ) (a : Absorbed s m) where
  -- a part that leaves room in the buffer
  pub absorbed_below : length m % 64 + length p < 64
      → s'.words ≡ s.words
      → take (length m % 64 + length p) s'.buffer ≡ take (length m % 64) s.buffer ++ p
      → s'.total ≡ (s.total + length p) % 2 ^ 64
      → Absorbed s' (m ++ p)
  absorbed_below room same put count =
      let n = length-append m p in
      let q : length (m ++ p) / 64 ≡ length m / 64 = omega arith in
      let r : length (m ++ p) % 64 ≡ length m % 64 + length p = omega arith in
      let t = a.total in
      record {
        words = same ∙ a.words ∙ sym (hashed_front m p (length m / 64) (omega arith)) ∙ ap (hashed (m ++ p)) (sym q);
        held =
            ap (λ k. take k s'.buffer) r ∙ put ∙ ap (λ x. x ++ p) a.held
            ∙ sym (drop-append-le (64 * (length m / 64)) m p (omega arith)) ∙ ap (λ k. drop (64 * k) (m ++ p)) (sym q);
        total = omega arith;
      }

  -- a part that ends a block, whose bytes are what the buffer held and the part
  pub absorbed_full : (bytes : List ℕ) → length m % 64 + length p ≡ 64
      → bytes ≡ take (length m % 64) s.buffer ++ p
      → s'.words ≡ compress s.words bytes
      → s'.total ≡ (s.total + length p) % 2 ^ 64
      → Absorbed s' (m ++ p)
  absorbed_full bytes full whole works count =
      let n = length-append m p in
      let q : length (m ++ p) / 64 ≡ suc (length m / 64) = omega arith in
      let r : length (m ++ p) % 64 ≡ 0 = omega arith in
      let t = a.total in
      let d = drop-append-le (64 * (length m / 64)) m p (omega arith) in
      let last : bytes ≡ drop (64 * (length m / 64)) (m ++ p) = whole ∙ ap (λ x. x ++ p) a.held ∙ sym d in
      let same : bytes ≡ block (m ++ p) (length m / 64) = last ∙ sym (take_all 64 (drop (64 * (length m / 64)) (m ++ p)) (simp length-drop (omega arith))) in
      record {
        words =
            works ∙ ap₂ compress (a.words ∙ sym (hashed_front m p (length m / 64) (omega arith))) same
            ∙ ap (hashed (m ++ p)) (sym q);
        held =
            ap (λ k. take k s'.buffer) r ∙ sym (drop_all (64 * (length (m ++ p) / 64)) (m ++ p) (omega arith));
        total = omega arith;
      }

-- pieces of equal length and what is left behind them are the whole
pub pieces_and_rest : (size n : ℕ) (xs : List ℕ) → flat_map (λ x. x) (first_chunks size n xs) ++ drop (n * size) xs ≡ xs
pieces_and_rest size zero xs = simp zero-mul
pieces_and_rest size (suc n) xs =
    let k : suc n * size ≡ size + n * size = omega arith in
    append_assoc (take size xs) (flat_map (λ x. x) (first_chunks size n (drop size xs))) (drop (suc n * size) xs)
    ∙ ap (λ i. take size xs ++ (flat_map (λ x. x) (first_chunks size n (drop size xs)) ++ drop i xs)) k
    ∙ ap (λ y. take size xs ++ (flat_map (λ x. x) (first_chunks size n (drop size xs)) ++ y)) (sym (drop-drop (n * size) size xs))
    ∙ ap (λ y. take size xs ++ y) (pieces_and_rest size n (drop size xs)) ∙ take-append-drop size xs

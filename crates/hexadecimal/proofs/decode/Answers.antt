use Rattle.std.proofs.Common.{◌≡◌, ℕ, ◌+◌, ◌*◌, ◌<◌, true, List, [], ◌∷◌, ◌++◌, length, get_or, take, drop, Some, None, Option, ltb, refl, sym, ap, ◌∙◌, arith}
use Rattle.std.specs.Option.{option_map}
use Rattle.std.proofs.lemmas.Bool.Decides.{Decides-ltb}
use Rattle.std.proofs.lemmas.List.{append_assoc}
use Rattle.hexadecimal.specs.Hex.{hex_value, hex_bytes}
use Rattle.hexadecimal.proofs.Refusals.{all_digits_is, refuses_odd, refuses_other}
use Rattle.hexadecimal.proofs.decode.Goals as goal
use Rattle.hexadecimal.proofs.decode.Goals.{then-hex-ne0-via-then-hex-ne0, then-hex-ne0-via-else-hex-ne0+then-not-all_digits}

-- the bytes of two digits more stand behind those so far
one_pair_more : (out : List ℕ) (a b : ℕ) (rest : List ℕ) → hex_value a < 16 → hex_value b < 16
    → option_map (λ bytes. out ++ bytes) (hex_bytes (a ∷ b ∷ rest)) ≡ option_map (λ bytes. (out ++ (hex_value a * 16 + hex_value b) ∷ []) ++ bytes) (hex_bytes rest)
one_pair_more out a b rest high low =
    let p : ltb (hex_value a) 16 ≡ true = (Decides-ltb (hex_value a) 16).1 high in
    let q : ltb (hex_value b) 16 ≡ true = (Decides-ltb (hex_value b) 16).1 low in
    simp (p, q) (by (hex_bytes rest))
  where
    by : (o : Option (List ℕ)) → option_map (λ bytes. out ++ bytes) (option_map (λ bytes. (hex_value a * 16 + hex_value b) ∷ bytes) o) ≡ option_map (λ bytes. (out ++ (hex_value a * 16 + hex_value b) ∷ []) ++ bytes) o
    by None = refl
    by (Some bytes) = ap Some (sym (append_assoc out ((hex_value a * 16 + hex_value b) ∷ []) bytes))

-- the same, of a list that begins with two digits
pair_taken : (out xs pair rest : List ℕ) (high low : ℕ) → pair ≡ take 2 xs → rest ≡ drop 2 xs → length rest + 2 ≡ length xs
    → hex_value (get_or pair 0 0) ≡ high → high < 16 → hex_value (get_or pair 1 0) ≡ low → low < 16
    → option_map (λ bytes. out ++ bytes) (hex_bytes xs) ≡ option_map (λ bytes. (out ++ (high * 16 + low) ∷ []) ++ bytes) (hex_bytes rest)
pair_taken out [] pair rest high low p r n h hs l ls = absurd (let z : ◌≡◌ {A = ℕ} (length rest + 2) 0 = n in omega arith)
pair_taken out (a ∷ []) pair rest high low p r n h hs l ls = absurd (let z : ◌≡◌ {A = ℕ} (length rest + 2) 1 = n in omega arith)
pair_taken out (a ∷ b ∷ xs) pair rest high low p r n h hs l ls =
    let ha : high ≡ hex_value a = sym h ∙ ap (λ t. hex_value (get_or t 0 0)) p in
    let lb : low ≡ hex_value b = sym l ∙ ap (λ t. hex_value (get_or t 1 0)) p in
    rw (r, ha, lb) (one_pair_more out a b xs (rw (sym ha) hs) (rw (sym lb) ls))

pub loop-high-preserved : goal.loop-high-preserved
loop-high-preserved c =
    let pair = c.in-Some.ensures.cases in
    rw (c.in_ok-push.ensures.items)
    (c.loop-high.invariant ∙ pair_taken _ _ _ _ _ _ pair.0 pair.1 pair.2 c.in-Some-Some.ensures.1 c.in-Some-Some.ensures.0 c.in-Some-Some.ensures'.1 c.in-Some-Some.ensures'.0)

pub returns-then-hex-ne0 : goal.returns-then-hex-ne0
returns-then-hex-ne0 c =
    let hex = c.args.hex.now in
    elim c.then-hex-ne0.branch [
      | then-hex-ne0-via-then-hex-ne0 w ↦ record { reads_exactly_pairs_of_digits = refuses_odd hex w.if-hex-ne0.true }
      | then-hex-ne0-via-else-hex-ne0+then-not-all_digits w ↦ record { reads_exactly_pairs_of_digits = refuses_other hex (sym (all_digits_is hex _ w.all_digits.ensures) ∙ w.if-not-all_digits.true) }
    ]

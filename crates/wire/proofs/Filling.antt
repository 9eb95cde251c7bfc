-- Parts written one after the other.
use Rattle.std.proofs.Common.{◌≡◌, ℕ, ◌+◌, ◌<◌, ◌≤◌, cond, List, ◌++◌, length, drop, is_ok, Ok, Err, ap, ◌∙◌}
use Rattle.std.proofs.lemmas.List.{append_assoc}
use Rattle.std.proofs.lemmas.Bool.{le-leb, lt-leb, cond-true, cond-false}
use Rattle.refusal.specs.declared.Refusal.{Refusal}
use Rattle.refusal.specs.declared.Refusal.TheVariants.{Malformed, ShortBuffer}
use Rattle.wire.specs.Writing.{Fields, text_length, longest, signed_text_of, writing, filled}

pub five_parts : (p q s u v rest : List ℕ) → p ++ (q ++ (s ++ (u ++ (v ++ rest)))) ≡ (p ++ (q ++ (s ++ (u ++ v)))) ++ rest
five_parts p q s u v rest = simp append_assoc

-- the three ways of writing, and what the buffer holds after each
pub too_long : (width : ℕ) (f : Fields) (room : ℕ) → longest < text_length f + width → writing width f room ≡ Err Malformed
unfolding writing
too_long width f room h = cond-false _ _ _ (lt-leb (text_length f + width) longest h)

pub too_short : (width : ℕ) (f : Fields) (room : ℕ) → text_length f + width ≤ longest → room < text_length f → writing width f room ≡ Err ShortBuffer
unfolding writing
too_short width f room h short = cond-true _ _ _ (le-leb (text_length f + width) longest h) ∙ cond-false _ _ _ (lt-leb (text_length f) room short)

pub enough : (width : ℕ) (f : Fields) (room : ℕ) → text_length f + width ≤ longest → text_length f ≤ room → writing width f room ≡ Ok (text_length f)
unfolding writing
enough width f room h l = cond-true _ _ _ (le-leb (text_length f + width) longest h) ∙ cond-true _ _ _ (le-leb (text_length f) room l)

pub unfilled : (width : ℕ) (f : Fields) (out : List ℕ) (why : Refusal) → writing width f (length out) ≡ Err why → filled width f out ≡ out
unfolding filled
unfilled width f out why is = ap (λ r. cond (is_ok r) (signed_text_of width f ++ drop (text_length f) out) out) is

pub filled_with : (width : ℕ) (f : Fields) (out : List ℕ) (n : ℕ) → writing width f (length out) ≡ Ok n → filled width f out ≡ signed_text_of width f ++ drop (text_length f) out
unfolding filled
filled_with width f out n is = ap (λ r. cond (is_ok r) (signed_text_of width f ++ drop (text_length f) out) out) is

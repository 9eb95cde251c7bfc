-- The ways through stages 2 and 3.
use Rattle.std.proofs.Common.{◌≡◌, Bool, true, false, not, cond, ◌⊎◌, Some, Err, refl, sym, ap, ◌∙◌, inl, inr}
use Rattle.std.proofs.lemmas.Bool.{eq-eqb, ne_eqb}
use Rattle.refusal.specs.declared.Refusal.TheVariants.{OtherControlNumber, WrongKind}
use denote.Enum.Bare.{sameb}
use Rattle.wire.specs.contracts.types.Kind.{the_type}
use Rattle.wire.specs.declared.types.Kind.{Kind}
use Rattle.wire.specs.declared.types.Kind.TheVariants.{Unmarked, Session, PublicKey}
use Rattle.machine.specs.Lists.{first_of}
use Rattle.machine.specs.Requests.{Presented}
use Rattle.machine.specs.Machine.{State, Answer, passing, by_session, is_kind, signs, screened_by_session, screened_by_key, screened}

module _ (s : State) (p : Presented) (kind : Kind) where
  abbrev signed : Answer
  signed = cond (by_session kind) (screened_by_session p (first_of (signs p.signed) s.sessions)) (screened_by_key s.base p)

  pub other_control : (p.signed.control ≡ p.control → ⊥) → Err OtherControlNumber ≡ screened s p kind
  unfolding screened
  other_control n = sym (ap (λ z. passing z OtherControlNumber (passing (is_kind kind p.signed.kind) WrongKind signed)) (ne_eqb p.signed.control p.control n))

  pub wrong_kind : p.signed.control ≡ p.control → false ≡ is_kind kind p.signed.kind → Err WrongKind ≡ screened s p kind
  unfolding screened
  wrong_kind e k = sym (ap (λ z. passing z OtherControlNumber (passing (is_kind kind p.signed.kind) WrongKind signed)) (eq-eqb p.signed.control p.control e) ∙ ap (λ z. passing z WrongKind signed) (sym k))

  pub passed_on : p.signed.control ≡ p.control → true ≡ is_kind kind p.signed.kind → (a : Answer) → a ≡ signed → a ≡ screened s p kind
  unfolding screened
  passed_on e k a q = q ∙ sym (ap (λ z. passing z OtherControlNumber (passing (is_kind kind p.signed.kind) WrongKind signed)) (eq-eqb p.signed.control p.control e) ∙ ap (λ z. passing z WrongKind signed) (sym k))

-- the two ways of stages 4 to 6
pub session_way : (k : Kind) → k ≡ Session → (a b : Answer) → a ≡ cond (by_session k) a b
session_way k e a b = sym (ap (λ z. cond (by_session z) a b) e)

pub no_session : (k : Kind) → (k ≡ Unmarked) ⊎ (k ≡ PublicKey) → by_session k ≡ false
no_session k (inl e) = ap by_session e
no_session k (inr e) = ap by_session e

pub key_way : (k : Kind) → (k ≡ Unmarked) ⊎ (k ≡ PublicKey) → (a b : Answer) → b ≡ cond (by_session k) a b
key_way k e a b = sym (ap (λ z. cond z a b) (no_session k e))

-- the derived comparison of two kinds is the machine's test
pub kinds_compared : (of kind : Kind) → sameb the_type of kind ≡ is_kind kind (Some of)
kinds_compared Unmarked Unmarked = refl
kinds_compared Unmarked Session = refl
kinds_compared Unmarked PublicKey = refl
kinds_compared Session Unmarked = refl
kinds_compared Session Session = refl
kinds_compared Session PublicKey = refl
kinds_compared PublicKey Unmarked = refl
kinds_compared PublicKey Session = refl
kinds_compared PublicKey PublicKey = refl

pub false_from_not : (b : Bool) → true ≡ not b → false ≡ b
false_from_not true e = sym e
false_from_not false e = refl

pub true_from_not : (b : Bool) → false ≡ not b → true ≡ b
true_from_not true e = refl
true_from_not false e = sym e

-- Arguments in two parts, once their lengths are known.
use Rattle.std.proofs.Common.{◌≡◌, ℕ, ◌+◌, ◌≤◌, List, ◌∷◌, length, take, drop, ap, ◌∙◌}
use Rattle.std.proofs.lemmas.Bool.{le-leb, eq-eqb, cond-true}
use Rattle.actions.specs.Arguments.{certificate_length, caching_of, caching_in, performing_of, perform_in}

pub certificate_and_tag : (public : ℕ) (bytes : List ℕ) → length bytes ≡ certificate_length + public → caching_in public bytes ≡ caching_of (take certificate_length bytes) (drop certificate_length bytes)
unfolding caching_in
certificate_and_tag public bytes long = cond-true _ _ _ (eq-eqb (length bytes) (certificate_length + public) long)

pub name_and_payload : (bytes : List ℕ) (n : ℕ) (rest : List ℕ) → bytes ≡ n ∷ rest → n ≤ length rest → perform_in bytes ≡ performing_of (take n rest) (drop n rest)
unfolding perform_in
name_and_payload bytes n rest is within = ap perform_in is ∙ cond-true _ _ _ (le-leb n (length rest) within)

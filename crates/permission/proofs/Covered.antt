-- The computed coverage of a term decides what the term covers.
use Rattle.std.proofs.Common.{ℕ, List, Decides, sym, refl}
use Rattle.std.specs.Str.{bytes_eq}
use Rattle.std.proofs.lemmas.Slice.Eq.{bytes_eq-Decides}
use Rattle.std.proofs.lemmas.Bool.{false≢true}
use Rattle.std.proofs.lemmas.Bool.Decides.{Decides-and, Decides-or, Decides-like}
use Rattle.permission.specs.Terms.{Term, Term.all, Term.elt, Term.prefix, Term.range, Term.set, Members, Members.none, Members.member, Covers, AnyCovers}
use Rattle.permission.specs.Reading.{not_after, covered, any_covered}
use Rattle.permission.proofs.Names.{not_after_decides, begins_with_decides}

mutual
  pub covered_decides : (term : Term) (name : List ℕ) → Decides (covered term name) (Covers term name)
  covered_decides all name = (λ _. tt, λ _. refl)
  covered_decides (elt own) name = Decides-like (bytes_eq own name) sym sym (bytes_eq-Decides own name)
  covered_decides (prefix front) name = begins_with_decides front name
  covered_decides (range low high) name =
      Decides-and (not_after low name) (not_after name high) (not_after_decides low name) (not_after_decides name high)
  covered_decides (set members) name = any_covered_decides members name

  any_covered_decides : (members : Members) (name : List ℕ) → Decides (any_covered members name) (AnyCovers members name)
  any_covered_decides none name = (λ e. false≢true e, λ h. absurd h)
  any_covered_decides (member term others) name =
      Decides-or (covered term name) (any_covered others name) (covered_decides term name) (any_covered_decides others name)

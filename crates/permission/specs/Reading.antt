-- Reading a term from bytes, and judging a name by it, as computations.
use denote.Bor.{Bor}
use Rattle.std.specs.Prelude.{ℕ, zero, suc, Bool, true, false, cond, ◌&&◌, ◌||◌, List, [], ◌∷◌, length, take, drop, is_some, Some, None, Ok, Err, Option, Result, ◌==◌, nat_le, nat_lt}
use Rattle.std.specs.Option.{option_map}
use Rattle.std.specs.List.{list_all}
use Rattle.std.specs.Str.{bytes_eq}
use Rattle.refusal.specs.declared.Refusal.{Refusal}
use Rattle.refusal.specs.declared.Refusal.TheVariants.{Malformed}
use Rattle.permission.specs.Terms.{Term, Term.all, Term.elt, Term.prefix, Term.range, Term.set, Members, Members.none, Members.member}

-- what stands at the front of some bytes, and the bytes after it; none where a rule is broken
abbrev pub Reading : Type 0 → Type 0
Reading X = Option (X × List ℕ)

-- the reading that a walk over the bytes answers, which lends the bytes after it
abbrev pub reading_of : {X : Type 0} → Option (X × Bor (List ℕ)) → Reading X
reading_of found = option_map (λ p. (p.0, p.1.now)) found

-- read on after what was read
abbrev pub then : {X Y : Type 0} → Option X → (X → Option Y) → Option Y
then None next = None
then (Some x) next = next x

abbrev pub graphic : ℕ → Bool
graphic byte = nat_le 0x21 byte && nat_le byte 0x7E

abbrev pub all_graphic : List ℕ → Bool
all_graphic bytes = list_all graphic bytes

abbrev pub is_name : List ℕ → Bool
is_name name = (nat_le 1 (length name) && nat_le (length name) 16) && all_graphic name

-- a length of at most 16, and that many graphic bytes
unfoldable pub text_in : List ℕ → Reading (List ℕ)
text_in [] = None
text_in (n ∷ rest) = cond ((nat_le n 16 && nat_le n (length rest)) && all_graphic (take n rest)) (Some (take n rest, drop n rest)) None

-- the same, and not empty
abbrev pub name_in : List ℕ → Reading (List ℕ)
name_in bytes = then (text_in bytes) (λ text. cond (nat_le 1 (length text.0)) (Some text) None)

-- byte by byte, a name before its own extensions
abbrev pub not_after : List ℕ → List ℕ → Bool
not_after [] ys = true
not_after (x ∷ xs) [] = false
not_after (x ∷ xs) (y ∷ ys) = nat_lt x y || (x == y && not_after xs ys)

-- what follows each form byte
abbrev pub elt_in : List ℕ → Reading Term
elt_in bytes = then (name_in bytes) (λ own. Some (elt own.0, own.1))

abbrev pub prefix_in : List ℕ → Reading Term
prefix_in bytes = then (text_in bytes) (λ front. Some (prefix front.0, front.1))

abbrev pub range_in : List ℕ → Reading Term
range_in bytes = then (name_in bytes) (λ low. then (name_in low.1) (λ high. cond (not_after low.0 high.0) (Some (range low.0 high.0, high.1)) None))

abbrev pub members_in : (List ℕ → Reading Term) → ℕ → List ℕ → Reading Members
members_in one zero bytes = Some (none, bytes)
members_in one (suc n) bytes = then (one bytes) (λ first. then (members_in one n first.1) (λ others. Some (member first.0 others.0, others.1)))

-- a count of at most eight, and that many terms
abbrev pub counted_in : (List ℕ → Reading Term) → List ℕ → Reading Term
counted_in one [] = None
counted_in one (n ∷ rest) = cond (nat_le n 8) (then (members_in one n rest) (λ members. Some (set members.0, members.1))) None

-- the count of at most eight alone, where a set may nest so deep
abbrev pub count_in : ℕ → List ℕ → Reading ℕ
count_in zero bytes = None
count_in (suc deep) [] = None
count_in (suc deep) (n ∷ rest) = cond (nat_le n 8) (Some (n, rest)) None

-- a term, where `sets` reads what follows the form byte of a set
abbrev pub form_in : (List ℕ → Reading Term) → List ℕ → Reading Term
form_in sets [] = None
form_in sets (form ∷ rest) = cond (form == 0x01) (Some (all, rest)) (cond (form == 0x02) (elt_in rest) (cond (form == 0x03) (prefix_in rest) (cond (form == 0x04) (range_in rest) (cond (form == 0x05) (sets rest) None))))

-- what follows the form byte of a set of at most this depth
unfoldable pub set_in : ℕ → List ℕ → Reading Term
set_in zero bytes = None
set_in (suc deep) bytes = counted_in (form_in (set_in deep)) bytes

-- a term of at most this depth
abbrev pub term_in : ℕ → List ℕ → Reading Term
term_in deep = form_in (set_in deep)

-- nothing is left over
abbrev pub ended : {X : Type 0} → Reading X → Option X
ended None = None
ended (Some p) = cond (length p.1 == 0) (Some p.0) None

-- the well-formed term that some bytes encode
unfoldable pub term_of : List ℕ → Option Term
term_of bytes = cond (nat_le (length bytes) 48) (ended (term_in 4 bytes)) None

abbrev pub well_formed : List ℕ → Bool
well_formed bytes = is_some (term_of bytes)

abbrev mutual
  -- whether a term covers a name
  pub covered : Term → List ℕ → Bool
  covered all name = true
  covered (elt own) name = bytes_eq own name
  covered (prefix front) name = bytes_eq front (take (length front) name)
  covered (range low high) name = not_after low name && not_after name high
  covered (set members) name = any_covered members name

  pub any_covered : Members → List ℕ → Bool
  any_covered none name = false
  any_covered (member term others) name = covered term name || any_covered others name

-- a reading judged by a name: whether the term covers it, and the bytes after the term
abbrev pub judged : List ℕ → Reading Term → Reading Bool
judged name reading = then reading (λ p. Some (covered p.0 name, p.1))

abbrev pub any_judged : List ℕ → Reading Members → Reading Bool
any_judged name reading = then reading (λ p. Some (any_covered p.0 name, p.1))

-- the whole of the bytes judged so, as a row of one term
abbrev pub judged_whole : List ℕ → List ℕ → Option Bool
judged_whole bytes name = cond (nat_le (length bytes) 48) (ended (any_judged name (members_in (term_in 4) 1 bytes))) None

abbrev pub verdict : Option Term → List ℕ → Result Bool Refusal
verdict None name = Err Malformed
verdict (Some term) name = cond (is_name name) (Ok (covered term name)) (Err Malformed)

-- the answer to 'does this term cover this name'
unfoldable pub covering : List ℕ → List ℕ → Result Bool Refusal
covering bytes name = verdict (term_of bytes) name

-- Permission terms: their five forms, how each is written in bytes, which are well formed, and which names they cover.
use Rattle.std.specs.Prelude.{◌≡◌, ℕ, suc, ◌≤◌, max, ◌⊎◌, List, [], ◌∷◌, ◌++◌, length}
use Rattle.permission.specs.Names.{IsText, IsName, NotAfter, BeginsWith}

mutual
  pub data Term : Type 0 where
    all : Term
    elt : List ℕ → Term
    prefix : List ℕ → Term
    range : List ℕ → List ℕ → Term
    set : Members → Term

  pub data Members : Type 0 where
    none : Members
    member : Term → Members → Members

abbrev pub count : Members → ℕ
count none = 0
count (member term others) = suc (count others)

-- a length byte and the bytes
abbrev pub counted : List ℕ → List ℕ
counted text = length text ∷ text

abbrev mutual
  -- the bytes of a term: the form byte, and what the form asks for
  pub encoding : Term → List ℕ
  encoding all = 0x01 ∷ []
  encoding (elt name) = 0x02 ∷ counted name
  encoding (prefix front) = 0x03 ∷ counted front
  encoding (range low high) = 0x04 ∷ (counted low ++ counted high)
  encoding (set members) = 0x05 ∷ count members ∷ encodings members

  pub encodings : Members → List ℕ
  encodings none = []
  encodings (member term others) = encoding term ++ encodings others

abbrev pub Encodes : Term → List ℕ → Type 0
Encodes term bytes = encoding term ≡ bytes

abbrev mutual
  -- how deep sets are nested: an empty set has depth 1
  pub depth : Term → ℕ
  depth all = 0
  depth (elt name) = 0
  depth (prefix front) = 0
  depth (range low high) = 0
  depth (set members) = suc (deepest members)

  pub deepest : Members → ℕ
  deepest none = 0
  deepest (member term others) = max (depth term) (deepest others)

abbrev mutual
  -- what each form asks of its parts
  pub Sound : Term → Type 0
  Sound all = Unit {0}
  Sound (elt name) = IsName name
  Sound (prefix front) = IsText front
  Sound (range low high) = IsName low × IsName high × NotAfter low high
  Sound (set members) = (count members ≤ 8) × EachSound members

  pub EachSound : Members → Type 0
  EachSound none = Unit {0}
  EachSound (member term others) = Sound term × EachSound others

pub record WellFormed (term : Term) : Type 0 where
  pub sound : Sound term
  pub shallow : depth term ≤ 4
  pub some : 1 ≤ length (encoding term)
  pub short : length (encoding term) ≤ 48

abbrev mutual
  -- the names that a term covers
  pub Covers : Term → List ℕ → Type 0
  Covers all name = Unit {0}
  Covers (elt own) name = name ≡ own
  Covers (prefix front) name = BeginsWith front name
  Covers (range low high) name = NotAfter low name × NotAfter name high
  Covers (set members) name = AnyCovers members name

  pub AnyCovers : Members → List ℕ → Type 0
  AnyCovers none name = ⊥
  AnyCovers (member term others) name = Covers term name ⊎ AnyCovers others name

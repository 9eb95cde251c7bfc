-- Who is authorised: by ownership, by an entry, or by a chain of certificates. Once as a relation, and once as a test.
use Rattle.std.specs.Prelude.{◌≡◌, ℕ, zero, suc, Bool, true, false, ◌&&◌, ◌||◌, ◌⊎◌, List, [], ◌∷◌, length, Decides}
use Rattle.std.specs.Str.{bytes_eq}
use Rattle.permission.specs.Names.{IsName}
use Rattle.records.specs.declared.types.Entry.{Entry}
use Rattle.records.specs.declared.types.Certificate.{Certificate}
use Rattle.records.specs.Applicability.{applicable, Applicable}
use Rattle.machine.specs.Lists.{Member, any_of, all_of}

-- # The relation

-- What is in force: the owners, the entries and the certificates.
pub record InForce : Type 1 where
  pub Owner : List ℕ → Type 0
  pub EntryHeld : Entry → Type 0
  pub CertificateHeld : Certificate → Type 0

-- A chain of links from an issuer to a subject: each subject is the next issuer, and all links but the last have the flag.
pub data DelegationChain (Link : Certificate → Type 0) (to : List ℕ) : List ℕ → Type 0 where
  last_link : (from : List ℕ) (c : Certificate) → Link c → from ≡ c.issuer → c.subject ≡ to → DelegationChain Link to from
  link : (from : List ℕ) (c : Certificate) → Link c → from ≡ c.issuer → c.scope.delegate ≡ true → DelegationChain Link to c.subject → DelegationChain Link to from

-- a certificate in force that applies at the clock to the name
abbrev pub Link : InForce → ℕ → List ℕ → Certificate → Type 0
Link now clock name c = now.CertificateHeld c × Applicable c.scope clock name

-- the hash is the subject of an entry in force that applies
pub record Entered (now : InForce) (clock : ℕ) (name hash : List ℕ) : Type 0 where
  pub entry : Entry
  pub held : now.EntryHeld entry
  pub applies : Applicable entry.scope clock name
  pub subject : entry.subject ≡ hash

-- the same by an entry with its flag
pub record MayDelegate (now : InForce) (clock : ℕ) (name hash : List ℕ) : Type 0 where
  pub entered : Entered now clock name hash
  pub flag : entered.entry.scope.delegate ≡ true

-- a chain begins with an owner, or with the subject of an entry that has its flag
abbrev pub Root : InForce → ℕ → List ℕ → List ℕ → Type 0
Root now clock name hash = now.Owner hash ⊎ MayDelegate now clock name hash

pub record ByChain (now : InForce) (clock : ℕ) (name hash : List ℕ) : Type 0 where
  pub root : List ℕ
  pub begins : Root now clock name root
  pub chain : DelegationChain (Link now clock name) hash root

abbrev pub Authorised : InForce → ℕ → List ℕ → List ℕ → Type 0
Authorised now clock name hash = now.Owner hash ⊎ (Entered now clock name hash ⊎ ByChain now clock name hash)

-- # The test, over lists

-- whether a test passes for some record of a list and the list without this record
abbrev pub any_apart : {X : Type 0} → (X → List X → Bool) → List X → Bool
any_apart test [] = false
any_apart test (x ∷ xs) = test x xs || any_apart (λ y ys. test y (x ∷ ys)) xs

-- Whether a hash may delegate: it may begin a chain, or one of the links names it whose issuer may delegate by the other
-- links. The number bounds the length of the chains that are tried.
unfoldable pub delegates : ℕ → (List ℕ → Bool) → List Certificate → List ℕ → Bool
delegates zero begins links hash = begins hash
delegates (suc most) begins links hash = begins hash || any_apart (λ c others. bytes_eq c.subject hash && delegates most begins others c.issuer) links

-- the tables that are searched
pub record Tables : Type 0 where
  pub owners : List (List ℕ)
  pub entries : List Entry
  pub certificates : List Certificate

abbrev pub is_owner : List (List ℕ) → List ℕ → Bool
is_owner owners hash = any_of (λ o. bytes_eq o hash) owners

abbrev pub is_entered : List Entry → ℕ → List ℕ → List ℕ → Bool
is_entered entries clock name hash = any_of (λ e. bytes_eq e.subject hash && applicable e.scope clock name) entries

abbrev pub may_begin : Tables → ℕ → List ℕ → List ℕ → Bool
may_begin t clock name hash = is_owner t.owners hash || any_of (λ e. e.scope.delegate && (bytes_eq e.subject hash && applicable e.scope clock name)) t.entries

-- the certificates that may stand before the last of a chain
abbrev pub flagged : List Certificate → ℕ → List ℕ → List Certificate
flagged certificates clock name = all_of (λ c. c.scope.delegate && applicable c.scope clock name) certificates

abbrev pub may_issue : Tables → ℕ → List ℕ → List ℕ → Bool
may_issue t clock name hash = delegates (length (flagged t.certificates clock name)) (may_begin t clock name) (flagged t.certificates clock name) hash

unfoldable pub authorised : Tables → ℕ → List ℕ → List ℕ → Bool
authorised t clock name hash = is_owner t.owners hash || (is_entered t.entries clock name hash || any_of (λ c. (bytes_eq c.subject hash && applicable c.scope clock name) && may_issue t clock name c.issuer) t.certificates)

-- # The two agree

-- what the tables hold is in force
abbrev pub kept_in : Tables → InForce
kept_in t = record { Owner = λ h. Member h t.owners; EntryHeld = λ e. Member e t.entries; CertificateHeld = λ c. Member c t.certificates }

-- for a name, the test says yes exactly where the relation holds, whatever the length of the chain
abbrev pub TheTestDecidesAuthorisation : Type 0
TheTestDecidesAuthorisation = (t : Tables) (clock : ℕ) (name : List ℕ) → IsName name → (hash : List ℕ) → Decides (authorised t clock name hash) (Authorised (kept_in t) clock name hash)

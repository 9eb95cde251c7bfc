-- Which certificates lead to a signer, as a relation, and marks beside the certificates that say so.
use Rattle.std.specs.Prelude.{◌≡◌, Bool, true, false, cond, ◌&&◌, ◌||◌, ◌⊎◌, List, [], ◌∷◌, Some, None, Decides, Option}
use Rattle.std.specs.Str.{bytes_eq}
use Rattle.records.specs.declared.types.Certificate.{Certificate}
use Rattle.records.specs.Applicability.{applicable}
use Rattle.machine.specs.Delegation.{may_issue}
use Rattle.machine.specs.Lists.{Member, any_of}
use Rattle.delegation.specs.Given.{Asked}
use Rattle.delegation.specs.declared.types.Mark.{Mark}
use Rattle.delegation.specs.declared.types.Mark.TheVariants.{Untried, Open, Followed, Void}

-- # The relation

abbrev pub applies : Asked → Certificate → Bool
applies q c = applicable c.scope q.clock q.name

-- A certificate leads to the signer: it applies and names the signer, or it applies, has its flag, and names the issuer of one that leads there.
pub data LeadsTo (q : Asked) : Certificate → Type 0 where
  last : (c : Certificate) → Member c q.tables.certificates → applies q c ≡ true → c.subject ≡ q.signer → LeadsTo q c
  before : (c next : Certificate) → Member c q.tables.certificates → applies q c ≡ true → c.scope.delegate ≡ true → c.subject ≡ next.issuer → LeadsTo q next → LeadsTo q c

-- # The marks

-- whether a mark says that the certificate leads
abbrev pub leads : Mark → Bool
leads Untried = false
leads Open = true
leads Followed = true
leads Void = false

-- a certificate and the mark at its place
abbrev pub Beside : Certificate → Mark → List Certificate → List Mark → Type 0
Beside c m [] ms = ⊥
Beside c m (d ∷ ds) [] = ⊥
Beside c m (d ∷ ds) (n ∷ ns) = ((c ≡ d) × (m ≡ n)) ⊎ Beside c m ds ns

-- whether a link names whom it is to lead to: the signer as the last one, in any case, and the issuer of the next by its flag
abbrev pub names : Asked → Option Certificate → Certificate → Bool
names q None c = bytes_eq c.subject q.signer
names q (Some next) c = bytes_eq c.subject next.issuer && c.scope.delegate

-- the mark of a certificate that was looked at: what was tried before is left alone
abbrev pub tried : Bool → Bool → Mark → Mark
tried named applied Untried = cond named (cond applied Open Void) Untried
tried named applied Open = Open
tried named applied Followed = Followed
tried named applied Void = Void

abbrev pub looked : Asked → Option Certificate → Certificate → Mark → Mark
looked q next c m = tried (names q next c) (applies q c) m

-- the marks after a look at each certificate
abbrev pub marked : (Certificate → Mark → Mark) → List Certificate → List Mark → List Mark
marked look [] ms = ms
marked look (c ∷ cs) [] = []
marked look (c ∷ cs) (m ∷ ms) = look c m ∷ marked look cs ms

-- whether a certificate that leads passes the test
abbrev pub any_leading : (Certificate → Bool) → List Certificate → List Mark → Bool
any_leading test [] ms = false
any_leading test (c ∷ cs) [] = false
any_leading test (c ∷ cs) (m ∷ ms) = (leads m && test c) || any_leading test cs ms

-- the marks tell of each certificate whether it leads to the signer
abbrev pub Tells : Asked → List Mark → Type 0
Tells q marks = (c : Certificate) (m : Mark) → Beside c m q.tables.certificates marks → Decides (leads m) (LeadsTo q c)

-- whether a chain of certificates ends with the signer
abbrev pub by_chain : Asked → Bool
by_chain q = any_of (λ c. (bytes_eq c.subject q.signer && applies q c) && may_issue q.tables q.clock q.name c.issuer) q.tables.certificates

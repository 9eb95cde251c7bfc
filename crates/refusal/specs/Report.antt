-- What a caller is told of a refusal.
use Rattle.std.specs.Prelude.{List, [], ℕ}
use Rattle.refusal.specs.declared.Refusal.{Refusal}
use Rattle.refusal.specs.declared.Refusal.TheVariants.{Malformed, UnknownAction, OtherControlNumber, WrongKind, NoSession, BadTag, StaleNumber, OtherBase, BaseExhausted, NotAuthorised, OtherDevice, BadIssuerTag, RevokesItself, NotListed, AlreadyListed, TableFull, NotTaken, ShortBuffer}

-- the stage of checking at which the request stops, the error code, and the values that go with it
pub record Report : Type 0 where
  pub stage : ℕ
  pub code : ℕ
  pub values : List ℕ

abbrev pub told : ℕ → ℕ → Report
told stage code = record { stage = stage; code = code; values = [] }

abbrev pub report : Refusal → Report
report Malformed = told 1 402
report UnknownAction = told 1 401
report OtherControlNumber = told 2 715
report WrongKind = told 3 712
report NoSession = told 4 781
report BadTag = told 5 711
report StaleNumber = told 6 714
report OtherBase = told 6 714
report BaseExhausted = told 6 501
report NotAuthorised = told 7 701
report OtherDevice = told 8 803
report BadIssuerTag = told 8 711
report RevokesItself = told 9 763
report NotListed = told 9 764
report AlreadyListed = told 9 802
report TableFull = told 9 801
report NotTaken = told 9 501
report ShortBuffer = told 9 501

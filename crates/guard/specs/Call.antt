-- What a delivery does to the guard and its service, and to the history so far.
use Rattle.std.specs.Prelude.{◌≡◌, ℕ, Bool, List, [], ◌∷◌, Option}
use Rattle.parties.specs.Commands.{Command}
use Rattle.machine.specs.Requests.{Delivery}
use Rattle.machine.specs.Machine.{State, Answer, answer, changed}
use Rattle.machine.specs.History.{Event, History}
use Rattle.machine.specs.Law.{AtEveryMoment, Lived}

-- the answer and the state after are exactly those of the machine
pub record Stepped (s : State) (d : Delivery) (taken : Bool) (r : Answer) (t : State) : Type 0 where
  pub answer_is : r ≡ answer s d taken
  pub after_is : t ≡ changed s d r

-- a delivery with its answer, and the service after it
abbrev pub event : Delivery → Bool → Answer → State → Event
event d taken r t = record { delivery = d; taken = taken; answer = r; done = t.done; last = t.last }

-- a history with one delivery more
abbrev pub then : History → Event → History
then past e = record { making = past.making; events = e ∷ past.events }

-- every history that led to s leads on to t, and is lawful at every moment
abbrev pub LawfulOn : State → Delivery → Bool → Answer → State → Type 0
LawfulOn s d taken r t = (past : History) → Lived past s → Lived (then past (event d taken r t)) t × AtEveryMoment past.making (then past (event d taken r t)).events

-- a history begins at s, with nothing delivered yet, and is lawful
pub record Begins (device password : List ℕ) (base done : ℕ) (last : Option Command) (s : State) : Type 0 where
  pub lived : Lived (record { making = record { device = device; password = password; base = base; done = done; last = last }; events = [] }) s
  pub lawful : AtEveryMoment (record { device = device; password = password; base = base; done = done; last = last }) []

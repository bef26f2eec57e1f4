-- What a start and a call of a scheduler promise of every run that they are part of.
use Rattle.std.specs.Prelude.{◌≡◌, ℕ, ◌+◌, ◌<◌, Bool, [], ◌∷◌, Ok, Result}
use Rattle.plan.specs.Rules.{Layout}
use Rattle.model.specs.declared.requests.Outcome.TheVariants.{Overrun}
use Rattle.model.specs.declared.requests.Stage.TheVariants.{Reserved, Ended}
use Rattle.model.specs.declared.calls.Call.{Call}
use Rattle.model.specs.declared.calls.Call.TheVariants.{Tick}
use Rattle.model.specs.declared.refusals.Refusal.{Refusal}
use Rattle.model.specs.declared.calls.Answer.{Answer}
use Rattle.model.specs.declared.calls.Answer.TheVariants.{Ticket}
use Rattle.model.specs.Records.{at}
use Rattle.model.specs.States.{State, run_limit}
use Rattle.model.specs.Moves.{ready}
use Rattle.model.specs.Calls.{answer, after}
use Rattle.model.specs.Runs.{Trace, Reached}
use Rattle.model.specs.Promises.{Sound}
use Rattle.model.specs.Grants.{accepted, Settled, Ordered, OwnPartition, Turns}
use Rattle.model.specs.Feeds.{Progress, TickTells, GoesOn}
use Rattle.model.specs.Stops.{Unstopped}

-- a request that ended as overrun had used all its run ticks
abbrev pub RanOut : State → Type 0
RanOut s = (i slot : ℕ) → i < 16 → (at s.records i).stage ≡ Ended slot Overrun → (at s.records i).run ≡ run_limit s.layout (at s.records i)

-- the rules that every state of a run keeps
pub record Ruled (first : ℕ) (h : Trace) (s : State) : Type 0 where
  -- tickets rise by one at each acceptance
  pub next : s.next ≡ first + accepted h
  pub settled : Settled s
  pub ordered : Ordered s
  pub own_partition : OwnPartition s
  pub progress : Progress s
  pub ran_out : RanOut s
  pub unstopped : Unstopped s

-- the rules that every call of a run keeps
pub record Step (s : State) (c : Call) (a : Result Answer Refusal) (s' : State) : Type 0 where
  -- the plan, the kind of port and its rate stay
  pub layout : s'.layout ≡ s.layout
  pub interrupts : s'.interrupts ≡ s.interrupts
  pub rate : s'.port.rate ≡ s.port.rate
  -- a ticket that is given is the next one
  pub ticket : (t : ℕ) → a ≡ Ok (Ticket t) → t ≡ s.next
  pub turns : (k : ℕ) → Turns s s' k
  -- a tick writes by the rules of the port, once overruns have ended and free slots are granted
  pub writes : c ≡ Tick → TickTells (ready s) a
  pub granted : c ≡ Tick → Settled (ready s)
  pub unstopped : c ≡ Tick → Unstopped (ready s)
  pub goes_on : (i slot : ℕ) → i < 16 → (at s.records i).stage ≡ Reserved slot → GoesOn s a s' i slot

-- a start: the run without a call leads to its state, and keeps the promises and the rules
pub record Opened (l : Layout) (interrupts : Bool) (first : ℕ) (s : State) : Type 0 where
  pub reached : Reached l interrupts first [] s
  pub sound : Sound [] s
  pub ruled : Ruled first [] s

-- the call gives its answer and leaves its state; every run that led to s goes on by it, and the run that results keeps the promises and the rules
pub record Performed (s : State) (c : Call) (a : Result Answer Refusal) (s' : State) : Type 0 where
  pub answered : a ≡ answer s c
  pub left : s' ≡ after s c
  pub runs : (l : Layout) (interrupts : Bool) (first : ℕ) (h : Trace) → Reached l interrupts first h s → Reached l interrupts first (record { before = s; call = c; answer = a } ∷ h) s'
  pub sound : (l : Layout) (interrupts : Bool) (first : ℕ) (h : Trace) → Reached l interrupts first h s → Sound (record { before = s; call = c; answer = a } ∷ h) s'
  pub ruled : (l : Layout) (interrupts : Bool) (first : ℕ) (h : Trace) → Reached l interrupts first h s → Ruled first (record { before = s; call = c; answer = a } ∷ h) s'
  pub step : (l : Layout) (interrupts : Bool) (first : ℕ) (h : Trace) → Reached l interrupts first h s → Step s c a s'

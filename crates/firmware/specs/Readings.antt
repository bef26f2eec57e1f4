-- How a reading goes: its claim is awaited, its request ends in time, and the claims of other tasks are kept.
use Rattle.std.specs.Prelude.{◌≡◌, ℕ, Bool, false, cond, Ok, Err, Result, nat_le}
use Rattle.model.specs.declared.refusals.Refusal.{Refusal}
use Rattle.model.specs.Records.{at, ended_stage}
use Rattle.model.specs.States.{State}
use Rattle.claims.specs.declared.Claim.{Claim}
use Rattle.claims.specs.Claims.{Names}
use Rattle.firmware.specs.declared.readings.Asked.{Asked}
use Rattle.claims.specs.Awaits.{Run, Awaited, Over, Onward, Keeps, any, other_than}

-- the request of a task has ended
abbrev pub ended_in : State → ℕ → Bool
ended_in s task = cond (nat_le s.layout.tasks task) false (ended_stage (at s.records task).stage)

-- calls that keep every claim
pub record GoesOn (s s' : State) : Type 0 where
  pub keeps : Keeps any s s'
  pub goes_on : Run s → Onward s s'

-- a request ends within its stay, and its claim names its task
pub record Ready (s : State) (r : Asked) : Type 0 where
  pub names : Names r.task r.claim
  pub awaited : Awaited s r.claim r.stay

-- the request of a task
abbrev pub Of : ℕ → Asked → Type 0
Of task r = r.task ≡ task

-- the request of a claim has ended and can be collected
pub record Watched (s : State) (c : Claim) (s' : State) : Type 0 where
  pub over : Over s' c
  pub awaits : (n : ℕ) × Awaited s' c n
  pub others : GoesOn s s'

-- a task's claim is collected, and those of the others are kept
pub record Collected (task : ℕ) (s s' : State) : Type 0 where
  pub keeps : Keeps (other_than task) s s'
  pub goes_on : Run s → Onward s s'

abbrev pub CollectedIf : State → State → Result Asked Refusal → Type 0
CollectedIf s s' (Ok r) = Collected r.task s s'
CollectedIf s s' (Err why) = GoesOn s s'

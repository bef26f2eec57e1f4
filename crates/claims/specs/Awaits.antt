-- What claims stand for in a run: requests that were accepted and are not collected, and how long they can take yet.
use Rattle.std.specs.Prelude.{◌≡◌, ℕ, ◌+◌, ◌<◌, ◌≤◌, Bool, false, length, Ok, Err, Result}
use Rattle.plan.specs.Rules.{Layout}
use Rattle.delays.specs.Delays.{stay}
use Rattle.model.specs.declared.refusals.Refusal.{Refusal}
use Rattle.model.specs.declared.requests.Report.{Report}
use Rattle.model.specs.States.{State}
use Rattle.model.specs.Runs.{Trace, Reached}
use Rattle.model.specs.Promises.{Since, collected, ticks, unended}
use Rattle.claims.specs.declared.Claim.{Claim}

-- a run that led to s
pub record Run (s : State) : Type 0 where
  pub layout : Layout
  pub interrupts : Bool
  pub first : ℕ
  pub trace : Trace
  pub reached : Reached layout interrupts first trace s

-- the stay of accelerator a in the delay table
unfoldable pub stay_in : State → ℕ → ℕ
stay_in s a = stay s.layout s.port.rate s.interrupts a

-- in a run that led to s the request of a claim was accepted and is not collected; with n more ticks it has all of its stay
pub record Awaited (s : State) (c : Claim) (n : ℕ) : Type 0 where
  pub run : Run s
  pub accelerator : ℕ
  pub later : Trace
  pub since : Since c.task accelerator c.ticket later run.trace
  pub uncollected : collected run.trace c.ticket ≡ 0
  pub soon : stay_in s accelerator ≤ ticks later c.task c.ticket + n

-- the request of a claim has ended
abbrev pub Over : State → Claim → Type 0
Over s c = unended s c.task c.ticket ≡ false

-- a run that led to s goes on to s', on the same plan and with the same stays
pub record Onward (s s' : State) : Type 0 where
  pub run : Run s'
  pub layout : s'.layout ≡ s.layout
  pub stays : (a : ℕ) → stay_in s' a ≡ stay_in s a

-- the claims that p allows are kept: one that was awaited is awaited still, and no longer than before
abbrev pub Keeps : (Claim → Type 0) → State → State → Type 0
Keeps p s s' = (c : Claim) (n : ℕ) → p c → Awaited s c n → Awaited s' c n

abbrev pub any : Claim → Type 0
any c = Unit {0}

-- the claim of another task
abbrev pub other_than : ℕ → Claim → Type 0
other_than task c = c.task ≡ task → ⊥

-- a claim that is handed over is for an accelerator of the plan, and is awaited for its stay
pub record Handed (s : State) (a : ℕ) (c : Claim) : Type 0 where
  pub known : a < length s.layout.accelerators
  pub awaited : Awaited s c (stay_in s a)

abbrev pub HandedIf : State → ℕ → Result Claim Refusal → Type 0
HandedIf s a (Ok c) = Handed s a c
HandedIf s a (Err why) = Unit {0}

-- a request in a run: all claims are kept, and the one that is handed over is awaited
pub record HandsOver (s : State) (a : ℕ) (s' : State) (r : Result Claim Refusal) : Type 0 where
  pub keeps : Keeps any s s'
  pub goes_on : Run s → Onward s s'
  pub handed : Run s → HandedIf s' a r

-- a collection in a run: the claims of other tasks are kept; it is accepted once the request has ended, as it has after its stay;
-- refused, the claim is kept too
pub record GivesBack (s : State) (c : Claim) (s' : State) (r : Result Report Refusal) : Type 0 where
  pub keeps : Keeps (other_than c.task) s s'
  pub goes_on : Run s → Onward s s'
  pub accepted : (n : ℕ) → Awaited s c n → Over s c → (told : Report) × (r ≡ Ok told)
  pub in_time : Awaited s c 0 → (told : Report) × (r ≡ Ok told)
  pub refused : (why : Refusal) (n : ℕ) → r ≡ Err why → Awaited s c n → Awaited s' c n

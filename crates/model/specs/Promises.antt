-- What holds of every run: how long requests take, where tickets and slots are, and what runs in a slot.
use Rattle.std.specs.Prelude.{◌≡◌, ℕ, ◌+◌, ◌<◌, ◌≤◌, Bool, true, false, ◌&&◌, ◌⊎◌, [], ◌∷◌, Ok, Err, count_by, Result, ◌==◌, ◌≢◌, nat_eq}
use Rattle.std.specs.List.{range_with_len}
use Rattle.plan.specs.Slots.{SlotIn}
use Rattle.delays.specs.Delays.{partition_at, accelerator_at, delay, stay}
use Rattle.ports.specs.Meaning.{Entry, entry_at}
use Rattle.model.specs.declared.requests.Outcome.{Outcome}
use Rattle.model.specs.declared.requests.Outcome.TheVariants.{Finished, Overrun, Flaw}
use Rattle.model.specs.declared.requests.Stage.{Stage}
use Rattle.model.specs.declared.requests.Stage.TheVariants.{Empty, Queued, Reserved, Running, Ended}
use Rattle.model.specs.declared.requests.Record.{Record}
use Rattle.model.specs.declared.requests.Report.{Report}
use Rattle.model.specs.declared.calls.Call.{Call}
use Rattle.model.specs.declared.calls.Call.TheVariants.{Request, Tick, Done, Collect, StageOf}
use Rattle.model.specs.declared.refusals.Refusal.{Refusal}
use Rattle.model.specs.declared.calls.Answer.{Answer}
use Rattle.model.specs.declared.calls.Answer.TheVariants.{Ticket, Ticked, Completed, Collected, Stands}
use Rattle.model.specs.Refusals.{refusal_number}
use Rattle.model.specs.Records.{at, one, occupant_stage, slot_of}
use Rattle.model.specs.States.{State, line}
use Rattle.model.specs.Calls.{collect_answer}
use Rattle.model.specs.Runs.{Event, Trace}

-- ---- who holds a ticket

-- refused only because the request is unended
abbrev pub too_early : Result Answer Refusal → Bool
too_early (Ok (Ticket t)) = false
too_early (Ok (Ticked o n)) = false
too_early (Ok (Completed t)) = false
too_early (Ok (Collected r)) = false
too_early (Ok (Stands σ)) = false
too_early (Err why) = refusal_number why == 32

-- accepted, or refused only because the request is unended
abbrev pub collectable : Result Answer Refusal → Bool
collectable (Ok (Ticket t)) = false
collectable (Ok (Ticked o n)) = false
collectable (Ok (Completed t)) = false
collectable (Ok (Collected r)) = true
collectable (Ok (Stands σ)) = false
collectable (Err why) = refusal_number why == 32

-- a task holds a ticket, and its request is unended, by what collect would answer
abbrev pub holds : State → ℕ → ℕ → Bool
holds s task t = collectable (collect_answer s task t)

abbrev pub unended : State → ℕ → ℕ → Bool
unended s task t = too_early (collect_answer s task t)

-- how many tasks hold ticket t
abbrev pub holders : State → ℕ → ℕ
holders s t = count_by (λ i. holds s i t) (range_with_len 0 16)

-- ---- what a run gave and collected

abbrev pub gives : Result Answer Refusal → ℕ → ℕ
gives (Ok (Ticket u)) t = one (u == t)
gives (Ok (Ticked o n)) t = 0
gives (Ok (Completed u)) t = 0
gives (Ok (Collected r)) t = 0
gives (Ok (Stands σ)) t = 0
gives (Err why) t = 0

abbrev pub names : Call → ℕ → ℕ
names (Request i a) t = 0
names Tick t = 0
names (Done slot) t = 0
names (Collect i u) t = one (u == t)
names (StageOf i) t = 0

abbrev pub collects : Call → Result Answer Refusal → ℕ → ℕ
collects c (Ok (Ticket u)) t = 0
collects c (Ok (Ticked o n)) t = 0
collects c (Ok (Completed u)) t = 0
collects c (Ok (Collected r)) t = names c t
collects c (Ok (Stands σ)) t = 0
collects c (Err why) t = 0

-- how often ticket t was given, and collected
abbrev pub given : Trace → ℕ → ℕ
given [] t = 0
given (e ∷ h) t = gives e.answer t + given h t

abbrev pub collected : Trace → ℕ → ℕ
collected [] t = 0
collected (e ∷ h) t = collects e.call e.answer t + collected h t

-- the request of a task for accelerator a was accepted with ticket t, and `later` are the calls since
pub data Since (task a t : ℕ) : Trace → Trace → Type 0 where
  here : {h : Trace} (s : State) → Since task a t [] (record { before = s; call = Request task a; answer = Ok (Ticket t) } ∷ h)
  there : {later h : Trace} (e : Event) → Since task a t later h → Since task a t (e ∷ later) (e ∷ h)

-- ticket t of a task was collected, and r was told
pub data Told (task t : ℕ) (r : Report) : Trace → Type 0 where
  here : {h : Trace} (s : State) → Told task t r (record { before = s; call = Collect task t; answer = Ok (Collected r) } ∷ h)
  there : {h : Trace} (e : Event) → Told task t r h → Told task t r (e ∷ h)

-- ---- ticks and counts of a request

abbrev pub ticking : Call → Bool
ticking (Request i a) = false
ticking Tick = true
ticking (Done slot) = false
ticking (Collect i u) = false
ticking (StageOf i) = false

-- of the calls since a request was accepted, the tick calls up to the one that ends it, that one included:
-- those that were made while it was unended
abbrev pub ticks : Trace → ℕ → ℕ → ℕ
ticks [] task t = 0
ticks (e ∷ later) task t = one (ticking e.call && unended e.before task t) + ticks later task t

-- the three counts, and whether the request ended as overrun
pub record Counts : Type 0 where
  pub waited : ℕ
  pub written : ℕ
  pub run : ℕ
  pub overran : Bool

abbrev pub overrun : Outcome → Bool
overrun Finished = false
overrun Overrun = true
overrun (Flaw block board) = false

abbrev pub overrun_stage : Stage → Bool
overrun_stage Empty = false
overrun_stage Queued = false
overrun_stage (Reserved s) = false
overrun_stage (Running s) = false
overrun_stage (Ended s o) = overrun o

abbrev pub recorded : Record → Counts
recorded r = record { waited = r.waited; written = r.written; run = r.run; overran = overrun_stage r.stage }

abbrev pub reported : Report → Counts
reported r = record { waited = r.waited; written = r.written; run = r.run; overran = overrun r.outcome }

-- the counts of a request: its record's while a task holds the ticket, and what was told when it was collected
pub data Counted (h : Trace) (s : State) (task t : ℕ) : Counts → Type 0 where
  held : holds s task t ≡ true → Counted h s task t (recorded (at s.records task))
  told : (r : Report) → Told task t r h → Counted h s task t (reported r)

-- ---- how long it takes: a request for accelerator a with ticket t that was accepted, and the calls since

pub record Timed (h : Trace) (s : State) (task a t : ℕ) (later : Trace) : Type 0 where
  -- it is over by its stay
  pub over : ticks later task t ≤ stay s.layout s.port.rate s.interrupts a
  pub under : unended s task t ≡ true → ticks later task t < stay s.layout s.port.rate s.interrupts a
  -- it has counts; each of its ticks is counted once, and an overrun takes one more
  pub counted : (c : Counts) × Counted h s task t c
  pub counts : (c : Counts) → Counted h s task t c → ticks later task t ≡ c.waited + c.written + c.run + one c.overran
  -- it waits no longer than its delay
  pub waits : (c : Counts) → Counted h s task t c → c.waited ≤ delay s.layout s.port.rate s.interrupts a

-- ---- where tickets are

pub record Kept (h : Trace) (s : State) : Type 0 where
  -- a ticket that was given is collected or held, no other is, and none is given or collected twice
  pub all : (t : ℕ) → given h t ≡ collected h t + holders s t
  pub given_once : (t : ℕ) → given h t ≤ 1
  pub collected_once : (t : ℕ) → collected h t ≤ 1
  -- only the task that got it holds it
  pub own : (task t : ℕ) → holds s task t ≡ true → (a : ℕ) × (later : Trace) × Since task a t later h
  -- it was collected by the task that got it, and the accelerator told is the one requested
  pub told_own : (task t : ℕ) (r : Report) → Told task t r h → (later : Trace) × Since task r.accelerator t later h

-- ---- where slots are

-- how often a slot stands in the line of partition k
abbrev pub standing : State → ℕ → ℕ → ℕ
standing s k slot = count_by (λ x. nat_eq x slot) (line s k)

-- how many unended requests have a slot
abbrev pub has_slot : ℕ → Record → Bool
has_slot slot r = occupant_stage r.stage && slot_of r.stage == slot

abbrev pub having : State → ℕ → ℕ
having s slot = count_by (has_slot slot) s.records

pub record Shared (s : State) : Type 0 where
  -- a slot stands once in the line of its partition and no unended request has it, or exactly one has it and it stands in none
  pub either : (k slot : ℕ) → SlotIn s.layout slot k → ((standing s k slot ≡ 1) × (having s slot ≡ 0)) ⊎ ((standing s k slot ≡ 0) × (having s slot ≡ 1))
  pub nowhere : (k j slot : ℕ) → SlotIn s.layout slot k → (j ≢ k) → standing s j slot ≡ 0

-- ---- what runs in a slot is whole there

pub record Whole (s : State) (a slot : ℕ) (e : Entry) : Type 0 where
  pub image : e.image ≡ a
  pub size : e.size ≡ (partition_at s.layout (accelerator_at s.layout a).partition).size
  pub written : e.written ≡ e.size

abbrev pub Images : State → Type 0
Images s = (i slot : ℕ) → i < 16 → (at s.records i).stage ≡ Running slot → Whole s (at s.records i).accelerator slot (entry_at s.port slot)

-- ---- all of it

pub record Sound (h : Trace) (s : State) : Type 0 where
  pub timed : (task a t : ℕ) (later : Trace) → Since task a t later h → Timed h s task a t later
  pub kept : Kept h s
  pub shared : Shared s
  pub images : Images s

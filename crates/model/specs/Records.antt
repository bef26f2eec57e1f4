-- The request records: the stages by name, and the lowest ticket among some of them.
use Rattle.std.specs.Prelude.{ℕ, zero, suc, ◌+◌, min, Bool, true, false, cond, ◌&&◌, List, length, Some, None, Option, nat_lt, slice_index_or}
use Rattle.model.specs.declared.requests.Outcome.{Outcome}
use Rattle.model.specs.declared.requests.Outcome.TheVariants.{Finished}
use Rattle.model.specs.declared.requests.Stage.{Stage}
use Rattle.model.specs.declared.requests.Stage.TheVariants.{Empty, Queued, Reserved, Running, Ended}
use Rattle.model.specs.declared.requests.Record.{Record}

-- a record that holds no request
abbrev pub blank : Record
blank = record { accelerator = 0; ticket = 0; stage = Empty; waited = 0; written = 0; run = 0 }

abbrev pub at : List Record → ℕ → Record
at rs i = slice_index_or rs i blank

abbrev pub queued_stage : Stage → Bool
queued_stage Empty = false
queued_stage Queued = true
queued_stage (Reserved s) = false
queued_stage (Running s) = false
queued_stage (Ended s o) = false

abbrev pub reserved_stage : Stage → Bool
reserved_stage Empty = false
reserved_stage Queued = false
reserved_stage (Reserved s) = true
reserved_stage (Running s) = false
reserved_stage (Ended s o) = false

abbrev pub running_stage : Stage → Bool
running_stage Empty = false
running_stage Queued = false
running_stage (Reserved s) = false
running_stage (Running s) = true
running_stage (Ended s o) = false

-- a record that holds a request, ended or not
abbrev pub held_stage : Stage → Bool
held_stage Empty = false
held_stage Queued = true
held_stage (Reserved s) = true
held_stage (Running s) = true
held_stage (Ended s o) = true

-- queued or reserved
abbrev pub waiting_stage : Stage → Bool
waiting_stage Empty = false
waiting_stage Queued = true
waiting_stage (Reserved s) = true
waiting_stage (Running s) = false
waiting_stage (Ended s o) = false

-- reserved or running: the slot is the request's
abbrev pub occupant_stage : Stage → Bool
occupant_stage Empty = false
occupant_stage Queued = false
occupant_stage (Reserved s) = true
occupant_stage (Running s) = true
occupant_stage (Ended s o) = false

abbrev pub unended_stage : Stage → Bool
unended_stage Empty = false
unended_stage Queued = true
unended_stage (Reserved s) = true
unended_stage (Running s) = true
unended_stage (Ended s o) = false

abbrev pub ended_stage : Stage → Bool
ended_stage Empty = false
ended_stage Queued = false
ended_stage (Reserved s) = false
ended_stage (Running s) = false
ended_stage (Ended s o) = true

-- the slot of a request that has or had one
abbrev pub slot_of : Stage → ℕ
slot_of Empty = 0
slot_of Queued = 0
slot_of (Reserved s) = s
slot_of (Running s) = s
slot_of (Ended s o) = s

-- how an ended request ended
abbrev pub outcome_of : Stage → Outcome
outcome_of Empty = Finished
outcome_of Queued = Finished
outcome_of (Reserved s) = Finished
outcome_of (Running s) = Finished
outcome_of (Ended s o) = o

abbrev pub one : Bool → ℕ
one b = cond b 1 0

-- one more, as far as a number of 32 bits goes
abbrev pub up : ℕ → ℕ
up n = min (n + 1) 4294967295

-- the same request at another stage
abbrev pub staged : Record → Stage → Record
staged r σ = record { accelerator = r.accelerator; ticket = r.ticket; stage = σ; waited = r.waited; written = r.written; run = r.run }

-- a new request
abbrev pub new : ℕ → ℕ → Record
new a t = record { accelerator = a; ticket = t; stage = Queued; waited = 0; written = 0; run = 0 }

-- a record after a tick that did not write it: a waiting request waited, a running one ran
abbrev pub aged : Record → Record
aged r = record { accelerator = r.accelerator; ticket = r.ticket; stage = r.stage; waited = cond (waiting_stage r.stage) (up r.waited) r.waited; written = r.written; run = cond (running_stage r.stage) (up r.run) r.run }

-- a record after a tick that wrote it
abbrev pub fed_record : Record → Stage → Record
fed_record r σ = record { accelerator = r.accelerator; ticket = r.ticket; stage = σ; waited = r.waited; written = up r.written; run = r.run }

-- record n against the lowest one before it
abbrev pub lower : (Record → Bool) → List Record → ℕ → Option ℕ → Option ℕ
lower p rs n None = cond (p (at rs n)) (Some n) None
lower p rs n (Some i) = cond (p (at rs n) && nat_lt (at rs n).ticket (at rs i).ticket) (Some n) (Some i)

-- the place of the lowest ticket among the first n records with property p, if there is one
unfoldable pub lowest_below : (Record → Bool) → List Record → ℕ → Option ℕ
lowest_below p rs zero = None
lowest_below p rs (suc n) = lower p rs n (lowest_below p rs n)

-- and among all of them
abbrev pub lowest : (Record → Bool) → List Record → Option ℕ
lowest p rs = lowest_below p rs (length rs)

-- x where nothing is found, and what f makes of the place that is
abbrev pub on_found : {A : Type 0} → Option ℕ → A → (ℕ → A) → A
on_found None x f = x
on_found (Some i) x f = f i

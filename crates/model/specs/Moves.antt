-- How requests move: a grant, an end, settling, and the parts of a tick.
use Rattle.std.specs.Prelude.{ℕ, zero, suc, ◌-◌, Bool, cond, ◌&&◌, List, [], ◌∷◌, ◌++◌, map, length, take, Some, None, Ok, Err, Option, Result, ◌==◌, nat_lt, slice_set}
use Rattle.plan.specs.Rules.{Layout}
use Rattle.delays.specs.Delays.{partition_at}
use Rattle.ports.specs.declared.answers.Refusal.{Refusal}
use Rattle.ports.specs.declared.answers.Fed.{Fed}
use Rattle.ports.specs.declared.answers.Fed.TheVariants.{Wrote, Flawed}
use Rattle.ports.specs.Meaning.{Meaning, entry_at}
use Rattle.ports.specs.Calls.{open_after, shut_after, feed_answer, feed_after}
use Rattle.model.specs.declared.requests.Outcome.{Outcome}
use Rattle.model.specs.declared.requests.Outcome.TheVariants.{Overrun, Flaw}
use Rattle.model.specs.declared.requests.Stage.{Stage}
use Rattle.model.specs.declared.requests.Stage.TheVariants.{Empty, Queued, Reserved, Running, Ended}
use Rattle.model.specs.declared.requests.Record.{Record}
use Rattle.model.specs.Records.{at, queued_stage, reserved_stage, running_stage, slot_of, staged, aged, fed_record, lowest, on_found}
use Rattle.model.specs.States.{State, moved, line, part, run_limit}

-- queued for a slot of partition k
abbrev pub queued_in : Layout → ℕ → Record → Bool
queued_in l k r = queued_stage r.stage && part l r == k

abbrev pub is_reserved : Record → Bool
is_reserved r = reserved_stage r.stage

-- running in a slot
abbrev pub runs_in : ℕ → Record → Bool
runs_in slot r = running_stage r.stage && slot_of r.stage == slot

-- running, with all its run ticks used
abbrev pub expired : Layout → Record → Bool
expired l r = running_stage r.stage && r.run == run_limit l r

-- reserved, and written already
abbrev pub begun : Record → Bool
begun r = reserved_stage r.stage && nat_lt 0 r.written

-- the request at place i takes the slot, the rest of the line of partition k stays
abbrev pub grant : State → ℕ → ℕ → ℕ → List ℕ → State
grant s k i slot rest =
    moved s (slice_set s.records i (staged (at s.records i) (Reserved slot))) (slice_set s.lines k rest)
    (open_after s.port slot (at s.records i).accelerator (partition_at s.layout k).size)

-- a line of 8 places, with one slot more at its end if there is room
abbrev pub joined : List ℕ → ℕ → List ℕ
joined line slot = take 8 (line ++ slot ∷ [])

-- a slot is shut and joins the end of the line of partition k
abbrev pub free : State → ℕ → ℕ → State
free s k slot = moved s s.records (slice_set s.lines k (joined (line s k) slot)) (shut_after s.port slot)

-- the request at place i, which has a slot, ends, and its slot is freed
abbrev pub finish : State → ℕ → Outcome → State
finish s i outcome =
    free (moved s (slice_set s.records i (staged (at s.records i) (Ended (slot_of (at s.records i).stage) outcome))) s.lines s.port)
    (part s.layout (at s.records i)) (slot_of (at s.records i).stage)

-- the slots of a line go to the queued requests of partition k, first to lowest ticket, until one or the other runs out
unfoldable pub fill : ℕ → List ℕ → State → State
fill k [] s = s
fill k (slot ∷ rest) s =
    on_found (lowest (queued_in s.layout k) s.records) s (λ i. fill k rest (grant s k i slot rest))

-- settling, for the partitions below n
unfoldable pub settle_below : ℕ → State → State
settle_below zero s = s
settle_below (suc k) s = let s' : State = settle_below k s in fill k (line s' k) s'

abbrev pub settle : State → State
settle s = settle_below (length s.layout.partitions) s

-- up to n expired requests end as overrun, by rising ticket
unfoldable pub expire_up_to : ℕ → State → State
expire_up_to zero s = s
expire_up_to (suc n) s =
    on_found (lowest (expired s.layout) s.records) s (λ i. expire_up_to n (finish s i Overrun))

-- all of them
abbrev pub expire : State → State
expire s = expire_up_to (length s.records) s

-- the first place, or the second where there is none
abbrev pub or_else : Option ℕ → Option ℕ → Option ℕ
or_else (Some i) o = Some i
or_else None o = o

-- whom the port writes: the lowest reserved ticket, but a port that cannot be interrupted goes on with what it began
abbrev pub choose : State → Option ℕ
choose s =
    cond s.interrupts (lowest is_reserved s.records)
    (or_else (lowest begun s.records) (lowest is_reserved s.records))

-- the stage after a feed: what the port told, and how many blocks are left then. (A feed is never refused here.)
abbrev pub fed_stage : ℕ → Result Fed Refusal → ℕ → Stage
fed_stage slot (Ok (Flawed block board)) left = Ended slot (Flaw block board)
fed_stage slot (Ok (Wrote n)) left = cond (left == 0) (Running slot) (Reserved slot)
fed_stage slot (Err why) left = Reserved slot

abbrev pub left_in : Meaning → ℕ → ℕ
left_in m slot = (entry_at m slot).size - (entry_at m slot).written

-- the stage of a request after its slot is fed
abbrev pub stage_after : Bool → Meaning → ℕ → Stage
stage_after interrupts m slot = fed_stage slot (feed_answer interrupts m slot) (left_in (feed_after interrupts m slot) slot)

-- the stage that the request at place i has after its slot is fed
abbrev pub stage_fed : State → ℕ → Stage
stage_fed s i = stage_after s.interrupts s.port (slot_of (at s.records i).stage)

-- a request that has just ended frees its slot
abbrev pub freed_by : Stage → ℕ → State → State
freed_by Empty k s = s
freed_by Queued k s = s
freed_by (Reserved slot) k s = s
freed_by (Running slot) k s = s
freed_by (Ended slot o) k s = free s k slot

-- the request at place i is written, and the tick passes for all the others
abbrev pub write : State → ℕ → State
write s i =
    freed_by (stage_fed s i) (part s.layout (at s.records i))
    (moved s (slice_set (map aged s.records) i (fed_record (at s.records i) (stage_fed s i))) s.lines
    (feed_after s.interrupts s.port (slot_of (at s.records i).stage)))

-- the tick passes, and nothing is written
abbrev pub idle_on : State → State
idle_on s = moved s (map aged s.records) s.lines s.port

abbrev pub advance : State → Option ℕ → State
advance s None = idle_on s
advance s (Some i) = write s i

-- the state when the port chooses
abbrev pub ready : State → State
ready s = settle (expire s)

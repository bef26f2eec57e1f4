-- What each call answers and leaves.
use Rattle.std.specs.Prelude.{ℕ, ◌+◌, cond, not, length, Some, None, Ok, count_by, Option, Result, ◌==◌, nat_le, nat_lt, slice_set}
use Rattle.plan.specs.Slots.{slot_count}
use Rattle.ports.specs.Calls.{judged, unless}
use Rattle.delays.specs.Delays.{accelerator_at}
use Rattle.model.specs.declared.requests.Outcome.TheVariants.{Finished}
use Rattle.model.specs.declared.requests.Record.{Record}
use Rattle.model.specs.declared.requests.Report.{Report}
use Rattle.model.specs.declared.refusals.Refusal.{Refusal}
use Rattle.model.specs.declared.refusals.Refusal.TheVariants.{NoTask, NoAccelerator, OtherOwner, Uncollected, NoTicketLeft, NoSlot, NotRunning, NoRequest, OtherTicket, Unended}
use Rattle.model.specs.declared.calls.Call.{Call}
use Rattle.model.specs.declared.calls.Call.TheVariants.{Request, Tick, Done, Collect, StageOf}
use Rattle.model.specs.declared.calls.Answer.{Answer}
use Rattle.model.specs.declared.calls.Answer.TheVariants.{Ticket, Ticked, Completed, Collected, Stands}
use Rattle.model.specs.Records.{blank, at, held_stage, unended_stage, ended_stage, slot_of, outcome_of, one, new, lowest, on_found}
use Rattle.model.specs.States.{State}
use Rattle.model.specs.Moves.{expired, runs_in, settle, choose, stage_fed, finish, advance, ready}

-- request
abbrev pub why_request : State → ℕ → ℕ → Option Refusal
why_request s task a =
    cond (nat_le s.layout.tasks task) (Some NoTask)
    (cond (nat_le (length s.layout.accelerators) a) (Some NoAccelerator)
    (cond (not ((accelerator_at s.layout a).owner == task)) (Some OtherOwner)
    (cond (held_stage (at s.records task).stage) (Some Uncollected)
    (cond (nat_lt 4294967295 s.next) (Some NoTicketLeft) None))))

-- the task's record holds a new request with the next ticket
abbrev pub enter : State → ℕ → ℕ → State
enter s task a =
    record { layout = s.layout; interrupts = s.interrupts; records = slice_set s.records task (new a s.next); lines = s.lines; next = s.next + 1; port = s.port }

abbrev pub request_answer : State → ℕ → ℕ → Result Answer Refusal
request_answer s task a = judged (why_request s task a) (Ticket s.next)

abbrev pub request_after : State → ℕ → ℕ → State
request_after s task a = unless (why_request s task a) s (settle (enter s task a))

-- tick: expired requests end, and settling; then one is chosen and written while the tick passes for the others; then settling
abbrev pub tick_after : State → State
tick_after s = settle (advance (ready s) (choose (ready s)))

abbrev pub ticket_at : State → Option ℕ → Option ℕ
ticket_at s None = None
ticket_at s (Some i) = Some (at s.records i).ticket

-- how many requests end by a flaw: one or none
abbrev pub flawed_now : State → Option ℕ → ℕ
flawed_now s None = 0
flawed_now s (Some i) = one (ended_stage (stage_fed s i))

abbrev pub tick_answer : State → Result Answer Refusal
tick_answer s =
    Ok (Ticked (ticket_at (ready s) (choose (ready s))) (count_by (expired s.layout) s.records + flawed_now (ready s) (choose (ready s))))

-- done
abbrev pub running_in : State → ℕ → Option ℕ
running_in s slot = lowest (runs_in slot) s.records

abbrev pub why_done : State → ℕ → Option Refusal
why_done s slot =
    cond (nat_le (slot_count s.layout) slot) (Some NoSlot) (on_found (running_in s slot) (Some NotRunning) (λ i. None))

abbrev pub done_answer : State → ℕ → Result Answer Refusal
done_answer s slot =
    judged (why_done s slot) (Completed (on_found (running_in s slot) 0 (λ i. (at s.records i).ticket)))

abbrev pub done_after : State → ℕ → State
done_after s slot =
    unless (why_done s slot) s (on_found (running_in s slot) s (λ i. settle (finish s i Finished)))

-- collect
abbrev pub why_collect : State → ℕ → ℕ → Option Refusal
why_collect s task ticket =
    cond (nat_le s.layout.tasks task) (Some NoTask)
    (cond (not (held_stage (at s.records task).stage)) (Some NoRequest)
    (cond (not ((at s.records task).ticket == ticket)) (Some OtherTicket)
    (cond (unended_stage (at s.records task).stage) (Some Unended) None)))

abbrev pub report : Record → Report
report r =
    record { accelerator = r.accelerator; slot = slot_of r.stage; waited = r.waited; written = r.written; run = r.run; outcome = outcome_of r.stage }

abbrev pub collect_answer : State → ℕ → ℕ → Result Answer Refusal
collect_answer s task ticket = judged (why_collect s task ticket) (Collected (report (at s.records task)))

-- the task's record holds nothing
abbrev pub empty : State → ℕ → State
empty s task =
    record { layout = s.layout; interrupts = s.interrupts; records = slice_set s.records task blank; lines = s.lines; next = s.next; port = s.port }

abbrev pub collect_after : State → ℕ → ℕ → State
collect_after s task ticket = unless (why_collect s task ticket) s (empty s task)

-- stage, which alters nothing
abbrev pub why_stage : State → ℕ → Option Refusal
why_stage s task = cond (nat_le s.layout.tasks task) (Some NoTask) None

abbrev pub stage_answer : State → ℕ → Result Answer Refusal
stage_answer s task = judged (why_stage s task) (Stands (at s.records task).stage)

-- every call: its answer, or why it is refused
abbrev pub answer : State → Call → Result Answer Refusal
answer s (Request task a) = request_answer s task a
answer s Tick = tick_answer s
answer s (Done slot) = done_answer s slot
answer s (Collect task ticket) = collect_answer s task ticket
answer s (StageOf task) = stage_answer s task

abbrev pub after : State → Call → State
after s (Request task a) = request_after s task a
after s Tick = tick_after s
after s (Done slot) = done_after s slot
after s (Collect task ticket) = collect_after s task ticket
after s (StageOf task) = s

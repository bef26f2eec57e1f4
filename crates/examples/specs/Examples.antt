-- The table of examples, worked out by hand: plan texts that are refused, delay tables, and runs of calls.
use Rattle.std.specs.Prelude.{◌≡◌, ℕ, Bool, true, false, List, [], ◌∷◌, ◌++◌, Some, None, Ok, Err, codes, Result}
use Rattle.plan.specs.declared.faults.Fault.{Fault}
use Rattle.plan.specs.Faults.{fault_number, fault_line, fault_field}
use Rattle.plan.specs.Reading.{reading}
use Rattle.plan.specs.Rules.{Layout}
use Rattle.delays.specs.declared.table.Row.{Row}
use Rattle.delays.specs.Rows.{rows_of}
use Rattle.ports.specs.Calls.{new_port, flaw_after}
use Rattle.ports.specs.Meaning.{Meaning}
use Rattle.model.specs.declared.requests.Outcome.{Outcome}
use Rattle.model.specs.declared.requests.Outcome.TheVariants.{Finished, Overrun, Flaw}
use Rattle.model.specs.declared.refusals.Refusal.{Refusal}
use Rattle.model.specs.declared.refusals.Refusal.TheVariants.{Uncollected, NoTicketLeft}
use Rattle.model.specs.declared.calls.Call.{Call}
use Rattle.model.specs.declared.calls.Call.TheVariants.{Request, Tick, Done, Collect}
use Rattle.model.specs.declared.calls.Answer.{Answer}
use Rattle.model.specs.declared.calls.Answer.TheVariants.{Ticket, Ticked, Completed, Collected, Stands}
use Rattle.model.specs.States.{State, start}
use Rattle.model.specs.Calls.{answer, after}

-- lines, each ended by byte 10
abbrev pub text : List (List ℕ) → List ℕ
text [] = []
text (l ∷ ls) = l ++ (10 ∷ text ls)

-- a plan text that is refused, with number, line and field; the rows of a plan's delay table on a port; what calls from a
-- start answer; or which accelerators they collect and how long these had waited
pub data Example : Type 0 where
  refused : List ℕ → ℕ → ℕ → ℕ → Example
  rows : List ℕ → (interrupts : Bool) → (rate : ℕ) → List Row → Example
  answered : List ℕ → (interrupts : Bool) → Meaning → (first : ℕ) → List Call → List (Result Answer Refusal) → Example
  waited : List ℕ → (interrupts : Bool) → (rate : ℕ) → List Call → List (ℕ × ℕ) → Example

-- the answers of calls made one after the other
abbrev pub answers : State → List Call → List (Result Answer Refusal)
answers s [] = []
answers s (c ∷ cs) = answer s c ∷ answers (after s c) cs

-- accelerator and waited ticks of what is collected
abbrev pub wait_told : Result Answer Refusal → List (ℕ × ℕ)
wait_told (Ok (Ticket t)) = []
wait_told (Ok (Ticked o n)) = []
wait_told (Ok (Completed t)) = []
wait_told (Ok (Collected r)) = (r.accelerator, r.waited) ∷ []
wait_told (Ok (Stands σ)) = []
wait_told (Err why) = []

abbrev pub waits_told : List (Result Answer Refusal) → List (ℕ × ℕ)
waits_told [] = []
waits_told (a ∷ as') = wait_told a ++ waits_told as'

abbrev pub HasAnswers : Result Layout Fault → Bool → Meaning → ℕ → List Call → List (Result Answer Refusal) → Type 0
HasAnswers (Ok l) interrupts port first cs as' = answers (start l interrupts first port) cs ≡ as'
HasAnswers (Err f) interrupts port first cs as' = ⊥

abbrev pub HasWaits : Result Layout Fault → Bool → ℕ → List Call → List (ℕ × ℕ) → Type 0
HasWaits (Ok l) interrupts rate cs ws = waits_told (answers (start l interrupts 1 (new_port rate)) cs) ≡ ws
HasWaits (Err f) interrupts rate cs ws = ⊥

abbrev pub row : ℕ → ℕ → ℕ → Row
row delay write stay = record { delay = delay; write = write; stay = stay }

abbrev pub Tells : Result Layout Fault → ℕ → ℕ → ℕ → Type 0
Tells (Ok l) number line field = ⊥
Tells (Err f) number line field = (fault_number f ≡ number) × (fault_line f ≡ line) × (fault_field f ≡ field)

abbrev pub HasRows : Result Layout Fault → Bool → ℕ → List Row → Type 0
HasRows (Ok l) interrupts rate rs = rows_of l rate interrupts ≡ rs
HasRows (Err f) interrupts rate rs = ⊥

abbrev pub Holds : Example → Type 0
Holds (refused t number line field) = Tells (reading t) number line field
Holds (rows t interrupts rate rs) = HasRows (reading t) interrupts rate rs
Holds (answered t interrupts port first cs as') = HasAnswers (reading t) interrupts port first cs as'
Holds (waited t interrupts rate cs ws) = HasWaits (reading t) interrupts rate cs ws

-- two partitions, three tasks, four accelerators
abbrev pub two_partitions : List ℕ
two_partitions =
    text (codes "c 100 2 4 3" ∷ codes "p 40 1 40" ∷ codes "p 20 1 20" ∷ codes "a 0 0 40 4" ∷ codes "a 0 0 30 5" ∷ codes "a 1 1 20 4" ∷ codes "a 1 2 10 6" ∷ [])

-- two slots, and one accelerator for each of two or three tasks
abbrev pub two_tasks : List ℕ
two_tasks = text (codes "c 40 1 2 2" ∷ codes "p 40 2 20" ∷ codes "a 0 0 20 5" ∷ codes "a 0 1 20 5" ∷ [])

abbrev pub three_tasks : List ℕ
three_tasks = text (codes "c 40 1 3 3" ∷ codes "p 40 2 20" ∷ codes "a 0 0 20 5" ∷ codes "a 0 1 20 5" ∷ codes "a 0 2 20 5" ∷ [])

-- slots of 20 blocks in a partition of 39
abbrev pub overfull : List ℕ
overfull = text (codes "c 40 1 1 1" ∷ codes "p 39 2 20" ∷ codes "a 0 0 20 1" ∷ [])

-- and in one of 40
abbrev pub just_full : List ℕ
just_full = text (codes "c 40 1 1 1" ∷ codes "p 40 2 20" ∷ codes "a 0 0 20 1" ∷ [])

-- one slot, two tasks
abbrev pub one_slot : List ℕ
one_slot = text (codes "c 10 1 2 2" ∷ codes "p 10 1 10" ∷ codes "a 0 0 10 2" ∷ codes "a 0 1 4 1" ∷ [])

-- what a collect tells
abbrev pub told : ℕ → ℕ → ℕ → ℕ → ℕ → Outcome → Result Answer Refusal
told a slot waits writes runs o = Ok (Collected (record { accelerator = a; slot = slot; waited = waits; written = writes; run = runs; outcome = o }))

-- the second request of task 1 comes too early; accelerator 0 is done, accelerator 1 overruns
abbrev pub in_turn : List Call
in_turn = Request 0 0 ∷ Request 1 1 ∷ Request 1 1 ∷ Tick ∷ Tick ∷ Tick ∷ Done 0 ∷ Tick ∷ Collect 0 1 ∷ Tick ∷ Tick ∷ Tick ∷ Collect 1 2 ∷ []

-- four accelerators: requests for 0, 2 and 3 before ticks 1, 2 and 3; 0 is done and collected before tick 9;
-- 1 is requested before tick 10; 2 is done before tick 11; at last all are collected
abbrev pub four_requests : List Call
four_requests =
    Request 0 0 ∷ Tick ∷ Request 1 2 ∷ Tick ∷ Request 2 3 ∷ Tick ∷ Tick ∷ Tick ∷ Tick ∷ Tick ∷ Tick ∷
    Done 0 ∷ Collect 0 1 ∷ Tick ∷ Request 0 1 ∷ Tick ∷ Done 1 ∷ Tick ∷ Collect 1 2 ∷
    Tick ∷ Tick ∷ Tick ∷ Tick ∷ Tick ∷ Tick ∷ Tick ∷ Tick ∷ Tick ∷ Tick ∷ Tick ∷ Tick ∷ Tick ∷ Collect 0 4 ∷ Collect 2 3 ∷ []

abbrev pub examples : List Example
examples =
    rows one_slot true 5 (row 3 2 8 ∷ row 4 2 8 ∷ []) ∷
    rows two_partitions true 10 (row 4 4 13 ∷ row 4 4 14 ∷ row 12 2 19 ∷ row 10 2 19 ∷ []) ∷
    rows two_partitions false 10 (row 8 4 17 ∷ row 8 4 18 ∷ row 20 2 27 ∷ row 18 2 27 ∷ []) ∷
    -- the sum of the weights is divided once: rounding each weight first would give 8
    rows two_tasks true 10 (row 4 2 12 ∷ row 4 2 12 ∷ []) ∷
    rows three_tasks true 10 (row 9 2 17 ∷ row 9 2 17 ∷ row 9 2 17 ∷ []) ∷
    rows just_full true 20 (row 0 1 3 ∷ []) ∷
    refused overfull 4 2 0 ∷
    refused [] 2 1 0 ∷
    answered one_slot true (new_port 5) 1 in_turn
    (Ok (Ticket 1) ∷ Ok (Ticket 2) ∷ Err Uncollected ∷ Ok (Ticked (Some 1) 0) ∷ Ok (Ticked (Some 1) 0) ∷ Ok (Ticked None 0) ∷ Ok (Completed 1) ∷
    Ok (Ticked (Some 2) 0) ∷ told 0 0 0 2 1 Finished ∷ Ok (Ticked (Some 2) 0) ∷ Ok (Ticked None 0) ∷ Ok (Ticked None 1) ∷ told 1 0 3 2 1 Overrun ∷ []) ∷
    waited two_partitions true 10 four_requests ((0, 0) ∷ (2, 3) ∷ (1, 2) ∷ (3, 8) ∷ []) ∷
    waited two_partitions false 10 four_requests ((0, 0) ∷ (2, 3) ∷ (1, 0) ∷ (3, 11) ∷ []) ∷
    -- one ticket is left
    answered one_slot true (new_port 5) 4294967295 (Request 0 0 ∷ Request 1 1 ∷ []) (Ok (Ticket 4294967295) ∷ Err NoTicketLeft ∷ []) ∷
    -- block 9 is flawed: the first feed writes 5 blocks, the second reports it
    answered one_slot true (flaw_after (new_port 5) 0 9) 1 (Request 0 0 ∷ Tick ∷ Tick ∷ Collect 0 1 ∷ [])
    (Ok (Ticket 1) ∷ Ok (Ticked (Some 1) 0) ∷ Ok (Ticked (Some 1) 1) ∷ told 0 0 0 2 0 (Flaw 9 0) ∷ []) ∷
    []

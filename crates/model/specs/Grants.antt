-- Who gets which slot: the rules of tickets and grants, between calls and from one call to the next.
use Rattle.std.specs.Prelude.{◌≡◌, ℕ, ◌+◌, ◌<◌, Bool, true, false, List, [], ◌∷◌, ◌++◌, map, length, Ok, Err, Result, slice_index}
use Rattle.plan.specs.Slots.{SlotIn}
use Rattle.model.specs.declared.requests.Stage.{Stage}
use Rattle.model.specs.declared.requests.Stage.TheVariants.{Empty, Queued, Reserved, Running, Ended}
use Rattle.model.specs.declared.refusals.Refusal.{Refusal}
use Rattle.model.specs.declared.calls.Answer.{Answer}
use Rattle.model.specs.declared.calls.Answer.TheVariants.{Ticket, Ticked, Completed, Collected, Stands}
use Rattle.model.specs.Records.{at, queued_stage, occupant_stage, slot_of}
use Rattle.model.specs.States.{State, line, part}
use Rattle.model.specs.Moves.{queued_in}
use Rattle.model.specs.Runs.{Trace}

-- how many requests a run accepted
abbrev pub gave : Result Answer Refusal → ℕ
gave (Ok (Ticket u)) = 1
gave (Ok (Ticked o n)) = 0
gave (Ok (Completed u)) = 0
gave (Ok (Collected r)) = 0
gave (Ok (Stands σ)) = 0
gave (Err why) = 0

abbrev pub accepted : Trace → ℕ
accepted [] = 0
accepted (e ∷ h) = gave e.answer + accepted h

-- no slot of a partition is free while a request is queued for it
abbrev pub Settled : State → Type 0
Settled s = (k i : ℕ) → k < length s.layout.partitions → i < length s.records → queued_in s.layout k (at s.records i) ≡ true → line s k ≡ []

-- a request that is queued came after every request that has a slot of its partition
abbrev pub Ordered : State → Type 0
Ordered s = (i j : ℕ) → i < 16 → j < 16 → queued_stage (at s.records i).stage ≡ true → occupant_stage (at s.records j).stage ≡ true → part s.layout (at s.records i) ≡ part s.layout (at s.records j) → (at s.records j).ticket < (at s.records i).ticket

-- a request has a slot of the partition of its accelerator
abbrev pub OwnPartition : State → Type 0
OwnPartition s = (i : ℕ) → i < 16 → occupant_stage (at s.records i).stage ≡ true → SlotIn s.layout (slot_of (at s.records i).stage) (part s.layout (at s.records i))

-- a request that has or had a slot
abbrev pub slotted_stage : Stage → Bool
slotted_stage Empty = false
slotted_stage Queued = false
slotted_stage (Reserved s) = true
slotted_stage (Running s) = true
slotted_stage (Ended s o) = true

-- between two states the request at place i got a slot of partition k
pub record Got (s s' : State) (k i : ℕ) : Type 0 where
  pub before : slotted_stage (at s.records i).stage ≡ false
  pub after : slotted_stage (at s'.records i).stage ≡ true
  pub mine : part s'.layout (at s'.records i) ≡ k

abbrev pub its_slot : State → ℕ → ℕ
its_slot s i = slot_of (at s.records i).stage

abbrev pub its_ticket : State → ℕ → ℕ
its_ticket s i = (at s.records i).ticket

-- how the slots of partition k changed hands between two states: the places of those who got one, in order, and the slots that were freed, in order
pub record Turns (s s' : State) (k : ℕ) : Type 0 where
  pub granted : List ℕ
  pub freed : List ℕ
  -- all who got a slot are among them, and no one else
  pub all : (i : ℕ) → i < 16 → Got s s' k i → (n : ℕ) × (n < length granted) × (slice_index granted n ≡ i)
  pub only : (n : ℕ) → n < length granted → (slice_index granted n < 16) × Got s s' k (slice_index granted n)
  -- the lower ticket went first, and before everyone who is still queued
  pub rising : (m n : ℕ) → m < n → n < length granted → its_ticket s' (slice_index granted m) < its_ticket s' (slice_index granted n)
  pub ahead : (n j : ℕ) → n < length granted → j < 16 → queued_in s'.layout k (at s'.records j) ≡ true → its_ticket s' (slice_index granted n) < its_ticket s' j
  -- the slots left the line in front, and joined it behind
  pub lines : line s k ++ freed ≡ map (its_slot s') granted ++ line s' k

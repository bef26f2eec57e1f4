-- The state of a scheduler, and what a start makes.
use Rattle.std.specs.Prelude.{ℕ, zero, suc, ◌+◌, Bool, List, [], ◌∷◌, replicate, Some, None, Option, slice_index_or}
use Rattle.std.specs.List.{range_with_len}
use Rattle.plan.specs.Rules.{Layout}
use Rattle.plan.specs.declared.parts.Partition.{Partition}
use Rattle.delays.specs.Delays.{accelerator_at}
use Rattle.ports.specs.Meaning.{Meaning}
use Rattle.ports.specs.Calls.{shut_after}
use Rattle.model.specs.declared.requests.Record.{Record}
use Rattle.model.specs.Records.{blank}

-- records: one for each of 16 tasks; lines: for each partition its free slots, the next one first;
-- next: the ticket that the next accepted request gets
pub record State : Type 0 where
  pub layout : Layout
  pub interrupts : Bool
  pub records : List Record
  pub lines : List (List ℕ)
  pub next : ℕ
  pub port : Meaning

-- the state with other records, lines and port
abbrev pub moved : State → List Record → List (List ℕ) → Meaning → State
moved s rs ls m = record { layout = s.layout; interrupts = s.interrupts; records = rs; lines = ls; next = s.next; port = m }

-- the free slots of partition k
abbrev pub line : State → ℕ → List ℕ
line s k = slice_index_or s.lines k []

-- the first slot in a line, if there is one
abbrev pub first_of : List ℕ → Option ℕ
first_of [] = None
first_of (x ∷ xs) = Some x

-- the partition of a record's accelerator
abbrev pub part : Layout → Record → ℕ
part l r = (accelerator_at l r.accelerator).partition

-- the run ticks that a record's accelerator may take
abbrev pub run_limit : Layout → Record → ℕ
run_limit l r = (accelerator_at l r.accelerator).run

-- the slots of each partition, numbered through the partitions in order
unfoldable pub lines_from : ℕ → List Partition → List (List ℕ)
lines_from b [] = []
lines_from b (p ∷ ps) = range_with_len b p.slots ∷ lines_from (b + p.slots) ps

-- the port with its slots below n shut
unfoldable pub shut_below : ℕ → Meaning → Meaning
shut_below zero m = m
shut_below (suc n) m = shut_after (shut_below n m) n

abbrev pub start : Layout → Bool → ℕ → Meaning → State
start l interrupts first m =
    record { layout = l; interrupts = interrupts; records = replicate 16 blank; lines = lines_from 0 l.partitions; next = first; port = shut_below 32 m }

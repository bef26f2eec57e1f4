-- What a plan's text says, read line by line, and the first fault where it says nothing.
use Rattle.std.specs.Prelude.{ℕ, zero, suc, ◌+◌, ◌-◌, ◌*◌, ◌<◌, ◌≤◌, cond, List, [], ◌∷◌, length, Ok, Err, Result, ◌==◌, nat_lt, slice_index, slice_index_or}
use Rattle.text.specs.declared.numbers.Malformed.{Malformed}
use Rattle.text.specs.Results.{and_then, onto}
use Rattle.text.specs.Numbers.{malformed}
use Rattle.text.specs.Lines.{line_at}
use Rattle.plan.specs.declared.parts.Accelerator.{Accelerator}
use Rattle.plan.specs.declared.parts.Partition.{Partition}
use Rattle.plan.specs.declared.kinds.Kind.{Kind}
use Rattle.plan.specs.declared.kinds.Kind.TheVariants as kind
use Rattle.plan.specs.declared.faults.Flaw.{Flaw}
use Rattle.plan.specs.declared.faults.Flaw.TheVariants.{Form, Range, Broken}
use Rattle.plan.specs.declared.faults.Rule.TheVariants.{PartitionBlocks, FabricBlocks, SlotCount, SlotSize}
use Rattle.plan.specs.declared.faults.Fault.{Fault}
use Rattle.plan.specs.declared.faults.Fault.TheVariants.{Length, Line, Rest}
use Rattle.arrayvec.specs.ArrayVec.{ArrayVec}
use Rattle.plan.specs.declared.plan.contents.Contents.{Contents}
use Rattle.plan.specs.declared.plan.left.Left.{Left}
use Rattle.plan.specs.Kinds.{letter_of}
use Rattle.plan.specs.Rules.{Layout, Amount, none}

-- the numbers of the line at place n, which is to be of a kind and to have so many, of at most 7 digits each
abbrev pub numbers_at : List ℕ → Kind → ℕ → ℕ → Result (List ℕ × ℕ) Malformed
numbers_at t kind count n =
    and_then (line_at t 7 count n) (λ x. cond (x.0 == letter_of kind) (Ok (x.1, x.2)) (Err malformed))

-- a line that is malformed has a flaw of form
abbrev pub formed : {A : Type 0} → Result A Malformed → Result A Flaw
formed (Ok x) = Ok x
formed (Err e) = Err Form

-- the number v of the field at a place, which is to be low to high
abbrev pub bounded : ℕ → ℕ → ℕ → ℕ → Result ℕ Flaw
bounded v low high place = cond (nat_lt v low) (Err (Range place)) (cond (nat_lt high v) (Err (Range place)) (Ok v))

abbrev pub ContentsKept : Contents → Type 0
ContentsKept c =
    Amount c.fabric ×
    ((1 ≤ c.partitions) × (c.partitions ≤ 8)) ×
    ((1 ≤ c.accelerators) × (c.accelerators ≤ 32)) ×
    ((1 ≤ c.tasks) × (c.tasks ≤ 16))

abbrev pub contents_from : List ℕ → Result Contents Flaw
contents_from xs =
    and_then (bounded (slice_index xs 0) 1 1000000 1) (λ fabric.
    and_then (bounded (slice_index xs 1) 1 8 2) (λ partitions.
    and_then (bounded (slice_index xs 2) 1 32 3) (λ accelerators.
    and_then (bounded (slice_index xs 3) 1 16 4) (λ tasks.
    Ok (record { fabric = fabric; partitions = partitions; accelerators = accelerators; tasks = tasks })))))

abbrev pub contents_at : List ℕ → ℕ → Result (Contents × ℕ) Flaw
contents_at t n = and_then (formed (numbers_at t kind.Contents 4 n)) (λ x. and_then (contents_from x.0) (λ c. Ok (c, x.1)))

-- each number of a partition is in its range
abbrev pub PartitionRanged : Partition → Type 0
PartitionRanged p = Amount p.blocks × ((1 ≤ p.slots) × (p.slots ≤ 8)) × Amount p.size

abbrev pub partition_from : List ℕ → Result Partition Flaw
partition_from xs =
    and_then (bounded (slice_index xs 0) 1 1000000 1) (λ blocks.
    and_then (bounded (slice_index xs 1) 1 8 2) (λ slots.
    and_then (bounded (slice_index xs 2) 1 1000000 3) (λ size.
    Ok (record { blocks = blocks; slots = slots; size = size }))))

abbrev pub allowed : Left → Partition → Result Partition Flaw
allowed left p =
    cond (nat_lt p.blocks (p.slots * p.size)) (Err (Broken PartitionBlocks))
    (cond (nat_lt left.blocks p.blocks) (Err (Broken FabricBlocks))
    (cond (nat_lt left.slots p.slots) (Err (Broken SlotCount)) (Ok p)))

abbrev pub partition_at : List ℕ → Left → ℕ → Result (Partition × ℕ) Flaw
partition_at t left n =
    and_then (formed (numbers_at t kind.Partition 3 n)) (λ x.
    and_then (partition_from x.0) (λ p.
    and_then (allowed left p) (λ q. Ok (q, x.1))))

abbrev pub less : Left → Partition → Left
less left p = record { blocks = left.blocks - p.blocks; slots = left.slots - p.slots }

-- each number of an accelerator of one of so many partitions and tasks is in its range
abbrev pub AcceleratorRanged : ℕ → ℕ → Accelerator → Type 0
AcceleratorRanged partitions tasks a = (a.partition < partitions) × (a.owner < tasks) × Amount a.need × Amount a.run

-- an accelerator of one of so many partitions and tasks
abbrev pub accelerator_from : ℕ → ℕ → List ℕ → Result Accelerator Flaw
accelerator_from partitions tasks xs =
    and_then (bounded (slice_index xs 0) 0 (partitions - 1) 1) (λ partition.
    and_then (bounded (slice_index xs 1) 0 (tasks - 1) 2) (λ owner.
    and_then (bounded (slice_index xs 2) 1 1000000 3) (λ need.
    and_then (bounded (slice_index xs 3) 1 1000000 4) (λ run.
    Ok (record { partition = partition; owner = owner; need = need; run = run })))))

abbrev pub fitted : List Partition → Accelerator → Result Accelerator Flaw
fitted ps a = cond (nat_lt (slice_index_or ps a.partition none).size a.need) (Err (Broken SlotSize)) (Ok a)

abbrev pub accelerator_at : List ℕ → List Partition → ℕ → ℕ → Result (Accelerator × ℕ) Flaw
accelerator_at t ps tasks n =
    and_then (formed (numbers_at t kind.Accelerator 4 n)) (λ x.
    and_then (accelerator_from (length ps) tasks x.0) (λ a.
    and_then (fitted ps a) (λ b. Ok (b, x.1))))

-- what is wrong with a line is wrong with the text at that line
abbrev pub on_line : {A : Type 0} → ℕ → Result A Flaw → Result A Fault
on_line line (Ok x) = Ok x
on_line line (Err flaw) = Err (Line line flaw)

-- so many items, one a line, from the line at place n on; s is what the items before it have left
abbrev pub items_at : {A S : Type 0} → (S → ℕ → Result (A × ℕ) Flaw) → (S → A → S) → ℕ → ℕ → S → ℕ → Result (List A × ℕ) Fault
items_at one after zero line s n = Ok ([], n)
items_at one after (suc count) line s n =
    and_then (on_line line (one s n)) (λ x. onto (x.0 ∷ []) (items_at one after count (line + 1) (after s x.0) x.1))

abbrev pub partitions_at : List ℕ → Contents → ℕ → Result (List Partition × ℕ) Fault
partitions_at t c n = items_at (partition_at t) less c.partitions 2 (record { blocks = c.fabric; slots = 32 }) n

-- an accelerator leaves the others as many blocks and slots as it found
abbrev pub accelerators_at : List ℕ → Contents → List Partition → ℕ → Result (List Accelerator × ℕ) Fault
accelerators_at t c ps n = items_at (λ (s : Unit {0}) n. accelerator_at t ps c.tasks n) (λ s a. s) c.accelerators (c.partitions + 2) tt n

-- no byte stands after the last line
abbrev pub finished : List ℕ → Contents → List Partition → List Accelerator × ℕ → Result Layout Fault
finished t c ps x =
    cond (x.1 == length t)
    (Ok (record { fabric = c.fabric; tasks = c.tasks; partitions = ps; accelerators = x.0 }))
    (Err (Rest (c.partitions + c.accelerators + 2)))

abbrev pub after_contents : List ℕ → Contents × ℕ → Result Layout Fault
after_contents t x =
    and_then (partitions_at t x.0 x.1) (λ y.
    and_then (accelerators_at t x.0 y.0 y.1) (finished t x.0 y.0))

abbrev pub reading : List ℕ → Result Layout Fault
reading t = cond (nat_lt 8192 (length t)) (Err Length) (and_then (on_line 1 (contents_at t 0)) (after_contents t))

-- the items of a vector that is read, and the place after them
abbrev pub itemized : {A : Type 0} → Result (ArrayVec A × ℕ) Fault → Result (List A × ℕ) Fault
itemized (Ok x) = Ok (x.0.items, x.1)
itemized (Err e) = Err e

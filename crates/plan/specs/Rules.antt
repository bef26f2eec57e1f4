-- What a plan says, and the rules that it keeps.
use Rattle.std.specs.Prelude.{◌≡◌, ℕ, ◌*◌, ◌<◌, ◌≤◌, List, length, get_or, sum_by, slice_index_or}
use Rattle.plan.specs.declared.parts.Partition.{Partition}
use Rattle.plan.specs.declared.parts.Accelerator.{Accelerator}

-- what a plan says
pub record Layout : Type 0 where
  pub fabric : ℕ
  pub tasks : ℕ
  pub partitions : List Partition
  pub accelerators : List Accelerator

-- a number of blocks or of run ticks
abbrev pub Amount : ℕ → Type 0
Amount n = (1 ≤ n) × (n ≤ 1000000)

-- what stands for a partition or an accelerator that a plan does not have
abbrev pub none : Partition
none = record { blocks = 0; slots = 0; size = 0 }

abbrev pub idle : Accelerator
idle = record { partition = 0; owner = 0; need = 0; run = 0 }

abbrev pub blocks_in : Partition → ℕ
blocks_in p = p.blocks

abbrev pub slots_in : Partition → ℕ
slots_in p = p.slots

-- the numbers of a partition, and that its slots fit its blocks
abbrev pub PartitionKept : Partition → Type 0
PartitionKept p =
    Amount p.blocks ×
    ((1 ≤ p.slots) × (p.slots ≤ 8)) ×
    Amount p.size ×
    (p.slots * p.size ≤ p.blocks)

-- the numbers of an accelerator, and that it fits a slot of its partition
abbrev pub AcceleratorKept : List Partition → ℕ → Accelerator → Type 0
AcceleratorKept ps tasks a =
    (a.partition < length ps) ×
    (a.owner < tasks) ×
    Amount a.need ×
    Amount a.run ×
    (a.need ≤ (get_or ps a.partition none).size)

-- the built-in plan has nothing
abbrev pub Blank : Layout → Type 0
Blank l =
    (l.fabric ≡ 0) ×
    (l.tasks ≡ 0) ×
    (length l.partitions ≡ 0) ×
    (length l.accelerators ≡ 0)

-- any other plan has some of each
abbrev pub Whole : Layout → Type 0
Whole l =
    Amount l.fabric ×
    ((1 ≤ l.tasks) × (l.tasks ≤ 16)) ×
    ((1 ≤ length l.partitions) × (length l.partitions ≤ 8)) ×
    ((1 ≤ length l.accelerators) × (length l.accelerators ≤ 32))

abbrev pub CountsKept : Layout → Type 0
CountsKept l = (l.tasks ≡ 0 → Blank l) × (1 ≤ l.tasks → Whole l)

abbrev pub PartitionsKept : Layout → Type 0
PartitionsKept l = (k : ℕ) → k < length l.partitions → PartitionKept (slice_index_or l.partitions k none)

abbrev pub AcceleratorsKept : Layout → Type 0
AcceleratorsKept l = (a : ℕ) → a < length l.accelerators → AcceleratorKept l.partitions l.tasks (slice_index_or l.accelerators a idle)

abbrev pub BlocksKept : Layout → Type 0
BlocksKept l = sum_by blocks_in l.partitions ≤ l.fabric

abbrev pub SlotsKept : Layout → Type 0
SlotsKept l = sum_by slots_in l.partitions ≤ 32

pub record Rules (l : Layout) : Type 0 where
  pub counts : CountsKept l
  pub partitions : PartitionsKept l
  pub accelerators : AcceleratorsKept l
  pub blocks : BlocksKept l
  pub slots : SlotsKept l

-- The slots of a layout: they are numbered through the partitions in order.
use Rattle.std.specs.Prelude.{ℕ, ◌+◌, ◌<◌, ◌≤◌, length, take, Some, None, sum_by, Option, slice_index_or}
use Rattle.plan.specs.Rules.{Layout, none, slots_in}

abbrev pub slot_count : Layout → ℕ
slot_count l = sum_by slots_in l.partitions

-- the first slot of partition k: as many slots stand before it as the earlier partitions have
abbrev pub first_slot : Layout → ℕ → ℕ
first_slot l k = sum_by slots_in (take k l.partitions)

pub record SlotIn (l : Layout) (slot k : ℕ) : Type 0 where
  pub there : k < length l.partitions
  pub from : first_slot l k ≤ slot
  pub below : slot < first_slot l k + (slice_index_or l.partitions k none).slots

-- the partition that a slot is in, or none for a slot that the plan does not have
abbrev pub Found : Layout → ℕ → Option ℕ → Type 0
Found l slot (Some k) = SlotIn l slot k
Found l slot None = slot_count l ≤ slot

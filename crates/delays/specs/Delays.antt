-- The formulas of the delay table, in whole ticks: delay, write time and stay of each accelerator, from the layout, the
-- rate of the port in blocks a tick, and whether the port can be interrupted.
use Rattle.std.specs.Prelude.{ℕ, ◌+◌, ◌-◌, ◌*◌, ◌/◌, Bool, cond, sum_by, count_by, ◌==◌, nat_eq, slice_index_or}
use Rattle.std.specs.List.{range_with_len}
use Rattle.plan.specs.declared.parts.Accelerator.{Accelerator}
use Rattle.plan.specs.declared.parts.Partition.{Partition}
use Rattle.plan.specs.Rules.{Layout, none, idle}
use Rattle.delays.specs.Greatest.{greatest}

abbrev pub partition_at : Layout → ℕ → Partition
partition_at l k = slice_index_or l.partitions k none

abbrev pub accelerator_at : Layout → ℕ → Accelerator
accelerator_at l a = slice_index_or l.accelerators a idle

-- a divided by b, rounded up
abbrev pub rounded_up : ℕ → ℕ → ℕ
rounded_up a b = (a + (b - 1)) / b

-- the ticks that it takes to write the whole slot of an accelerator, whatever its need
abbrev pub write_ticks : Layout → ℕ → Accelerator → ℕ
write_ticks l rate b = rounded_up (partition_at l b.partition).size rate

-- what a request for b can take from one of partition k with n slots, n times over:
-- its writing, since there is one port, and its run if it uses the same slots
abbrev pub weight : Layout → ℕ → ℕ → ℕ → Accelerator → ℕ
weight l rate k n b = n * write_ticks l rate b + cond (b.partition == k) b.run 0

-- the weight of an accelerator of task j, 0 for one of another task
abbrev pub weight_for : Layout → ℕ → ℕ → ℕ → ℕ → Accelerator → ℕ
weight_for l rate k n j b = cond (b.owner == j) (weight l rate k n b) 0

-- the greatest weight among the accelerators of task j
abbrev pub heaviest : Layout → ℕ → ℕ → ℕ → ℕ → ℕ
heaviest l rate k n j = greatest (weight_for l rate k n j) l.accelerators

-- the sum of these over every task other than i
abbrev pub others : Layout → ℕ → ℕ → ℕ → ℕ → ℕ
others l rate k n i = sum_by (λ j. cond (j == i) 0 (heaviest l rate k n j)) (range_with_len 0 l.tasks)

-- the write time of an accelerator outside partition k, 0 for one in it
abbrev pub ticks_elsewhere : Layout → ℕ → ℕ → Accelerator → ℕ
ticks_elsewhere l rate k b = cond (b.partition == k) 0 (write_ticks l rate b)

-- the longest write time of an accelerator outside partition k
abbrev pub longest_elsewhere : Layout → ℕ → ℕ → ℕ
longest_elsewhere l rate k = greatest (ticks_elsewhere l rate k) l.accelerators

abbrev pub accelerators_in : Layout → ℕ → ℕ
accelerators_in l k = count_by (λ b. nat_eq b.partition k) l.accelerators

-- what half written slots of other partitions can add, where the port cannot be interrupted
abbrev pub held_up : Layout → ℕ → Bool → ℕ → ℕ
held_up l rate interrupts k = cond interrupts 0 (accelerators_in l k * longest_elsewhere l rate k)

-- how long a request for an accelerator can wait in a partition with n slots: the sum is made first and divided once
abbrev pub delay_of : Layout → ℕ → Bool → Accelerator → ℕ → ℕ
delay_of l rate interrupts a n =
    others l rate a.partition n a.owner / n + held_up l rate interrupts a.partition

abbrev pub delay : Layout → ℕ → Bool → ℕ → ℕ
delay l rate interrupts a = delay_of l rate interrupts (accelerator_at l a) (partition_at l (accelerator_at l a).partition).slots

abbrev pub write_time : Layout → ℕ → ℕ → ℕ
write_time l rate a = write_ticks l rate (accelerator_at l a)

-- how long a request can stay: it waits, is written and runs, and ends one tick later where it overruns
abbrev pub stay : Layout → ℕ → Bool → ℕ → ℕ
stay l rate interrupts a = delay l rate interrupts a + write_time l rate a + (accelerator_at l a).run + 1

-- Partitions with their numbers, measured by their write times.
use Rattle.std.specs.Prelude.{ℕ, cond, ◌==◌}
use Rattle.plan.specs.Rules.{Layout}
use Rattle.delays.specs.declared.elsewhere.Numbered.{Numbered}
use Rattle.delays.specs.Delays.{partition_at, rounded_up, accelerators_in}

abbrev pub number_at : Layout → ℕ → Numbered
number_at l k = record { number = k; size = (partition_at l k).size }

-- the write time of a partition, 0 where it is partition k or has no accelerator
abbrev pub place_ticks : Layout → ℕ → ℕ → Numbered → ℕ
place_ticks l rate k p = cond (p.number == k) 0 (cond (accelerators_in l p.number == 0) 0 (rounded_up p.size rate))

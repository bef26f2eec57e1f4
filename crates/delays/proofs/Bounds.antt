-- How large the numbers of a delay table can be, on a layout that keeps the rules.
use Rattle.std.proofs.Common.{ℕ, ◌*◌, ◌≤◌, Bool, cond, eqb, length, get_or, mul-le-mul, div-le_self, arith}
use Rattle.std.specs.List.{range_with_len}
use Rattle.std.proofs.lemmas.List.FromFn.{length-range_with_len}
use Rattle.std.proofs.lemmas.List.{get_or_past}
use Rattle.std.proofs.lemmas.List.Elements.{All-from_get_or}
use Rattle.std.proofs.lemmas.List.Sums.{sum_by-le, count_by-le-length}
use Rattle.plan.specs.declared.parts.Accelerator.{Accelerator}
use Rattle.plan.specs.Rules.{Layout, Rules, idle}
use Rattle.delays.specs.Delays.{partition_at, accelerator_at, write_ticks, weight_for, heaviest, others, ticks_elsewhere, longest_elsewhere, accelerators_in, held_up, delay}
use Rattle.delays.proofs.Greatests.{greatest_within}

module _ (l : Layout) (rules : Rules l) where
  pub size_within : (k : ℕ) → (partition_at l k).size ≤ 1000000
  size_within k = grind (arith, rules.partitions k, get_or_past)

  pub slots_within : (k : ℕ) → (partition_at l k).slots ≤ 8
  slots_within k = grind (arith, rules.partitions k, get_or_past)

  pub tasks_within : l.tasks ≤ 16
  tasks_within = grind (arith, rules.counts)

  pub accelerators_within : length l.accelerators ≤ 32
  accelerators_within = grind (arith, rules.counts.0, rules.counts.1)

  module _ (rate : ℕ) (paced : 1 ≤ rate) where
    pub write_within : (b : Accelerator) → write_ticks l rate b ≤ 1000000
    write_within b = grind (arith, size_within b.partition)

    pub heaviest_within : (k n j : ℕ) → n ≤ 8 → heaviest l rate k n j ≤ 9000000
    heaviest_within k n j few =
        greatest_within (weight_for l rate k n j) 9000000 idle l.accelerators (λ i here.
        let b = get_or l.accelerators i idle in
        let run = (rules.accelerators i here).3.1 in
        let written : n * write_ticks l rate b ≤ 8 * 1000000 = mul-le-mul few (write_within b) in
        grind arith)

    pub others_within : (k n i : ℕ) → n ≤ 8 → others l rate k n i ≤ 144000000
    others_within k n i few =
        let weigh : ℕ → ℕ = λ j. cond (eqb j i) 0 (heaviest l rate k n j) in
        let tasks = range_with_len 0 l.tasks in
        let each = sum_by-le weigh 9000000 tasks (All-from_get_or (λ j. weigh j ≤ 9000000) tasks 0 (λ t _. grind (arith, heaviest_within k n (get_or tasks t 0) few))) in
        omega (arith, each, length-range_with_len 0 l.tasks, tasks_within)

    pub longest_within : (k : ℕ) → longest_elsewhere l rate k ≤ 1000000
    longest_within k =
        greatest_within (ticks_elsewhere l rate k) 1000000 idle l.accelerators (λ i here. grind (arith, write_within (get_or l.accelerators i idle)))

    pub held_within : (interrupts : Bool) (k : ℕ) → held_up l rate interrupts k ≤ 32000000
    held_within interrupts k =
        let few : accelerators_in l k ≤ 32 = omega (arith, count_by-le-length (λ b. eqb b.partition k) l.accelerators, accelerators_within) in
        let held : accelerators_in l k * longest_elsewhere l rate k ≤ 32 * 1000000 = mul-le-mul few (longest_within k) in
        grind arith

    pub delay_within : (interrupts : Bool) (a : ℕ) → delay l rate interrupts a ≤ 176000000
    delay_within interrupts a =
        let b = accelerator_at l a in
        let n = (partition_at l b.partition).slots in
        let sum = others_within b.partition n b.owner (slots_within b.partition) in
        omega (arith, div-le_self (others l rate b.partition n b.owner) n, sum, held_within interrupts b.partition)

-- What the law of the waits sees of a state: the plan's numbers, and each record with its write time and run.
use Rattle.std.proofs.Common.{◌≡◌, ℕ, zero, suc, ◌+◌, ◌-◌, ◌*◌, ◌/◌, ◌<◌, ◌≤◌, Bool, true, false, cond, ◌&&◌, eqb, List, [], ◌∷◌, length, get_or, sum_by, count_by, sym, refl, ap, ◌∙◌, ⊎_elim, mul_comm, mul-le-mul, mul-zero, le-div_iff_mul-le, zero-mul, mul-one, mul-add, arith}
use Rattle.std.specs.List.{range_with_len}
use Rattle.std.proofs.lemmas.List.FromFn.{length-range_with_len, get_or-range_with_len}
use Rattle.std.proofs.lemmas.List.Sums.{sum_by-cons, get_or-le-sum_by}
use Rattle.std.proofs.lemmas.Bool.{cases_eq, cases_lt, eq-eqb, ne_eqb, cond-true, cond-false, cond_both, and_from}
use Rattle.plan.specs.Rules.{Layout, Rules, idle}
use Rattle.plan.specs.declared.parts.Accelerator.{Accelerator}
use Rattle.delays.specs.Delays.{partition_at, accelerator_at, rounded_up, write_ticks, weight, weight_for, heaviest, others, ticks_elsewhere, longest_elsewhere, accelerators_in, delay, write_time}
use Rattle.delays.proofs.Greatests.{greatest_within, greatest_least}
use Rattle.model.specs.declared.requests.Stage.{Stage}
use Rattle.model.specs.declared.requests.Stage.TheVariants.{Empty, Queued, Reserved, Running, Ended}
use Rattle.model.specs.declared.requests.Record.{Record}
use Rattle.model.specs.Records.{at, one, queued_stage, reserved_stage, running_stage, waiting_stage, unended_stage, held_stage, occupant_stage}
use Rattle.model.specs.States.{State, line, part, run_limit}
use Rattle.waits.specs.Total.{total}
use Rattle.waits.specs.Table as waits
use Rattle.waits.specs.Law as law
use Rattle.waits.proofs.Totals.{total_same, total_zero}
use Rattle.waits.proofs.Lists.{total_sum_by}

abbrev pub stage_seen : Stage → waits.Stage
stage_seen Empty = waits.Stage.empty
stage_seen Queued = waits.Stage.queued
stage_seen (Reserved s) = waits.Stage.reserved
stage_seen (Running s) = waits.Stage.running
stage_seen (Ended s o) = waits.Stage.ended

-- the tests of a stage are those that the law of the waits makes
pub seen_queued : (σ : Stage) → waits.queued_stage (stage_seen σ) ≡ queued_stage σ
seen_queued σ = grind arith

pub seen_reserved : (σ : Stage) → waits.reserved_stage (stage_seen σ) ≡ reserved_stage σ
seen_reserved σ = grind arith

pub seen_running : (σ : Stage) → waits.running_stage (stage_seen σ) ≡ running_stage σ
seen_running σ = grind arith

pub seen_waiting : (σ : Stage) → waits.waiting_stage (stage_seen σ) ≡ waiting_stage σ
seen_waiting σ = grind arith

pub seen_unended : (σ : Stage) → waits.unended_stage (stage_seen σ) ≡ unended_stage σ
seen_unended σ = grind arith

pub seen_held : (σ : Stage) → waits.held_stage (stage_seen σ) ≡ held_stage σ
seen_held σ = grind arith

pub seen_occupant : (σ : Stage) → waits.occupant_stage (stage_seen σ) ≡ occupant_stage σ
seen_occupant σ = grind arith

abbrev pub seen : Layout → ℕ → Record → waits.Rec
seen l rate r = record {
  ticket = r.ticket;
  part = part l r;
  write = write_time l rate r.accelerator;
  run = run_limit l r;
  waited = r.waited;
  written = r.written;
  ran = r.run;
  stage = stage_seen r.stage;
}

-- 1 for each accelerator of task j in partition k
abbrev pub uses : Layout → ℕ → ℕ → ℕ
uses l k j = count_by (λ b. eqb b.partition k && eqb b.owner j) l.accelerators

abbrev pub given : Layout → ℕ → Bool → waits.Given
given l rate interrupts = record {
  places = 16;
  slots = λ k. (partition_at l k).slots;
  stops = interrupts;
  hold = λ k. cond interrupts 0 (longest_elsewhere l rate k - 1);
  heaviest = λ k n j. heaviest l rate k n j;
  uses = uses l;
}

abbrev pub view : ℕ → State → waits.State
view rate s = record { tab = λ j. seen s.layout rate (at s.records j); line = λ k. length (line s k); next = s.next }

-- ---- rounding up

module _ (size rate : ℕ) (some : 0 < rate) where
  pub round_below : (v : ℕ) → rate * v < size → v < rounded_up size rate
  round_below v h =
      let x : (v + 1) * rate ≤ size + (rate - 1) = omega (arith, mul_comm (v + 1) rate, mul-add rate v 1, mul-one rate) in
      let y : v + 1 ≤ rounded_up size rate = (le-div_iff_mul-le some).1 x in
      omega arith

  pub round_above : (v : ℕ) → v < rounded_up size rate → rate * v < size
  round_above v h =
      let y : v + 1 ≤ rounded_up size rate = omega arith in
      let x : (v + 1) * rate ≤ size + (rate - 1) = (le-div_iff_mul-le some).0 y in
      omega (arith, x, mul_comm (v + 1) rate, mul-add rate v 1, mul-one rate)

-- ---- sums over places

total_counting : (n : ℕ) (f : ℕ → ℕ) → total n f ≡ sum_by f (range_with_len 0 n)
total_counting n f =
    total_same n f (λ j. f (get_or (range_with_len 0 n) j 0)) (λ j b. ap f (let z : j ≡ get_or (range_with_len 0 n) j 0 = omega (arith, get_or-range_with_len 0 n j 0 b) in z))
    ∙ ap (λ (m : ℕ). total m (λ j. f (get_or (range_with_len 0 n) j 0))) (sym (length-range_with_len 0 n))
    ∙ total_sum_by f 0 (range_with_len 0 n)

total_cut : (m n : ℕ) (f : ℕ → ℕ) → m ≤ n → ((j : ℕ) → m ≤ j → f j ≡ 0) → total n f ≡ total m f
unfolding total
total_cut m zero f h z = ap (λ (x : ℕ). total x f) (let e : 0 ≡ m = omega arith in e)
total_cut m (suc n) f h z =
    ⊎_elim
    (λ b. omega (arith, total_cut m n f (omega arith) z, z n (omega arith)))
    (λ b. ap (λ (x : ℕ). total x f) (let e : suc n ≡ m = omega arith in e))
    (cases_lt m (suc n))

total_add : (n : ℕ) (f g : ℕ → ℕ) → total n (λ j. f j + g j) ≡ total n f + total n g
unfolding total
total_add zero f g = refl
total_add (suc n) f g = omega (arith, total_add n f g)

one_at : (o n : ℕ) → (total n (λ j. one (eqb o j)) ≤ 1) × (n ≤ o → total n (λ j. one (eqb o j)) ≡ 0)
unfolding total
one_at o zero = (omega arith, λ h. refl)
one_at o (suc n) =
    let r = one_at o n in
    ⊎_elim
    (λ e. let y : one (eqb o n) ≡ 1 = ap one (eq-eqb o n e) in (omega (arith, r.1 (omega arith), y), λ h. absurd (omega arith)))
    (λ ne. let y : one (eqb o n) ≡ 0 = ap one (ne_eqb o n ne) in (omega (arith, r.0, y), λ h. omega (arith, r.1 (omega arith), y)))
    (cases_eq o n)

and_one : (n o : ℕ) (b : Bool) → total n (λ j. one (b && eqb o j)) ≤ one b
and_one n o true = (one_at o n).0
and_one n o false = omega (arith, total_zero n)

-- each accelerator of a partition has one owner
uses_all : (n k : ℕ) (bs : List Accelerator) → total n (λ j. count_by (λ b. eqb b.partition k && eqb b.owner j) bs) ≤ count_by (λ b. eqb b.partition k) bs
uses_all n k [] = omega (arith, total_zero n)
uses_all n k (b ∷ bs) =
    let f : ℕ → ℕ = λ j. one (eqb b.partition k && eqb b.owner j) in
    let g : ℕ → ℕ = λ j. count_by (λ x. eqb x.partition k && eqb x.owner j) bs in
    omega (
      arith,
      total_same n (λ j. count_by (λ x. eqb x.partition k && eqb x.owner j) (b ∷ bs)) (λ j. f j + g j) (λ j _. sum_by-cons (λ x. one (eqb x.partition k && eqb x.owner j)) b bs),
      total_add n f g,
      and_one n b.owner (eqb b.partition k),
      uses_all n k bs,
      sum_by-cons (λ x. one (eqb x.partition k)) b bs,
    )

module _ (l : Layout) (rules : Rules l) (rate : ℕ) (some : 0 < rate) (interrupts : Bool) where
  -- the delay that the law gives is at most the table's
  pub delay_is : (a i : ℕ) → a < length l.accelerators → (accelerator_at l a).owner ≡ i → l.tasks ≤ 16 → law.delay (given l rate interrupts) i (accelerator_at l a).partition ≤ delay l rate interrupts a
  delay_is a i b mine few =
      let k = (accelerator_at l a).partition in
      let n = (partition_at l k).slots in
      let f : ℕ → ℕ = λ j. cond (eqb j i) 0 (heaviest l rate k n j) in
      let zeros : (j : ℕ) → l.tasks ≤ j → f j ≡ 0 =
      λ j h. cond_both (eqb j i) 0 (heaviest l rate k n j) (λ x. x ≡ 0) (λ _. refl)
      (λ _. let none = greatest_within (weight_for l rate k n j) 0 idle l.accelerators
      (λ x c. omega (arith, cond-false (eqb (accelerator_at l x).owner j) (weight l rate k n (accelerator_at l x)) 0 (ne_eqb _ _ (λ e. omega (arith, (rules.accelerators x c).1))))) in omega arith) in
      let same : law.others (given l rate interrupts) i k n ≡ others l rate k n (accelerator_at l a).owner =
      total_cut l.tasks 16 f few zeros ∙ total_counting l.tasks f ∙ ap (λ (x : ℕ). sum_by (λ j. cond (eqb j x) 0 (heaviest l rate k n j)) (range_with_len 0 l.tasks)) (sym mine) in
      let held : (x : Bool) → cond x 0 (longest_elsewhere l rate k - 1) * law.tasks (given l rate interrupts) k ≤ cond x 0 (accelerators_in l k * longest_elsewhere l rate k) =
      elim [
        | true ↦ omega (arith, zero-mul (law.tasks (given l rate interrupts) k))
        | false ↦ (let u : law.tasks (given l rate interrupts) k ≤ accelerators_in l k = uses_all 16 k l.accelerators in
            let v : longest_elsewhere l rate k - 1 ≤ longest_elsewhere l rate k = omega arith in
            omega (arith, mul-le-mul v u, mul_comm (longest_elsewhere l rate k) (accelerators_in l k)))
      ] in
      omega (arith, held interrupts, ap (λ (x : ℕ). x / n) same)

  -- the accelerator of a record of task j is one of task j
  pub fits : (a j t w v x : ℕ) (σ : Stage) → a < length l.accelerators → (accelerator_at l a).owner ≡ j → waits.Fits (given l rate interrupts) j (seen l rate (record { accelerator = a; ticket = t; stage = σ; waited = w; written = v; run = x }))
  fits a j t w v x σ b mine =
      let p = (accelerator_at l a).partition in
      let big : 1 ≤ (partition_at l p).size = (rules.partitions p (rules.accelerators a b).0).2.0 in
      let zero_in : rate * 0 < (partition_at l p).size = omega (arith, mul-zero rate) in
      record {
        some = omega (arith, round_below (partition_at l p).size rate some 0 zero_in);
        weight = λ k n. let f = weight_for l rate k n j in
            omega (arith, greatest_least f idle l.accelerators a b, cond-true (eqb (accelerator_at l a).owner j) (weight l rate k n (accelerator_at l a)) 0 (eq-eqb _ _ mine));
        counted = let f : Accelerator → ℕ = λ y. one (eqb y.partition p && eqb y.owner j) in
            omega (arith, get_or-le-sum_by f l.accelerators a idle b, ap one (and_from (eqb p p) (eqb (accelerator_at l a).owner j) (eq-eqb p p refl) (eq-eqb _ _ mine)));
        short = λ st k ne. let f = ticks_elsewhere l rate k in
            omega (arith, greatest_least f idle l.accelerators a b, cond-false (eqb p k) 0 (write_ticks l rate (accelerator_at l a)) (ne_eqb p k ne), cond-false interrupts 0 (longest_elsewhere l rate k - 1) st);
      }

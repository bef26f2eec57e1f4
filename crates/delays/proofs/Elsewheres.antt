-- The longest write time elsewhere, over partitions and over accelerators: the same number.
use Rattle.std.proofs.Common.{◌≡◌, ℕ, suc, ◌<◌, ◌≤◌, Bool, true, cond, eqb, List, [], ◌∷◌, map, length, get_or, count_by, ap, ⊎_elim, le_antisymm, arith}
use Rattle.std.specs.List.{range_with_len}
use Rattle.std.proofs.lemmas.List.FromFn.{length-map-range_with_len, get_or-map-range_with_len}
use Rattle.std.proofs.lemmas.List.Sums.{sum_by-cons, get_or-le-sum_by}
use Rattle.std.proofs.lemmas.Bool.{cases_Bool, cases_lt, eqb-true}
use Rattle.plan.specs.declared.parts.Accelerator.{Accelerator}
use Rattle.plan.specs.Rules.{Layout, Rules, idle}
use Rattle.delays.specs.declared.elsewhere.Numbered.{Numbered}
use Rattle.delays.specs.Greatest.{greatest}
use Rattle.delays.specs.Delays.{ticks_elsewhere, longest_elsewhere, accelerators_in}
use Rattle.delays.specs.Places.{number_at, place_ticks}
use Rattle.delays.proofs.Greatests.{greatest_within, greatest_least}

-- where some are counted, there is one
found : (p : Accelerator → Bool) (xs : List Accelerator) → 0 < count_by p xs → (i : ℕ) × ((i < length xs) × (p (get_or xs i idle) ≡ true))
found p [] h = absurd (omega arith)
found p (x ∷ xs) h =
    ⊎_elim
    (λ yes'. (0, (omega arith, yes')))
    (λ no'. let rest = found p xs (grind (arith, sum_by-cons)) in (suc rest.0, (omega arith, rest.1.1)))
    (cases_Bool (p x))

module _ (l : Layout) (rules : Rules l) (rate k : ℕ) where
  abbrev places : List Numbered
  places = map (number_at l) (range_with_len 0 (length l.partitions))

  nothing : Numbered
  nothing = record { number = 0; size = 0 }

  -- a partition that counts has an accelerator elsewhere
  place_within : (j : ℕ) → place_ticks l rate k (number_at l j) ≤ longest_elsewhere l rate k
  place_within j =
      ⊎_elim
      (λ some.
      let b = found (λ b. eqb b.partition j) l.accelerators some in
      let in-j = eqb-true (get_or l.accelerators b.0 idle).partition j b.1.1 in
      grind (arith, greatest_least (ticks_elsewhere l rate k) idle l.accelerators b.0 b.1.0))
      (λ none. grind arith)
      (cases_lt 0 (accelerators_in l j))

  -- an accelerator elsewhere has its partition count
  counts : (b : Accelerator) (m : ℕ) → 0 < accelerators_in l b.partition → place_ticks l rate k (number_at l b.partition) ≤ m → ticks_elsewhere l rate k b ≤ m
  counts b m some h = grind arith

  ticks_within : (i : ℕ) → i < length l.accelerators → ticks_elsewhere l rate k (get_or l.accelerators i idle) ≤ greatest (place_ticks l rate k) places
  ticks_within i here =
      let b = get_or l.accelerators i idle in
      let j = b.partition in
      let there : j < length l.partitions = (rules.accelerators i here).0 in
      let some : 0 < accelerators_in l j = grind (arith, get_or-le-sum_by (λ b. cond (eqb b.partition j) 1 0) l.accelerators i idle here) in
      let at_j = get_or-map-range_with_len (number_at l) 0 (length l.partitions) j j nothing there (omega arith) in
      let least = greatest_least (place_ticks l rate k) nothing places j (omega (arith, length-map-range_with_len (number_at l) 0 (length l.partitions))) in
      counts b _ some (omega (arith, ap (place_ticks l rate k) at_j, least))

  pub elsewhere_is : greatest (place_ticks l rate k) places ≡ longest_elsewhere l rate k
  elsewhere_is =
      le_antisymm
      (greatest_within (place_ticks l rate k) _ nothing places (λ j h.
      let here : j < length l.partitions = omega (arith, length-map-range_with_len (number_at l) 0 (length l.partitions)) in
      rw (get_or-map-range_with_len (number_at l) 0 (length l.partitions) j j nothing here (omega arith)) (place_within j)))
      (greatest_within (ticks_elsewhere l rate k) _ idle l.accelerators ticks_within)

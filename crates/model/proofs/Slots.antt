-- The slots of a plan: how the lines stand at the start, and that each slot is in one partition.
use Rattle.std.proofs.Common.{◌≡◌, ℕ, zero, suc, ◌+◌, ◌<◌, ◌≤◌, eqb, List, [], ◌∷◌, length, get_or, take, sum_by, refl, ap, ◌∙◌, ⊎_elim, arith}
use Rattle.std.specs.List.{range_with_len}
use Rattle.std.proofs.lemmas.List.{take-take}
use Rattle.std.proofs.lemmas.List.Sums.{sum_by-cons, sum_by_more, sum_by-take-le}
use Rattle.std.proofs.lemmas.Bool.{cases_eq, eq-eqb, ne_eqb, cond-true, cond-false, cases_order}
use Rattle.plan.specs.Rules.{Layout, Rules, none, slots_in}
use Rattle.plan.specs.declared.parts.Partition.{Partition}
use Rattle.plan.specs.Slots.{first_slot, SlotIn}
use Rattle.delays.specs.Delays.{partition_at}
use Rattle.model.specs.Records.{one}
use Rattle.model.specs.States.{lines_from}

pub lines_at : (b : ℕ) (ps : List Partition) (k : ℕ) → k < length ps → get_or (lines_from b ps) k [] ≡ range_with_len (b + sum_by slots_in (take k ps)) (get_or ps k none).slots
unfolding lines_from
lines_at b [] k c = absurd (omega arith)
lines_at b (p ∷ ps) zero c = ap (λ (x : ℕ). range_with_len x p.slots) (let z : b ≡ b + 0 = omega arith in z)
lines_at b (p ∷ ps) (suc k) c =
    lines_at (b + p.slots) ps k (omega arith)
    ∙ ap (λ (x : ℕ). range_with_len x (get_or ps k none).slots) (let z : b + p.slots + sum_by slots_in (take k ps) ≡ b + sum_by slots_in (p ∷ take k ps) = omega (arith, sum_by-cons slots_in p (take k ps)) in z)

abbrev pub is : ℕ → ℕ → ℕ
is t x = one (eqb x t)

pub is_so : (t x : ℕ) → x ≡ t → is t x ≡ 1
is_so t x e = cond-true (eqb x t) 1 0 (eq-eqb x t e)

is_not : (t x : ℕ) → (x ≡ t → ⊥) → is t x ≡ 0
is_not t x e = cond-false (eqb x t) 1 0 (ne_eqb x t e)

pub count_before : (t a n : ℕ) → t < a → sum_by (is t) (range_with_len a n) ≡ 0
count_before t a zero c = refl
count_before t a (suc n) c =
    omega (arith, sum_by-cons (is t) a (range_with_len (a + 1) n), is_not t a (λ z. omega arith), count_before t (a + 1) n (omega arith))

pub count_past : (t a n : ℕ) → a + n ≤ t → sum_by (is t) (range_with_len a n) ≡ 0
count_past t a zero c = refl
count_past t a (suc n) c =
    omega (arith, sum_by-cons (is t) a (range_with_len (a + 1) n), is_not t a (λ z. omega arith), count_past t (a + 1) n (omega arith))

pub count_in : (t a n : ℕ) → a ≤ t → t < a + n → sum_by (is t) (range_with_len a n) ≡ 1
count_in t a zero c d = absurd (omega arith)
count_in t a (suc n) c d =
    ⊎_elim
    (λ z. omega (arith, sum_by-cons (is t) a (range_with_len (a + 1) n), is_so t a z, count_before t (a + 1) n (omega arith)))
    (λ ne. omega (arith, sum_by-cons (is t) a (range_with_len (a + 1) n), is_not t a ne, count_in t (a + 1) n (omega arith) (omega arith)))
    (cases_eq a t)

pub count_all : (a n : ℕ) → sum_by (λ x. 1) (range_with_len a n) ≡ n
count_all a zero = refl
count_all a (suc n) = omega (arith, sum_by-cons (λ x. 1) a (range_with_len (a + 1) n), count_all (a + 1) n)

pub sum_ones : (xs : List ℕ) → sum_by (λ x. 1) xs ≡ length xs
sum_ones [] = refl
sum_ones (x ∷ xs) = omega (arith, sum_by-cons (λ x. 1) x xs, sum_ones xs)

-- the slots of two partitions are apart
later_slots : (l : Layout) (k p : ℕ) → k < p → p < length l.partitions → first_slot l k + (partition_at l k).slots ≤ first_slot l p
later_slots l k p c d =
    let ps = l.partitions in
    let more = sum_by_more slots_in ps k none (omega arith) in
    let front : take (k + 1) (take p ps) ≡ take (k + 1) ps = take-take (k + 1) p ps (omega arith) in
    omega (arith, more, sum_by-take-le slots_in (take p ps) (k + 1), ap (sum_by slots_in) front)

pub slot_unique : (l : Layout) (k p t : ℕ) → SlotIn l t k → SlotIn l t p → k ≡ p
slot_unique l k p t a b =
    ⊎_elim (λ z. z)
    (λ x. ⊎_elim (λ z. absurd (omega (arith, later_slots l k p z b.there, a.below, b.from))) (λ z. absurd (omega (arith, later_slots l p k z a.there, b.below, a.from))) x)
    (cases_order k p)

pub slot_few : (l : Layout) (k t : ℕ) → Rules l → SlotIn l t k → t < 32
slot_few l k t r a =
    let ps = l.partitions in
    omega (arith, r.slots, a.below, sum_by_more slots_in ps k none a.there, sum_by-take-le slots_in ps (k + 1))

-- The lines at a start.
use Rattle.std.proofs.Common.{◌≡◌, ℕ, zero, suc, ◌+◌, ◌-◌, ◌<◌, ◌≤◌, List, [], ◌∷◌, ◌++◌, map, length, get_or, drop, sym, refl, ap, ◌∙◌, arith}
use Rattle.std.specs.List.{range_with_len}
use Rattle.std.proofs.lemmas.List.{append-nil, append_assoc, drop_more, drop_all, map-append}
use Rattle.arrayvec.specs.ArrayVec.{ArrayVec}
use Rattle.plan.specs.declared.parts.Partition.{Partition}
use Rattle.plan.specs.Rules.{Layout, Rules, Blank, Whole, none}
use Rattle.model.specs.States.{lines_from}
use Rattle.engine.specs.Views.{standing}

counting_push : (from n : ℕ) → range_with_len from n ++ (from + n) ∷ [] ≡ range_with_len from (suc n)
counting_push from zero = ap (λ (m : ℕ). m ∷ []) (let z : from + 0 ≡ from = omega arith in z)
counting_push from (suc n) =
    ap (λ (m : ℕ). from ∷ (range_with_len (from + 1) n ++ m ∷ [])) (let z : from + suc n ≡ from + 1 + n = omega arith in z)
    ∙ ap (λ xs. from ∷ xs) (counting_push (from + 1) n)

pub numbered_more : (from slot : ℕ) → from ≤ slot → range_with_len from (slot - from) ++ slot ∷ [] ≡ range_with_len from (slot + 1 - from)
numbered_more from slot b =
    ap (λ (m : ℕ). range_with_len from (slot - from) ++ m ∷ []) (let z : slot ≡ from + (slot - from) = omega arith in z)
    ∙ counting_push from (slot - from)
    ∙ ap (range_with_len from) (let z : suc (slot - from) ≡ slot + 1 - from = omega arith in z)

module _ (l : Layout) (rules : Rules l) (ps : List Partition) (is : ps ≡ l.partitions) where
  few : (tasks : ℕ) → (tasks ≡ 0 → Blank l) → (1 ≤ tasks → Whole l) → length l.partitions ≤ 8
  few zero blank whole = omega (arith, (blank refl).2)
  few (suc n) blank whole = (whole (omega arith)).2.1

  pub few_partitions : length ps ≤ 8
  few_partitions = rw is (few l.tasks rules.counts.0 rules.counts.1)

  pub few_slots : (k : ℕ) → k < length ps → (get_or ps k none).slots ≤ 8
  few_slots = rw is (λ k b. (rules.partitions k b).1.1)

pub free_step : (rows : List (ArrayVec ℕ)) (line : ArrayVec ℕ) (k from : ℕ) (ps : List Partition) (whole : List (List ℕ)) → map standing rows ++ lines_from from (drop k ps) ≡ whole → k < length ps → standing line ≡ range_with_len from (get_or ps k none).slots → map standing (rows ++ line ∷ []) ++ lines_from (from + (get_or ps k none).slots) (drop (k + 1) ps) ≡ whole
unfolding lines_from
free_step rows line k from ps whole inv b h =
    let p = get_or ps k none in
    ap (λ xs. xs ++ lines_from (from + p.slots) (drop (k + 1) ps)) (map-append standing rows (line ∷ []))
    ∙ append_assoc (map standing rows) (standing line ∷ []) (lines_from (from + p.slots) (drop (k + 1) ps))
    ∙ ap (λ x. map standing rows ++ (x ∷ lines_from (from + p.slots) (drop (k + 1) ps))) h
    ∙ ap (λ qs. map standing rows ++ lines_from from qs) (sym (drop_more ps k none b))
    ∙ inv

pub free_all : (rows : List (ArrayVec ℕ)) (k from : ℕ) (ps : List Partition) (whole : List (List ℕ)) → map standing rows ++ lines_from from (drop k ps) ≡ whole → length ps ≤ k → map standing rows ≡ whole
unfolding lines_from
free_all rows k from ps whole inv b =
    sym (append-nil (map standing rows))
    ∙ ap (λ qs. map standing rows ++ lines_from from qs) (sym (drop_all k ps b))
    ∙ inv

-- Items that are written, one a line, are read, and items that are read were written.
use Rattle.std.proofs.Common.{◌≡◌, ℕ, zero, suc, ◌+◌, ◌<◌, ◌≤◌, List, [], ◌∷◌, ◌++◌, length, get_or, drop, Ok, sum_by, Result, sym, refl, ap, ◌∙◌, subst, append_assoc, arith, length-append}
use Rattle.std.proofs.lemmas.List.Sums.{sum_by-cons}
use Rattle.text.specs.Results.{and_then, onto}
use Rattle.text.proofs.Written.{and_then_ok, onto_ok}
use Rattle.plan.specs.declared.parts.Partition.{Partition}
use Rattle.plan.specs.declared.faults.Flaw.{Flaw}
use Rattle.plan.specs.Rules.{PartitionKept, none, blocks_in, slots_in}
use Rattle.plan.specs.Reading.{less, on_line, items_at}
use Rattle.plan.specs.declared.plan.left.Left.{Left}
use Rattle.plan.specs.Texts.{Lines}
use Rattle.plan.proofs.Items.{ok_below}
use Rattle.plan.proofs.Lines.{One, PartitionFits}

-- each item fits what the items before it have left
abbrev pub Fitting : {A S : Type 0} → (S → A → Type 0) → (S → A → S) → S → List A → Type 0
Fitting Fits after s [] = Unit {0}
Fitting Fits after s (x ∷ xs) = Fits s x × Fitting Fits after (after s x) xs

module _ {A S : Type 0} (t : List ℕ) (one : S → ℕ → Result (A × ℕ) Flaw) (after : S → A → S) (Says : A → List ℕ → Type 0) (Fits : S → A → Type 0) where
  module _ (forth : (s : S) (x : A) (n : ℕ) (bs rest : List ℕ) → Says x bs → Fits s x → drop n t ≡ bs ++ rest → (one s n ≡ Ok (x, n + length bs)) × (drop (n + length bs) t ≡ rest)) where
    pub items_written : (xs : List A) (line : ℕ) (s : S) (n : ℕ) (bs rest : List ℕ) → Lines Says xs bs → Fitting Fits after s xs → drop n t ≡ bs ++ rest → (items_at one after (length xs) line s n ≡ Ok (xs, n + length bs)) × (drop (n + length bs) t ≡ rest)
    items_written [] line s n bs rest l f e =
        let none : n ≡ n + length bs = omega (arith, ap length l) in
        (ap (λ m. Ok ([], m)) none, ap (λ m. drop m t) (sym none) ∙ e ∙ ap (λ x. x ++ rest) l)
    items_written (x ∷ xs) line s n bs rest l f e =
        let front = l.0 in
        let more = l.1.0 in
        let w = forth s x n front (more ++ rest) l.1.1.0 f.0 (e ∙ ap (λ o. o ++ rest) l.1.1.2 ∙ append_assoc front more rest) in
        let ih = items_written xs (line + 1) (after s x) (n + length front) more rest l.1.1.1 f.1 w.1 in
        let place : n + length front + length more ≡ n + length bs = omega (arith, ap length l.1.1.2, length-append front more) in (
          ap (λ r. and_then (on_line line r) (λ y. onto (y.0 ∷ []) (items_at one after (length xs) (line + 1) (after s y.0) y.1))) w.0
              ∙ ap (onto (x ∷ [])) ih.0
              ∙ ap (λ m. Ok (x ∷ xs, m)) place,
          ap (λ m. drop m t) (sym place) ∙ ih.1,
        )

  pub record Many (count : ℕ) (s : S) (n : ℕ) (xs : List A) (m : ℕ) : Type 0 where
    pub bs : List ℕ
    pub writes : Lines Says xs bs
    pub fits : Fitting Fits after s xs
    pub size : length xs ≡ count
    pub split : drop n t ≡ bs ++ drop m t

  module _ (back : (s : S) (n : ℕ) (x : A) (m : ℕ) → one s n ≡ Ok (x, m) → One t Says (Fits s) n x m) where
    pub items_were : (count line : ℕ) (s : S) (n : ℕ) (xs : List A) (m : ℕ) → items_at one after count line s n ≡ Ok (xs, m) → Many count s n xs m
    items_were zero line s n xs m e =
        let q : ◌≡◌ {A = List A × ℕ} ([], n) (xs, m) = cc in
        let same : n ≡ m = ap (λ x. x.1) q in
        let none : [] ≡ xs = ap (λ x. x.0) q in
        let P : List A → Type 0 = λ l. Lines Says l [] × Fitting Fits after s l in
        let all = subst P none (refl, tt) in
        record { bs = []; writes = all.0; fits = all.1; size = ap length (sym none); split = ap (λ j. drop j t) same }
    items_were (suc count) line s n xs m e =
        let x = and_then_ok (on_line line (one s n)) (λ x. onto (x.0 ∷ []) (items_at one after count (line + 1) (after s x.0) x.1)) (xs, m) e in
        let y = x.0.0 in
        let o = back s n y x.0.1 (sym (ok_below line (one s n) x.0 (sym x.1.0))) in
        let z = onto_ok (y ∷ []) (items_at one after count (line + 1) (after s y) x.0.1) xs m x.1.1 in
        let ih = items_were count (line + 1) (after s y) x.0.1 z.0 m z.1.0 in
        let P : List A → Type 0 = λ l. Lines Says l (o.bs ++ ih.bs) × Fitting Fits after s l in
        let all = subst P (sym z.1.1) ((o.bs, (ih.bs, (o.writes, ih.writes, refl))), (o.fits, ih.fits)) in
        record {
          bs = o.bs ++ ih.bs;
          writes = all.0;
          fits = all.1;
          size = ap length z.1.1 ∙ ap suc ih.size;
          split = o.split ∙ ap (λ l. o.bs ++ l) ih.split ∙ sym (append_assoc o.bs ih.bs (drop m t));
        }

-- what holds of the first item and of each of the others holds of each
each_cons : {A : Type 0} (P : A → Type 0) (d x : A) (xs : List A) → P x → ((j : ℕ) → j < length xs → P (get_or xs j d)) → (j : ℕ) → j < length (x ∷ xs) → P (get_or (x ∷ xs) j d)
each_cons P d x xs h hs zero l = h
each_cons P d x xs h hs (suc j) l = hs j (omega arith)

-- items that leave the others what they found fit if each of them does
module _ {A : Type 0} (Fits : A → Type 0) (d : A) where
  abbrev Alone : List A → Type 0
  Alone xs = Fitting (λ (s : Unit {0}) x. Fits x) (λ s x. s) tt xs

  pub alone_from : (xs : List A) → ((j : ℕ) → j < length xs → Fits (get_or xs j d)) → Alone xs
  alone_from [] h = tt
  alone_from (x ∷ xs) h = (h 0 (omega arith), alone_from xs (λ j l. h (suc j) (omega arith)))

  pub alone_each : (xs : List A) → Alone xs → (j : ℕ) → j < length xs → Fits (get_or xs j d)
  alone_each [] f j l = absurd (omega arith)
  alone_each (x ∷ xs) f j l = each_cons Fits d x xs f.0 (alone_each xs f.1) j l

-- partitions fit if each keeps its own rules and their totals stay within the limits
pub partitions_from : (ps : List Partition) (left : Left) → ((k : ℕ) → k < length ps → PartitionKept (get_or ps k none)) → sum_by blocks_in ps ≤ left.blocks → sum_by slots_in ps ≤ left.slots → Fitting PartitionFits less left ps
partitions_from [] left k b s = tt
partitions_from (p ∷ ps) left k b s =
    let cb = sum_by-cons blocks_in p ps in
    let cs = sum_by-cons slots_in p ps in (
      (k 0 (omega arith), omega (arith, cb), omega (arith, cs)),
      partitions_from ps (less left p) (λ j h. k (suc j) (omega arith)) (omega (arith, cb)) (omega (arith, cs)),
    )

pub record Together (ps : List Partition) (left : Left) : Type 0 where
  pub kept : (k : ℕ) → k < length ps → PartitionKept (get_or ps k none)
  pub blocks : sum_by blocks_in ps ≤ left.blocks
  pub slots : sum_by slots_in ps ≤ left.slots

pub partitions_kept : (ps : List Partition) (left : Left) → Fitting PartitionFits less left ps → Together ps left
partitions_kept [] left f = record { kept = λ k l. absurd (omega arith); blocks = omega arith; slots = omega arith }
partitions_kept (p ∷ ps) left f =
    let ih = partitions_kept ps (less left p) f.1 in
    record {
      kept = each_cons PartitionKept none p ps f.0.0 ih.kept;
      blocks = omega (arith, sum_by-cons blocks_in p ps, ih.blocks, f.0.1);
      slots = omega (arith, sum_by-cons slots_in p ps, ih.slots, f.0.2);
    }

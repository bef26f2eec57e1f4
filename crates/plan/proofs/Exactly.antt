-- A text is accepted exactly when it says a layout that keeps the rules, and that layout is what is read.
use Rattle.std.proofs.Common.{◌≡◌, ℕ, ◌+◌, ◌-◌, ◌≤◌, eqb, ltb, List, [], ◌∷◌, ◌++◌, length, drop, Ok, Err, Result, sym, ap, ◌∙◌, subst, append-nil, arith, length-append}
use Rattle.std.proofs.lemmas.List.{drop_all}
use Rattle.std.proofs.lemmas.Bool.{cond-true, cond-false, le-ltb, ltb-false, eq-eqb, eqb-true, ne_eqb}
use Rattle.text.specs.Results.{and_then}
use Rattle.text.proofs.Written.{refused, and_then_ok, kept_in, taken_in}
use Rattle.plan.specs.declared.parts.Accelerator.{Accelerator}
use Rattle.plan.specs.declared.parts.Partition.{Partition}
use Rattle.plan.specs.declared.plan.contents.Contents.{Contents}
use Rattle.plan.specs.declared.faults.Fault.{Fault}
use Rattle.plan.specs.declared.faults.Fault.TheVariants.{Length, Rest}
use Rattle.plan.specs.Rules.{Layout, AcceleratorKept, idle}
use Rattle.plan.specs.Reading.{ContentsKept, contents_at, less, partition_at, accelerator_at, on_line, items_at, partitions_at, accelerators_at, finished, after_contents, reading}
use Rattle.plan.specs.declared.plan.left.Left.{Left}
use Rattle.plan.specs.declared.plan.owners.Owners.{Owners}
use Rattle.plan.specs.Texts.{Line, PartitionLine, AcceleratorLine, Says}
use Rattle.plan.proofs.Items.{ok_below, items_alone}
use Rattle.plan.proofs.Lines.{PartitionFits, contents_written, contents_was, partition_written, partition_was, accelerator_written, accelerator_was}
use Rattle.plan.proofs.Written.{items_written, items_were, alone_from, alone_each, partitions_from, partitions_kept}

-- the contents of a layout
abbrev listed : Layout → Contents
listed l = record { fabric = l.fabric; partitions = length l.partitions; accelerators = length l.accelerators; tasks = l.tasks }

module _ (t : List ℕ) where
  pub said_read : (l : Layout) → Says t l → reading t ≡ Ok l
  said_read l s =
      let c = listed l in
      let ps = l.partitions in
      let w = s.rules.counts.1 s.filled in
      let x = s.text in
      let first = contents_written t c 0 x.first (x.middle ++ x.last) x.contents (w.0, w.2, w.3, w.1) x.whole in
      let after = 0 + length x.first in
      let middle = items_written t (partition_at t) less PartitionLine PartitionFits (partition_written t) ps 2 (record { blocks = l.fabric; slots = 32 }) after x.middle x.last x.partitions (partitions_from ps _ s.rules.partitions s.rules.blocks s.rules.slots) first.1 in
      let last = items_written t (λ (o : Unit {0}) n. accelerator_at t ps l.tasks n) (λ o a. o) AcceleratorLine (λ o. AcceleratorKept ps l.tasks) (λ o. accelerator_written t ps l.tasks) l.accelerators (length ps + 2) tt (after + length x.middle) x.last [] x.accelerators (alone_from (AcceleratorKept ps l.tasks) idle l.accelerators s.rules.accelerators) (middle.1 ∙ sym (append-nil x.last)) in
      let end : after + length x.middle + length x.last ≡ length t = omega (arith, ap length x.whole, length-append x.first (x.middle ++ x.last), length-append x.middle x.last) in
      cond-false _ _ _ (le-ltb 8192 (length t) s.short)
      ∙ ap (λ r. and_then (on_line 1 r) (after_contents t)) first.0
      ∙ ap (λ r. and_then r (λ y. and_then (accelerators_at t c y.0 y.1) (finished t c y.0))) middle.0
      ∙ ap (λ r. and_then r (finished t c ps)) last.0
      ∙ cond-true _ _ _ (eq-eqb (after + length x.middle + length x.last) (length t) end)

  pub read_said : (l : Layout) → reading t ≡ Ok l → Says t l
  read_said l e =
      let s = kept_in (ltb 8192 (length t)) Length _ l e in
      let x = and_then_ok (on_line 1 (contents_at t 0)) (after_contents t) l s.1 in
      let c = x.0.0 in
      let first = contents_was t 0 c x.0.1 (sym (ok_below 1 (contents_at t 0) x.0 (sym x.1.0))) in
      let k = first.fits in
      let y = and_then_ok (partitions_at t c x.0.1) (λ y. and_then (accelerators_at t c y.0 y.1) (finished t c y.0)) l x.1.1 in
      let ps = y.0.0 in
      let left : Left = record { blocks = c.fabric; slots = 32 } in
      let middle = items_were t (partition_at t) less PartitionLine PartitionFits (partition_was t) c.partitions 2 left x.0.1 ps y.0.1 y.1.0 in
      let z = and_then_ok (accelerators_at t c ps y.0.1) (finished t c ps) l y.1.1 in
      let as' = z.0.0 in
      let last = items_were t (λ (o : Unit {0}) n. accelerator_at t ps c.tasks n) (λ o a. o) AcceleratorLine (λ o. AcceleratorKept ps c.tasks) (λ o. accelerator_was t ps c.tasks (omega (arith, middle.size, k.1)) k.3.0) c.accelerators (c.partitions + 2) tt y.0.1 as' z.0.1 z.1.0 in
      let made : Layout = record { fabric = c.fabric; tasks = c.tasks; partitions = ps; accelerators = as' } in
      let end = taken_in (eqb z.0.1 (length t)) (Rest (c.partitions + c.accelerators + 2)) (Ok made) l z.1.1 in
      let whole = end.1 in
      let same : made ≡ l = cc in
      let done : drop z.0.1 t ≡ [] = drop_all z.0.1 t (omega (arith, eqb-true z.0.1 (length t) end.0)) in
      let kept = partitions_kept ps left middle.fits in
      let says : Says t made = record {
        short = ltb-false 8192 (length t) s.0;
        rules = record {
          counts = (λ nothing. absurd (omega (arith, k.3)), λ some. (k.0, k.3, (omega (arith, middle.size, k.1), omega (arith, middle.size, k.1)), (omega (arith, last.size, k.2), omega (arith, last.size, k.2))));
          partitions = kept.kept;
          accelerators = alone_each (AcceleratorKept ps c.tasks) idle as' last.fits;
          blocks = kept.blocks;
          slots = kept.slots;
        };
        filled = k.3.0;
        text = record {
          first = first.bs;
          middle = middle.bs;
          last = last.bs;
          contents = subst (λ j. Line 99 (c.fabric ∷ j ∷ length as' ∷ c.tasks ∷ []) first.bs) (sym middle.size) (subst (λ j. Line 99 (c.fabric ∷ c.partitions ∷ j ∷ c.tasks ∷ []) first.bs) (sym last.size) first.writes);
          partitions = middle.writes;
          accelerators = last.writes;
          whole = first.split ∙ ap (λ o. first.bs ++ o) (middle.split ∙ ap (λ o. middle.bs ++ o) (last.split ∙ ap (λ o. last.bs ++ o) done ∙ append-nil last.bs));
        };
      } in
      subst (Says t) same says

  pub unsaid : (e : Fault) → reading t ≡ Err e → (l : Layout) → Says t l → ⊥
  unsaid e h l s = refused e l (sym h ∙ said_read l s)

  pub only : (l : Layout) → reading t ≡ Ok l → (o : Layout) → Says t o → o ≡ l
  only l h o s = let same = sym (said_read o s) ∙ h in cc

  pub contents_kept : (c : Contents) (n : ℕ) → on_line 1 (contents_at t 0) ≡ Ok (c, n) → ContentsKept c
  contents_kept c n e = (contents_was t 0 c n (sym (ok_below 1 (contents_at t 0) (c, n) (sym e)))).fits

  -- the parts of a text, one after the other, as they are read
  module _ (short : length t ≤ 8192) (c : Contents) (n₁ : ℕ) (first : Ok (c, n₁) ≡ on_line 1 (contents_at t 0)) (ps : List Partition) (n₂ : ℕ) (middle : Ok (ps, n₂) ≡ items_at (partition_at t) less (c.partitions + 2 - 2) 2 (record { blocks = c.fabric; slots = 32 }) n₁) where
    those : partitions_at t c n₁ ≡ Ok (ps, n₂)
    those =
        let count : c.partitions + 2 - 2 ≡ c.partitions = omega arith in
        sym (middle ∙ ap (λ j. items_at (partition_at t) less j 2 (record { blocks = c.fabric; slots = 32 }) n₁) count)

    pub parts_some : ((1 ≤ length ps) × (1 ≤ c.tasks)) × (length ps ≤ 8)
    parts_some =
        let k = contents_kept c n₁ (sym first) in
        let long = (items_were t (partition_at t) less PartitionLine PartitionFits (partition_was t) c.partitions 2 (record { blocks = c.fabric; slots = 32 }) n₁ ps n₂ those).size in
        ((omega (arith, k.1.0), k.3.0), omega (arith, k.1.1))

    module _ (o : Owners) (owned : o.partitions.now ≡ ps) (busy : o.tasks ≡ c.tasks) (r : Result (List Accelerator × ℕ) Fault) (last : r ≡ items_at (λ (o : Owners) n. accelerator_at t o.partitions.now o.tasks n) (λ o a. o) (c.partitions + c.accelerators + 2 - (c.partitions + 2)) (c.partitions + 2) o n₂) where
      pub read_after : and_then r (finished t c ps) ≡ reading t
      read_after =
          let count : c.partitions + c.accelerators + 2 - (c.partitions + 2) ≡ c.accelerators = omega arith in
          let rest : r ≡ accelerators_at t c ps n₂ =
          last
          ∙ ap (λ j. items_at (λ (o : Owners) n. accelerator_at t o.partitions.now o.tasks n) (λ o a. o) j (c.partitions + 2) o n₂) count
          ∙ items_alone (λ (o : Owners) n. accelerator_at t o.partitions.now o.tasks n) o c.accelerators (c.partitions + 2) n₂
          ∙ ap (λ qs. items_at (λ (u : Unit {0}) n. accelerator_at t qs o.tasks n) (λ u a. u) c.accelerators (c.partitions + 2) tt n₂) owned
          ∙ ap (λ k. items_at (λ (u : Unit {0}) n. accelerator_at t ps k n) (λ u a. u) c.accelerators (c.partitions + 2) tt n₂) busy in
          sym
          (cond-false _ _ _ (le-ltb 8192 (length t) short)
          ∙ ap (λ r. and_then r (after_contents t)) (sym first)
          ∙ ap (λ r. and_then r (λ y. and_then (accelerators_at t c y.0 y.1) (finished t c y.0))) those
          ∙ ap (λ r. and_then r (finished t c ps)) (sym rest))

  pub whole : (c : Contents) (ps : List Partition) (as' : List Accelerator) (n : ℕ) → n ≡ length t → Ok (record { fabric = c.fabric; tasks = c.tasks; partitions = ps; accelerators = as' }) ≡ finished t c ps (as', n)
  whole c ps as' n end = sym (cond-true _ _ _ (eq-eqb n (length t) end))

  pub more : (c : Contents) (ps : List Partition) (as' : List Accelerator) (n : ℕ) → (n ≡ length t → ⊥) → Err (Rest (c.partitions + c.accelerators + 2)) ≡ finished t c ps (as', n)
  more c ps as' n end = sym (cond-false _ _ _ (ne_eqb n (length t) end))

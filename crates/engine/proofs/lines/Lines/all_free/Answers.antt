use Rattle.std.proofs.Common.{ℕ, ◌+◌, ◌++◌, length, map, drop, get_or, ap, ◌∙◌, arith}
use Rattle.plan.specs.Layouts.{layout}
use Rattle.plan.specs.Rules.{none}
use Rattle.plan.proofs.Questions.{kept}
use Rattle.model.specs.States.{lines_from}
use Rattle.engine.specs.Views.{standing}
use Rattle.engine.proofs.StartLaws.{few_partitions, few_slots, free_step, free_all}
use Rattle.engine.proofs.lines.Lines.all_free.Goals as goal

pub loop-partition-init : goal.loop-partition-init
loop-partition-init c = (ap length c.new-rows.ensures, omega arith, ap (λ rows. map standing rows ++ lines_from 0 c.partitions-partition-items.result.now) c.new-rows.ensures)

pub numbered-requires : goal.numbered-requires
numbered-requires c =
    let p = c.args.plan.now in
    let is = c.partitions-partition-items.ensures in
    let i = c.loop-partition.partition-index in
    (few_slots (layout p) (kept p) _ is i (omega arith), omega (arith, few_partitions (layout p) (kept p) _ is))

pub push-requires : goal.push-requires
push-requires c =
    let p = c.args.plan.now in
    (omega arith, omega (arith, few_partitions (layout p) (kept p) _ c.partitions-partition-items.ensures))

pub overflow_add-from : goal.overflow_add-from
overflow_add-from c =
    let p = c.args.plan.now in
    omega (arith, few_slots (layout p) (kept p) _ c.partitions-partition-items.ensures c.loop-partition.partition-index (omega arith), few_partitions (layout p) (kept p) _ c.partitions-partition-items.ensures)

pub loop-partition-preserved : goal.loop-partition-preserved
loop-partition-preserved c =
    let p = c.args.plan.now in
    let i = c.loop-partition.partition-index in
    let ps = c.partitions-partition-items.result.now in (
      c.push.ensures.len ∙ ap (λ (n : ℕ). n + 1) c.loop-partition.invariant.0,
      omega (arith, c.loop-partition.invariant.1, few_slots (layout p) (kept p) ps c.partitions-partition-items.ensures i (omega arith)),
      ap (λ rows. map standing rows ++ lines_from (c.loop-partition.from + (get_or ps i none).slots) (drop (i + 1) ps)) c.push.ensures.items
          ∙ free_step c.loop-partition.rows.items c.numbered.result i c.loop-partition.from ps _ c.loop-partition.invariant.2 (omega arith) c.numbered.ensures,
    )

pub returns : goal.returns
returns c =
    free_all c.loop-partition.rows.items c.loop-partition.partition-index c.loop-partition.from c.partitions-partition-items.result.now _ c.loop-partition.invariant.2 (omega arith)
    ∙ ap (lines_from 0) c.partitions-partition-items.ensures

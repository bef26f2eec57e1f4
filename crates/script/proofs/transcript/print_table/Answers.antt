use Rattle.std.proofs.Common.{replicate, sym, append-nil}
use Rattle.plan.specs.Layouts.{layout}
use Rattle.delays.specs.declared.table.Row.{Row}
use Rattle.script.specs.Transcripts.{row_lines}
use Rattle.script.proofs.Table.{row_more, row_here}
use Rattle.script.proofs.transcript.print_table.Goals as goal

pub loop-a-init : goal.loop-a-init
unfolding row_lines
loop-a-init g c = sym (append-nil _)

pub loop-a-preserved : goal.loop-a-preserved
loop-a-preserved g c =
    let l = layout c.args.plan.now in
    let zero : Row = record { delay = 0; write = 0; stay = 0 } in
    let here = row_here l _ _ (replicate 32 c.default-rows.result) _ _ _ zero c.table.ensures.after c.accelerator_count.ensures.is c.accelerator_count.ensures.few c.loop-a-test.true in
    row_more l _ _ _ _ _ _ _ c.loop-a.invariant here c.in_ok-print_line.ensures

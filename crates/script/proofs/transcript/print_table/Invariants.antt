use Rattle.std.proofs.Common.{◌≡◌, ◌++◌}
use Rattle.plan.specs.Layouts.{layout}
use Rattle.script.specs.Transcripts.{row_lines}
use Rattle.script.proofs.transcript.print_table.Given as goal

abbrev pub invariant-loop-a : goal.invariant-loop-a
invariant-loop-a g l = l.out.items ≡ l.initial.out.items ++ row_lines (layout l.plan) (g.P.Port.meaning l.port).rate g.P.Port.INTERRUPTIBLE l.a

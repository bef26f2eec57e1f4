use Rattle.std.proofs.Common.{◌≡◌, map, take}
use Rattle.std.specs.List.{range_with_len}
use Rattle.plan.specs.Layouts.{layout}
use Rattle.delays.specs.Rows.{row_of}
use Rattle.delays.proofs.table.table.Given as goal

abbrev pub invariant-loop-a : goal.invariant-loop-a
invariant-loop-a g l = take l.a l.row-items ≡ map (row_of (layout l.plan) (g.P.Port.meaning l.port).rate g.P.Port.INTERRUPTIBLE) (range_with_len 0 l.a)

use Rattle.std.proofs.Common.{◌≡◌, ◌*◌, ◌≤◌, ◌++◌, map, drop, length}
use Rattle.model.specs.States.{lines_from}
use Rattle.engine.specs.Views.{standing}
use Rattle.engine.proofs.lines.Lines.all_free.Given as goal

abbrev pub invariant-loop-partition : goal.invariant-loop-partition
invariant-loop-partition l =
    (length l.rows.items ≡ l.partition-index)
    × (l.from ≤ 8 * l.partition-index)
    × (map standing l.rows.items ++ lines_from l.from (drop l.partition-index l.partition-items) ≡ lines_from 0 l.partition-items)

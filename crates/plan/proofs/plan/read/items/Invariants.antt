use Rattle.std.proofs.Common.{◌≡◌, ◌-◌}
use Rattle.plan.proofs.Items.{Sofar}
use Rattle.plan.proofs.plan.read.items.Given as goal

abbrev pub invariant-loop-line : goal.invariant-loop-line
invariant-loop-line g l =
    Sofar (g.S.Section.one l.text) g.S.Section.after (l.fn.lines.end - l.fn.lines.start) l.fn.lines.start l.fn.section l.fn.at l.items.items l.line-iterator.start l.section l.next
    × (l.line-iterator.end ≡ l.fn.lines.end)

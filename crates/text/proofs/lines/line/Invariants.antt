use Rattle.std.proofs.Common.{◌≡◌, ◌+◌, ◌-◌, ◌≤◌, length, take}
use Rattle.text.specs.Results.{onto}
use Rattle.text.specs.Numbers.{most}
use Rattle.text.specs.Lines.{fields_at}
use Rattle.text.proofs.lines.line.Given as goal

abbrev pub invariant-loop-number : goal.invariant-loop-number
invariant-loop-number g l =
    (l.at + 1 ≤ l.next) ×
    (l.next ≤ length l.text) ×
    (length l.number-items ≡ g.row.N) ×
    (fields_at l.text (most l.digits) g.row.N (l.at + 1) ≡ onto (take l.number-index l.number-items) (fields_at l.text (most l.digits) (g.row.N - l.number-index) l.next))

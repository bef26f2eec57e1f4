use Rattle.std.proofs.Common.{drop, refl}
use Rattle.engine.proofs.LineLaws.{row_set, leave_is}
use Rattle.engine.proofs.lines.Lines.leave.Goals as goal

pub returns-in-Some : goal.returns-in-Some
returns-in-Some c =
    let popped = c.pop_at.ensures in
    row_set _ c.args.k c.in-Some.line.now c.pop_at.new.self (drop 1) (c.in-Some.ensures.variant.0 refl) c.in-Some.ensures.value
    (leave_is _ _ c.pop_at.result popped.variant.1 popped.items popped.absent)

use Rattle.std.proofs.Common.{refl}
use Rattle.model.specs.Moves.{joined}
use Rattle.engine.proofs.LineLaws.{row_set, join_is}
use Rattle.engine.proofs.lines.Lines.join.Goals as goal

pub returns-in-Some : goal.returns-in-Some
returns-in-Some c =
    let pushed = c.try_push.ensures in
    row_set _ c.args.k c.in-Some.line.now c.try_push.new.self (λ row. joined row c.args.slot) (c.in-Some.ensures.variant.0 refl) c.in-Some.ensures.value
    (join_is _ _ c.args.slot c.try_push.result pushed.variant.0 pushed.ok pushed.err pushed.full)

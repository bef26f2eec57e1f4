use Rattle.model.proofs.Laws.{performed}
use Rattle.engine.proofs.scheduler.Scheduler.collect.Goals as goal

pub returns : goal.returns
returns g c =
    record { performed = performed _ _ _ _ c.hand_over-report.ensures.answer c.hand_over-report.ensures.after; over = (c.over.ensures, c.over-2.ensures) }

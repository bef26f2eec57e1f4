use Rattle.model.proofs.Laws.{performed}
use Rattle.engine.proofs.scheduler.Scheduler.tick.Goals as goal

pub returns : goal.returns
returns g c =
    record { performed = performed _ _ _ _ c.pass-ticked.ensures.answer c.pass-ticked.ensures.after; over = (c.over.ensures, c.over-2.ensures) }

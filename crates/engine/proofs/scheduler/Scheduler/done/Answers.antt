use Rattle.model.proofs.Laws.{performed}
use Rattle.engine.proofs.scheduler.Scheduler.done.Goals as goal

pub returns : goal.returns
returns g c =
    record { performed = performed _ _ _ _ c.complete-ticket.ensures.answer c.complete-ticket.ensures.after; over = (c.over.ensures, c.over-2.ensures) }

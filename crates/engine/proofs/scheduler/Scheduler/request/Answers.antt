use Rattle.model.proofs.Laws.{performed}
use Rattle.engine.proofs.scheduler.Scheduler.request.Goals as goal

pub returns : goal.returns
returns g c =
    record {
      rules = c.accept-ticket.ensures.rules;
      performed = performed _ _ _ _ c.accept-ticket.ensures.answer c.accept-ticket.ensures.after;
      over = (c.over.ensures, c.over-2.ensures);
    }

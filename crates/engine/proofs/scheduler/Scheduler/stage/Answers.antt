use Rattle.std.proofs.Common.{refl}
use Rattle.model.proofs.Laws.{performed}
use Rattle.engine.proofs.scheduler.Scheduler.stage.Goals as goal

pub returns : goal.returns
returns g c =
    record { performed = performed _ _ _ _ c.look.ensures refl; over = c.over.ensures }

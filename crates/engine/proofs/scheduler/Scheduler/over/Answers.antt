use Rattle.std.proofs.Common.{refl}
use Rattle.plan.proofs.Questions.{kept}
use Rattle.engine.proofs.scheduler.Scheduler.over.Goals as goal

pub returns : goal.returns
returns g c =
    rw (← c.self.view_is) (record {
      rules = kept c.self.inside.plan;
      interrupts = refl;
      port = (c.self.inside.port, refl);
      records = c.self.inside.records.places;
    })

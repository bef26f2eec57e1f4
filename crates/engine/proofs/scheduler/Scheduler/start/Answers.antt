use Rattle.std.proofs.Common.{arith}
use Rattle.plan.proofs.Questions.{kept}
use Rattle.model.proofs.Laws.{opened}
use Rattle.engine.proofs.scheduler.Scheduler.start.Goals as goal

pub returns : goal.returns
returns g c =
    let is = c.fresh-scheduler.ensures in
    record {
      is = is;
      opened = opened _ (record { port = g.P.Port.meaning c.args.port; rules = kept c.args.plan; sound = g.met.P.Port.sound c.args.port; low = omega arith; is = is });
      over = c.over.ensures;
    }

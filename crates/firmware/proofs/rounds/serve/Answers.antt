use Rattle.std.proofs.Common.{replicate, refl}
use Rattle.plan.proofs.Questions.{accelerators_few}
use Rattle.firmware.proofs.Serves.{serving_start}
use Rattle.firmware.proofs.rounds.serve.Goals as goal

pub round-first-requires : goal.round-first-requires
round-first-requires g c =
    serving_start _ _ _ _ (replicate 32 c.default-rows.result) _ c.start-scheduler.ensures.is c.start-scheduler.ensures.opened refl (accelerators_few c.args.plan) c.table.ensures.after

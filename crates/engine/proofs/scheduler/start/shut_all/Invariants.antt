use Rattle.std.proofs.Common.{◌≡◌}
use Rattle.model.specs.States.{shut_below}
use Rattle.engine.proofs.scheduler.start.shut_all.Given as goal

abbrev pub invariant-loop-slot : goal.invariant-loop-slot
invariant-loop-slot g l = g.P.Port.meaning l.port ≡ shut_below l.slot (g.P.Port.meaning l.initial.port)

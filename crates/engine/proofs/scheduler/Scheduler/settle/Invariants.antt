use Rattle.std.proofs.Common.{◌≡◌}
use Rattle.model.specs.Moves.{settle_below}
use Rattle.engine.proofs.scheduler.Scheduler.settle.Given as goal

abbrev pub invariant-loop-k : goal.invariant-loop-k
invariant-loop-k g l =
    l.self ≡ settle_below l.k l.initial.self

use Rattle.std.proofs.Common.{◌≡◌, length}
use Rattle.model.specs.States.{line}
use Rattle.model.specs.Moves.{fill}
use Rattle.engine.proofs.scheduler.Scheduler.fill.Given as goal

-- what is left to fill gives the whole
abbrev pub invariant-loop-slot : goal.invariant-loop-slot
invariant-loop-slot g l =
    fill l.k (line l.self l.k) l.self
    ≡ fill l.k (line l.initial.self l.k) l.initial.self

abbrev pub decreases-loop-slot : goal.decreases-loop-slot
decreases-loop-slot g l = length (line l.self l.k)

use Rattle.std.proofs.Common.{◌-◌}
use Rattle.firmware.proofs.Watching.{Watching}
use Rattle.firmware.proofs.readings.watch.Given as goal

-- the ticks that are left of the stay
abbrev pub invariant-loop : goal.invariant-loop
invariant-loop g l =
    Watching l.initial.scheduler l.asked.claim (l.end - l.counter) l.scheduler

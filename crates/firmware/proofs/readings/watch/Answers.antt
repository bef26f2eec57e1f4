use Rattle.std.proofs.Common.{◌≡◌, ◌+◌, ◌-◌, sym, arith}
use Rattle.firmware.proofs.Watching.{watched_end, watched_on, watched_all}
use Rattle.firmware.proofs.readings.watch.Goals as goal

pub loop-preserved : goal.loop-preserved
loop-preserved g c =
    let z : c.args.asked.now.stay - c.loop.counter ≡ c.args.asked.now.stay - (c.loop.counter + 1) + 1 = omega arith in
    watched_on c.requires.names.task_is c.loop.invariant c.report_done.ensures _ z (sym c.if-has_ended.ensures) c.tick.ensures.performed

pub returns-then-has_ended : goal.returns-then-has_ended
returns-then-has_ended g c =
    watched_end c.requires.names.task_is c.loop.invariant c.report_done.ensures (sym c.if-has_ended.ensures)

pub returns : goal.returns
returns g c = watched_all (let z : c.args.asked.now.stay - c.loop.counter ≡ 0 = omega arith in z) c.loop.invariant

use Rattle.std.proofs.Common.{◌≡◌, ◌≤◌}
use Rattle.plan.specs.Layouts.{layout}
use Rattle.plan.specs.Slots.{first_slot}
use Rattle.plan.proofs.plan.Plan.partition_of.Given as goal

abbrev pub invariant-loop-k : goal.invariant-loop-k
invariant-loop-k l = (l.after ≡ first_slot (layout l.self) l.k) × (l.after ≤ l.slot)

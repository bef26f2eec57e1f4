use Rattle.std.proofs.Common.{refl, ap, ◌∙◌, add-one}
use Rattle.ports.specs.Meaning.{Meaning}
use Rattle.ports.specs.Calls.{shut_after}
use Rattle.model.specs.States.{shut_below}
use Rattle.engine.proofs.scheduler.start.shut_all.Goals as goal

pub loop-slot-init : goal.loop-slot-init
unfolding shut_below
loop-slot-init g c = refl

pub loop-slot-preserved : goal.loop-slot-preserved
unfolding shut_below
loop-slot-preserved g c = c.shut.ensures.after ∙ ap (λ (m : Meaning). shut_after m c.loop-slot.slot) c.loop-slot.invariant ∙ rw add-one refl

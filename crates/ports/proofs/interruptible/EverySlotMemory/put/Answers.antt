-- The entries after a change of one slot.
use Rattle.ports.specs.ProgressLaws.{progress_put}
use Rattle.ports.proofs.interruptible.EverySlotMemory.put.Goals as goal

pub returns-clause-after : goal.returns-clause-after
returns-clause-after c = progress_put c.args.self.now.slots c.args.slot.number c.args.progress c.args.self.now.sized c.args.slot.there

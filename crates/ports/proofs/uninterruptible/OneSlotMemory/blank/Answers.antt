-- A blank memory.
use Rattle.ports.specs.StoringLaws.{new_stored}
use Rattle.ports.proofs.uninterruptible.OneSlotMemory.blank.Goals as goal

pub returns : goal.returns
returns c = new_stored c.default.result c.from.result c.from.ensures c.default.ensures

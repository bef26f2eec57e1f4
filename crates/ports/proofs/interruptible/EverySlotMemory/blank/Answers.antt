-- A blank memory.
use Rattle.ports.specs.ProgressLaws.{new_progresses}
use Rattle.ports.proofs.interruptible.EverySlotMemory.blank.Goals as goal

pub returns : goal.returns
returns c = new_progresses c.default.result c.default.ensures

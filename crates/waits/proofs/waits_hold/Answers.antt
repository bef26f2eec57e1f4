-- The law of the waits.
use Rattle.waits.proofs.Laws.{law}
use Rattle.waits.proofs.waits_hold.Goals as goal

pub returns : goal.returns
returns c = law

-- A run of moves that attains a delay.
use Rattle.waits.proofs.Sharps.{sharp}
use Rattle.waits.proofs.waits_sharp.Goals as goal

pub returns : goal.returns
returns c = sharp

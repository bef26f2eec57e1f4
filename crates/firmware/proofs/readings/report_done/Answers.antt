use Rattle.std.proofs.Common.{refl}
use Rattle.firmware.proofs.Watching.{goes_by}
use Rattle.firmware.proofs.readings.report_done.Goals as goal

pub returns-in-Ok-Running : goal.returns-in-Ok-Running
returns-in-Ok-Running g c = goes_by c.done.ensures.performed (λ t. refl)

-- A new port.
use Rattle.ports.specs.MemoryLaws.{new_delivered}
use Rattle.ports.proofs.delivered.Delivered.new.Goals as goal

pub returns : goal.returns
returns g c = new_delivered c.args.rate _ c.if-rate-eq0.false c.if-rate-gt65535.false c.blank.ensures

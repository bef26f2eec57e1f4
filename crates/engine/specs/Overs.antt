-- What is true of every scheduler, whatever calls were made.
use Rattle.std.specs.Prelude.{◌≡◌, length}
use Rattle.plan.specs.Rules.{Rules}
use Rattle.ports.specs.declared.port.Port as ports
use Rattle.model.specs.States.{State}

-- the state of a scheduler over a port of a kind: the plan keeps the rules, the port is one of this kind, and there are 16 records
pub record StateOver {P : Type 0} (kind : ports.Ghosts P) (s : State) : Type 0 where
  pub rules : Rules s.layout
  pub interrupts : s.interrupts ≡ kind.INTERRUPTIBLE
  pub port : (p : P) × (s.port ≡ kind.meaning p)
  pub records : length s.records ≡ 16

-- Each example is computed.
use Rattle.std.proofs.Common.{refl}
use Rattle.ports.specs.Calls.{new_port, other_below}
use Rattle.model.specs.Records.{lowest_below}
use Rattle.model.specs.States.{lines_from, shut_below}
use Rattle.model.specs.Moves.{fill, settle_below, expire_up_to}
use Rattle.examples.proofs.examples_hold.Goals as goal

pub returns : goal.returns
unfolding lowest_below lines_from shut_below fill settle_below expire_up_to new_port other_below
returns c =
    (refl, (refl, (refl, (refl, (refl, (refl, ((refl, refl, refl), ((refl, refl, refl), (refl, (refl, (refl, (refl, (refl, tt)))))))))))))

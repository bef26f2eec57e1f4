-- The slot below.
use Rattle.ports.specs.LayerLaws.{found}
use Rattle.ports.proofs.renumbered.Renumbered.below.Goals as goal

pub returns : goal.returns
returns g c =
    let me = c.args.self.now in
    found me.map.places me.map.sized me.map.whole (g.P.Port.meaning me.port) (g.met.P.Port.sound me.port) g.P.Port.INTERRUPTIBLE c.args.slot c.below.result c.below.ensures

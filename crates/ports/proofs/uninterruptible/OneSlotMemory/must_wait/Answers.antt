-- Only the slot that is begun is half written.
use Rattle.std.proofs.Common.{◌≡◌, ◌∙◌, rules}
use Rattle.ports.specs.Storing.{waits}
use Rattle.ports.specs.StoringLaws.{waits_is}
use Rattle.ports.proofs.uninterruptible.OneSlotMemory.must_wait.Goals as goal

pub returns : goal.returns
returns c =
    let me = c.args.self.now in
    let s = c.args.slot.number in
    let e : c.is_some_and.result ≡ waits me.begun s = search rules in
    e ∙ waits_is me.slots me.begun s me.current

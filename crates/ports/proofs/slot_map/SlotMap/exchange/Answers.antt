-- An exchange loses none of 0 to 31.
use Rattle.std.proofs.Common.{◌∙◌}
use Rattle.ports.specs.MapLaws.{covers_permuted}
use Rattle.ports.proofs.slot_map.SlotMap.exchange.Goals as goal

pub invariant_of-self : goal.invariant_of-self
invariant_of-self c =
    let me = c.args.self.now in
    record {
      sized = c.swap.ensures.len ∙ me.sized;
      whole = covers_permuted me.places c.swap.new.self 32 c.swap.ensures.permutation me.whole;
    }

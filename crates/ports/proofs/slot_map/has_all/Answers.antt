-- Each number below 32 stands in the list.
use Rattle.std.proofs.Common.{refl, rules, tests}
use Rattle.std.proofs.lemmas.Iterator.{YieldsList-from_range}
use Rattle.std.proofs.lemmas.Iterator.Search.{all_from_yields_List}
use Rattle.ports.specs.Maps.{holds, covers}
use Rattle.ports.proofs.slot_map.has_all.Goals as goal

pub returns : goal.returns
unfolding covers
returns c = all_from_yields_List (holds c.args.places.now) _ _ c.all.result c.all.ensures.ran (YieldsList-from_range 0 32 32 refl refl) (λ x b q k. search (rules, tests))

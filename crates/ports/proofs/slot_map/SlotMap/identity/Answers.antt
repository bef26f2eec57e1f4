-- Each of 0 to 31 stands in the list.
use Rattle.std.proofs.Common.{◌≡◌, true, List, ℕ, refl, rules, sym, subst}
use Rattle.ports.specs.Maps.{covers}
use Rattle.ports.specs.MapLaws.{counted}
use Rattle.ports.proofs.slot_map.SlotMap.identity.Goals as goal

pub invariant_of-result : goal.invariant_of-result
unfolding covers
invariant_of-result c =
    let h = c.from_fn.ensures.items in
    let e = counted c.from_fn.result 32 h.long (λ x b. let t = h.at x 0 b in search rules) in
    record { sized = h.long; whole = subst (λ (xs : List ℕ). covers xs 32 ≡ true) (sym e) refl }

pub returns : goal.returns
returns c = let h = c.from_fn.ensures.items in counted c.from_fn.result 32 h.long (λ x b. let t = h.at x 0 b in search rules)

use Rattle.std.proofs.Common.{is_ok, sym, ap, ◌∙◌}
use Rattle.claims.specs.Claims.{after}
use Rattle.firmware.proofs.Watching.{taken}
use Rattle.firmware.proofs.readings.complete.Goals as goal

pub drop-claim-requires : goal.drop-claim-requires
drop-claim-requires g c =
    let x = taken c.watch.ensures c.collect_claim.ensures.given_back in
    ap (λ k. k.task) c.collect_claim.ensures.claim ∙ ap (λ r. (after c.in_ok-asked.asked.claim r).task) x.1

pub returns-clause-handed_on : goal.returns-clause-handed_on
returns-clause-handed_on g c =
    let x = taken c.watch.ensures c.collect_claim.ensures.given_back in
    ap is_ok x.1 ∙ sym (ap is_ok c.in_ok-asked.was)

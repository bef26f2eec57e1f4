use Rattle.std.proofs.Common.{arith}
use Rattle.firmware.proofs.Serves.{serving_on, ready_on, ready_past, completed}
use Rattle.firmware.proofs.rounds.round.Goals as goal

pub complete-third-requires : goal.complete-third-requires
complete-third-requires g c =
    let r = c.ask-third.result in
    let of = c.ask-third.ensures.of in
    ready_past r of (λ e. omega arith) (completed _ c.ask-second.ensures.of c.complete-second.ensures.collected)
    (ready_past r of (λ e. omega arith) (completed _ c.ask-first.ensures.of c.complete-first.ensures.collected)
    (ready_on r c.ask-first.ensures.goes_on c.ask-third.ensures.ready))

pub returns : goal.returns
returns g c =
    let v = c.ask-first.ensures.serving in
    let v₁ = let f = completed _ c.ask-first.ensures.of c.complete-first.ensures.collected in serving_on v (f.goes_on v.run) in
    let v₂ = let f = completed _ c.ask-second.ensures.of c.complete-second.ensures.collected in serving_on v₁ (f.goes_on v₁.run) in
    let f = completed _ c.ask-third.ensures.of c.complete-third.ensures.collected in
    serving_on v₂ (f.goes_on v₂.run)

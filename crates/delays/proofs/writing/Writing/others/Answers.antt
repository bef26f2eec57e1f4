use Rattle.std.proofs.Common.{ℕ, cond, eqb, rules, tests, arith}
use Rattle.std.specs.List.{range_with_len}
use Rattle.std.proofs.lemmas.Iterator.{YieldsList-from_range, YieldsList-from_map}
use Rattle.std.proofs.lemmas.Iterator.Consumers.{sum_by_from_yields_List, fits_by_from_yields_list}
use Rattle.plan.specs.Layouts.{layout}
use Rattle.plan.proofs.Questions.{kept}
use Rattle.delays.specs.Delays.{heaviest}
use Rattle.delays.proofs.Bounds.{others_within}
use Rattle.delays.proofs.writing.Writing.others.Goals as goal

pub sum-requires-clause-fits : goal.sum-requires-clause-fits
sum-requires-clause-fits c =
    let w = c.args.self.now in
    let l = layout w.plan.now in
    let heavy : ℕ → ℕ = λ j. cond (eqb j c.args.owner) 0 (heaviest l w.rate c.args.partition c.args.slots j) in
    fits_by_from_yields_list heavy (range_with_len 0 l.tasks) c.map.result _
    (YieldsList-from_map _ heavy (YieldsList-from_range 0 _ l.tasks c.map.ensures.source (omega arith)) c.map.ensures.closure (λ x r q k. search (rules, tests)))
    (omega (arith, others_within l (kept w.plan.now) w.rate w.paced c.args.partition c.args.slots c.args.owner c.requires))

pub returns : goal.returns
returns c =
    let w = c.args.self.now in
    let l = layout w.plan.now in
    let heavy : ℕ → ℕ = λ j. cond (eqb j c.args.owner) 0 (heaviest l w.rate c.args.partition c.args.slots j) in
    let is =
    sum_by_from_yields_List heavy (range_with_len 0 l.tasks) c.map.result c.sum.result c.sum.ensures.ran
    (YieldsList-from_map _ heavy (YieldsList-from_range 0 _ l.tasks c.map.ensures.source (omega arith)) c.map.ensures.closure (λ x r q k. search (rules, tests))) in
    record { is = is; small = omega (arith, is, others_within l (kept w.plan.now) w.rate w.paced c.args.partition c.args.slots c.args.owner c.requires) }

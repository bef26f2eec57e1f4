use Rattle.std.proofs.Common.{ℕ, cond, eqb, count_by, length, rules, tests, ap, ◌∙◌, arith}
use Rattle.std.proofs.lemmas.Iterator.{YieldsList-from_slice, YieldsList-from_map}
use Rattle.std.proofs.lemmas.Iterator.Consumers.{sum_by_from_yields_List, fits_by_from_yields_list}
use Rattle.std.proofs.lemmas.List.Sums.{count_by-le-length}
use Rattle.plan.specs.declared.parts.Accelerator.{Accelerator}
use Rattle.plan.specs.Layouts.{layout}
use Rattle.plan.proofs.Questions.{kept}
use Rattle.delays.proofs.Bounds.{accelerators_within}
use Rattle.delays.proofs.elsewhere.accelerators_in.Goals as goal

pub sum-requires-clause-fits : goal.sum-requires-clause-fits
sum-requires-clause-fits c =
    let xs = c.accelerators.result.now in
    let one : Accelerator → ℕ = λ b. cond (eqb b.partition c.args.partition) 1 0 in
    let few = count_by-le-length (λ (b : Accelerator). eqb b.partition c.args.partition) xs in
    fits_by_from_yields_list one xs c.map.result _
    (YieldsList-from_map _ one (YieldsList-from_slice xs cc) c.map.ensures.closure (λ x r q k. search (rules, tests)))
    (omega (arith, few, ap length c.accelerators.ensures, accelerators_within (layout c.args.plan.now) (kept c.args.plan.now)))

pub returns : goal.returns
returns c =
    let xs = c.accelerators.result.now in
    let one : Accelerator → ℕ = λ b. cond (eqb b.partition c.args.partition) 1 0 in
    let is =
    sum_by_from_yields_List one xs c.map.result c.sum.result c.sum.ensures.ran
    (YieldsList-from_map _ one (YieldsList-from_slice xs cc) c.map.ensures.closure (λ x r q k. search (rules, tests)))
    ∙ ap (count_by (λ (b : Accelerator). eqb b.partition c.args.partition)) c.accelerators.ensures in
    let few = count_by-le-length (λ (b : Accelerator). eqb b.partition c.args.partition) (layout c.args.plan.now).accelerators in
    record { is = is; few = omega (arith, is, few, accelerators_within (layout c.args.plan.now) (kept c.args.plan.now)) }

use Rattle.std.proofs.Common.{◌≤◌, map, take, ap, ◌∙◌, arith}
use Rattle.std.specs.List.{range_with_len}
use Rattle.std.proofs.lemmas.List.FromFn.{take-map-range_with_len}
use Rattle.plan.specs.Layouts.{layout}
use Rattle.plan.proofs.Questions.{kept}
use Rattle.delays.specs.Greatest.{greatest}
use Rattle.delays.specs.Places.{number_at, place_ticks}
use Rattle.delays.proofs.Bounds.{longest_within}
use Rattle.delays.proofs.Elsewheres.{elsewhere_is}
use Rattle.delays.proofs.writing.Writing.longest_elsewhere.Goals as goal

pub returns : goal.returns
returns c =
    let w = c.args.self.now in
    let p = w.plan.now in
    let l = layout p in
    let measured = place_ticks l w.rate c.args.partition in
    let n = c.partition_count.result in
    let few : n ≤ 8 = c.partition_count.ensures.few in
    let is =
    c.greatest.ensures
    ∙ ap (λ xs. greatest measured (take n xs)) c.with_numbers-numbered.ensures
    ∙ ap (greatest measured) (take-map-range_with_len (number_at l) 0 8 n few)
    ∙ ap (λ m. greatest measured (map (number_at l) (range_with_len 0 m))) c.partition_count.ensures.is
    ∙ elsewhere_is l (kept p) w.rate c.args.partition in
    record { is = is; small = omega (arith, is, longest_within l (kept p) w.rate w.paced c.args.partition) }

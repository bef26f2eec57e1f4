use Rattle.std.proofs.Common.{◌≡◌, [], ◌∷◌, ◌++◌, map, sym, ap, ◌∙◌, arith}
use Rattle.std.specs.List.{range_with_len}
use Rattle.std.proofs.lemmas.List.{take_more_set}
use Rattle.std.proofs.lemmas.List.FromFn.{map-range_with_len_more}
use Rattle.plan.specs.Layouts.{layout}
use Rattle.delays.specs.Rows.{row_of}
use Rattle.delays.proofs.table.table.Goals as goal

pub loop-a-preserved : goal.loop-a-preserved
loop-a-preserved g c =
    let a = c.loop-a.a in
    let row = row_of (layout c.args.plan.now) (g.P.Port.meaning c.args.port.now).rate g.P.Port.INTERRUPTIBLE in
    let is : c.row.result ≡ row a = rw (← c.rate.ensures, ← c.INTERRUPTIBLE.ensures) c.row.ensures in
    take_more_set c.loop-a.row-items a c.row.result (omega arith)
    ∙ ap (λ xs. xs ++ c.row.result ∷ []) c.loop-a.invariant
    ∙ ap (λ x. map row (range_with_len 0 a) ++ x ∷ []) is
    ∙ sym (map-range_with_len_more row 0 a a (omega arith))

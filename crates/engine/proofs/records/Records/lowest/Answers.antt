use Rattle.std.proofs.Common.{sym, refl, ◌∙◌}
use Rattle.model.specs.Records.{at, lowest_below}
use Rattle.engine.proofs.LowestLaws.{taken, passed}
use Rattle.engine.proofs.records.Records.lowest.Goals.{then-wanted, else-wanted}
use Rattle.engine.proofs.records.Records.lowest.Goals as goal

pub loop-index-init : goal.loop-index-init
unfolding lowest_below
loop-index-init g c p says = refl

pub loop-index-preserved : goal.loop-index-preserved
loop-index-preserved g c p says =
    let xs = c.args.self.now.table in
    let n = c.loop-index.index in
    let is = says (at xs n) c.wanted.result (record { shown = _; shows = refl; says = record { met = c.wanted.ensures } }) in
    elim c.if-wanted.branch [
      | then-wanted w ↦ w.found-is ∙ taken p xs n _ _ (c.loop-index.invariant p says) (sym w.if-wanted.true ∙ is) w.lower.ensures
      | else-wanted w ↦ w.found-is ∙ passed p xs n _ (c.loop-index.invariant p says) (sym w.if-wanted.false ∙ is)
    ]

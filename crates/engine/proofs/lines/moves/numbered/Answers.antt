use Rattle.std.proofs.Common.{◌++◌, ◌∷◌, [], ap, ◌∙◌, length, arith}
use Rattle.std.proofs.lemmas.List.FromFn.{length-range_with_len}
use Rattle.engine.proofs.StartLaws.{numbered_more}
use Rattle.engine.proofs.lines.moves.numbered.Goals as goal

pub push-requires : goal.push-requires
push-requires c = (omega arith, omega (arith, ap length c.loop-slot.invariant ∙ length-range_with_len _ _))

pub loop-slot-preserved : goal.loop-slot-preserved
loop-slot-preserved c =
    c.push.ensures.items
    ∙ ap (λ xs. xs ++ c.loop-slot.slot ∷ []) c.loop-slot.invariant
    ∙ numbered_more c.args.from c.loop-slot.slot (omega arith)

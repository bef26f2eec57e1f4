use Rattle.std.proofs.Common.{max, rules, ◌∙◌}
use Rattle.std.proofs.lemmas.Iterator.{YieldsList-from_slice}
use Rattle.std.proofs.lemmas.Iterator.Consumers.{fold_from_yields_List}
use Rattle.delays.proofs.Greatests.{greatest_is}
use Rattle.delays.proofs.measure.greatest.Goals as goal

pub returns : goal.returns
returns g c =
    let f = g.T.Measure.measured c.args.context.now in
    let xs = c.args.items.now in
    fold_from_yields_List _ (λ b x. max (f x) b) 0 c.fold.result c.fold.ensures.ran (YieldsList-from_slice xs cc) (λ b x r q k. search rules)
    ∙ greatest_is f xs

use Rattle.std.proofs.Common.{drop, leb, rules, tests}
use Rattle.std.proofs.lemmas.Iterator.{YieldsList-from_slice}
use Rattle.std.proofs.lemmas.Iterator.Search.{YieldsList-from_take_while}
use Rattle.std.proofs.lemmas.Iterator.Consumers.{count_from_yields_List}
use Rattle.script.proofs.Powers.{powers, reached}
use Rattle.script.proofs.decimals.digits.Goals as goal

pub returns-clause-above : goal.returns-clause-above
returns-clause-above c =
    let n = c.args.n in
    let counted = count_from_yields_List c.take_while.result _ c.count.ensures.ran (YieldsList-from_take_while _ (λ p. leb p n) (YieldsList-from_slice (drop 1 powers) cc) c.take_while.ensures.closure c.take_while.ensures.done (λ x b q k. search (rules, tests))) in
    reached n _ counted

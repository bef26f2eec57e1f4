use Rattle.std.proofs.Common.{◌++◌, vec_items, sym, ap, ◌∙◌, arith}
use Rattle.script.proofs.Numerals.{turn, none_left, numeral}
use Rattle.script.proofs.decimals.print_number.Goals as goal

pub loop-k-preserved : goal.loop-k-preserved
loop-k-preserved c = turn _ _ _ _ _ _ _ (omega arith) c.digit.ensures c.in_ok-push.ensures.items c.loop-k.invariant

pub returns : goal.returns
returns c =
    let all = numeral c.args.n c.digits-k.result (omega arith) c.digits-k.ensures.below c.digits-k.ensures.above (omega arith) in
    sym (none_left c.args.n _ _ c.loop-k-test.false) ∙ c.loop-k.invariant ∙ ap (λ ds. vec_items c.args.out.now ++ ds) all

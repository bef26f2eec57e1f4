use Rattle.std.proofs.Common.{◌≡◌, Err, sym, ap, ◌∙◌, arith, rules}
use Rattle.std.proofs.lemmas.Result.{err_from_is_err_and, IfOk-at_ok}
use Rattle.plan.proofs.Items.{flawed, one_more, all_read, said_of, ok_below}
use Rattle.plan.proofs.plan.read.items.Goals as goal

pub returns-in_err-item : goal.returns-in_err-item
returns-in_err-item g c =
    let p = err_from_is_err_and c.from_residual.result c.from_residual.ensures.1 in
    let steps = c.in-Some.ensures.steps in
    let so = c.loop-line.invariant.0 in
    let said = said_of c.in-Some.line c.item.result c.map_err.result _ _ _ _ c.in_err-item.was c.map_err.ensures.cases (λ f e p. search rules) c.item.ensures.is steps.1.1 in
    rw p.1 (flawed _ _ _ _ _ _ so (omega (arith, so.size)) p.0 (ap Err p.2 ∙ said))

pub loop-line-preserved : goal.loop-line-preserved
loop-line-preserved g c =
    let steps = c.in-Some.ensures.steps in
    let so = c.loop-line.invariant.0 in
    let said = said_of c.in-Some.line c.item.result c.map_err.result _ _ _ _ c.in_ok-item.was c.map_err.ensures.cases (λ f e p. search rules) c.item.ensures.is steps.1.1 in
    let left = IfOk-at_ok (λ x. c.item.new.self ≡ g.S.Section.after c.loop-line.section x.0) (c.item.ensures.is ∙ sym (ok_below _ _ _ said)) c.item.ensures.left in
    rw (c.push.ensures.items, steps.1.2, steps.0) (one_more _ _ _ _ _ _ so (omega (arith, so.size)) c.in_ok-item.item c.in_ok-item.after said c.item.new.self left, c.loop-line.invariant.1)

pub returns : goal.returns
returns g c =
    let steps = c.in-None.ensures.steps in
    let so = c.loop-line.invariant.0 in
    all_read _ _ _ _ _ _ so (omega (arith, so.size))

use Rattle.std.proofs.Common.{Err, sym, ap, ◌∙◌}
use Rattle.std.proofs.lemmas.Result.{err_from_is_err_and}
use Rattle.plan.specs.Layouts.{layout}
use Rattle.plan.proofs.Exactly.{read_said, unsaid, only}
use Rattle.plan.proofs.plan.read.read.Goals as goal

pub returns-in_err-plan-clause-exact : goal.returns-in_err-plan-clause-exact
returns-in_err-plan-clause-exact c =
    let p = err_from_is_err_and c.from_residual.result c.from_residual.ensures.1 in
    rw p.1 (unsaid c.args.text.now p.0 (sym (ap Err p.2 ∙ c.in_err-plan.ensures)))

pub returns-clause-exact : goal.returns-clause-exact
returns-clause-exact c =
    let t = c.args.text.now in
    let l = layout c.in_ok-plan.field-0 in
    let said = sym c.in_ok-plan.ensures in
    (read_said t l said, only t l said)

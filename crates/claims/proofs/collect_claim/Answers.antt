use Rattle.std.proofs.lemmas.Result.{err_from_is_err_and}
use Rattle.claims.proofs.Awaiting.{gives_back}
use Rattle.claims.proofs.collect_claim.Goals as goal

pub returns-in_err-report-clause-given_back : goal.returns-in_err-report-clause-given_back
returns-in_err-report-clause-given_back g c =
    let p = err_from_is_err_and c.from_residual.result c.from_residual.ensures.1 in
    rw (p.1, p.2) (gives_back c.in_err-report.ensures.performed)

pub returns-clause-given_back : goal.returns-clause-given_back
returns-clause-given_back g c = gives_back c.in_ok-report.ensures.performed

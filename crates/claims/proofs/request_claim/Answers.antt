use Rattle.std.proofs.Common.{refl}
use Rattle.std.proofs.lemmas.Result.{err_from_is_err_and}
use Rattle.claims.proofs.Awaiting.{onward, keeps_all, handed, named}
use Rattle.claims.proofs.request_claim.Goals as goal

pub returns-in_err-ticket-clause-handed_over : goal.returns-in_err-ticket-clause-handed_over
returns-in_err-ticket-clause-handed_over g c =
    let p = c.in_err-ticket.ensures.performed in
    let e = err_from_is_err_and c.from_residual.result c.from_residual.ensures.1 in
    rw (e.1, e.2) (record { keeps = keeps_all p (λ t. refl); goes_on = onward p; handed = λ r. tt })

pub returns-clause-names : goal.returns-clause-names
returns-clause-names g c = named c.in_ok-ticket.ensures.performed c.in_ok-ticket.ensures.rules

pub returns-clause-handed_over : goal.returns-clause-handed_over
returns-clause-handed_over g c =
    let p = c.in_ok-ticket.ensures.performed in
    record { keeps = keeps_all p (λ t. refl); goes_on = onward p; handed = handed p }

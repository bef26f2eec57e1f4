use Rattle.std.proofs.Common.{sym, ap, ◌∙◌}
use Rattle.std.proofs.lemmas.Result.{on_ok_weaker}
use Rattle.ports.specs.Calls.{made_of}
use Rattle.ports.specs.Means.{delivered_meaning}
use Rattle.script.proofs.Made.{ran}
use Rattle.script.proofs.transcript.print_run.Goals as goal

pub returns-in_ok-print_table-in-Ok : goal.returns-in_ok-print_table-in-Ok
returns-in_ok-print_table-in-Ok g c =
    let made = ap (made_of (delivered_meaning g.M.Memory.entries)) (sym c.in-Ok.is) ∙ c.new.ensures in
    on_ok_weaker c.print_later.result (ran _ _ c.args.rate _ _ _ _ _ made c.in_ok-print_table-in-Ok.ensures) c.print_later.ensures

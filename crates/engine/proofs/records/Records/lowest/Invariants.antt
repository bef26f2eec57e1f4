use Rattle.std.proofs.Common.{◌≡◌, Bool}
use Rattle.model.specs.declared.requests.Record.{Record}
use Rattle.model.specs.Records.{lowest_below}
use Rattle.engine.specs.Views.{Says}
use Rattle.engine.proofs.records.Records.lowest.Given as goal

abbrev pub invariant-loop-index : goal.invariant-loop-index
invariant-loop-index g l = (p : Record → Bool) → Says g.F.Fn l.wanted p → l.found ≡ lowest_below p l.self.table l.index

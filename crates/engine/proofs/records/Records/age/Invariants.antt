use Rattle.std.proofs.Common.{◌≡◌, ◌++◌, map, take, drop}
use Rattle.model.specs.Records.{aged}
use Rattle.engine.proofs.records.Records.age.Given as goal

abbrev pub invariant-loop-record : goal.invariant-loop-record
invariant-loop-record l =
    l.record-items ≡ map aged (take l.record-index l.initial.record-items) ++ drop l.record-index l.initial.record-items

use Rattle.std.proofs.Common.{◌≡◌, ◌+◌, ◌-◌, count_by, length}
use Rattle.model.specs.Moves.{expired, expire_up_to}
use Rattle.engine.proofs.scheduler.Scheduler.expire.Given as goal

-- there are as many records as before, what is left to expire gives the whole, and each turn ends one
abbrev pub invariant-loop-place : goal.invariant-loop-place
invariant-loop-place g l =
    let s = l.self in
    let s₀ = l.initial.self in
    (length s.records ≡ length s₀.records)
    × (l.ended + count_by (expired s.layout) s.records ≡ count_by (expired s₀.layout) s₀.records)
    × (expire_up_to (16 - l.ended) s ≡ expire_up_to 16 s₀)

abbrev pub decreases-loop-place : goal.decreases-loop-place
decreases-loop-place g l =
    let s = l.self in
    count_by (expired s.layout) s.records

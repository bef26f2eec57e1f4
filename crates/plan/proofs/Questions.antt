-- What a plan answers, and that every plan keeps the rules.
use Rattle.std.proofs.Common.{◌≤◌, length, ⊎_elim, arith}
use Rattle.std.proofs.lemmas.Bool.{cases_lt}
use Rattle.plan.specs.declared.plan.Plan.{Plan}
use Rattle.plan.specs.Layouts.{layout}
use Rattle.plan.specs.Rules.{Layout, Rules}

pub kept : (p : Plan) → Rules (layout p)
kept p = p.rules

-- no layout that keeps the rules has more of a thing than the limit
pub few : (l : Layout) → Rules l → (l.tasks ≤ 16) × (length l.partitions ≤ 8) × (length l.accelerators ≤ 32)
few l r =
    ⊎_elim
    (λ some. let w = r.counts.1 some in (w.1.1, w.2.1, w.3.1))
    (λ nothing. let b = r.counts.0 (omega arith) in (omega arith, omega (arith, b.2), omega (arith, b.3)))
    (cases_lt 0 l.tasks)

pub partitions_few : (p : Plan) → length (layout p).partitions ≤ 8
partitions_few p = (few (layout p) (kept p)).1

pub accelerators_few : (p : Plan) → length (layout p).accelerators ≤ 32
accelerators_few p = (few (layout p) (kept p)).2

-- The layout of a plan: what it says, read off its parts.
use Rattle.plan.specs.Rules.{Layout}
use Rattle.plan.specs.declared.plan.Plan.{Plan}

abbrev pub layout : Plan → Layout
layout p = record { fabric = p.fabric; tasks = p.tasks; partitions = p.partitions.items; accelerators = p.accelerators.items }

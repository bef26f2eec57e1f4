use Rattle.plan.proofs.Questions.{kept}
use Rattle.engine.proofs.places.Place.of.Goals as goal

pub returns-then-task-tasks-clause-rules : goal.returns-then-task-tasks-clause-rules
returns-then-task-tasks-clause-rules c = kept c.args.plan.now

pub returns-clause-rules : goal.returns-clause-rules
returns-clause-rules c = kept c.args.plan.now

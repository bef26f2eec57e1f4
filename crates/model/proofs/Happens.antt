-- The ways in which a call can go, with what each one says of the state in which it was made.
use Rattle.std.proofs.Common.{◌≡◌, ℕ, ◌<◌, ◌≤◌, Bool, true, false, cond, not, eqb, ltb, leb, length, Some, None, Option, refl, Ok, Err, Result, arith}
use Rattle.std.proofs.lemmas.Bool.{not-false, eqb-true, leb-false, ltb-false}
use Rattle.plan.specs.Slots.{slot_count}
use Rattle.delays.specs.Delays.{accelerator_at}
use Rattle.model.specs.declared.requests.Outcome.TheVariants.{Finished}
use Rattle.model.specs.declared.refusals.Refusal.{Refusal}
use Rattle.model.specs.declared.refusals.Refusal.TheVariants.{NotRunning}
use Rattle.model.specs.declared.calls.Call.{Call}
use Rattle.model.specs.declared.calls.Call.TheVariants.{Request, Tick, Done, Collect, StageOf}
use Rattle.model.specs.declared.calls.Answer.{Answer}
use Rattle.model.specs.declared.calls.Answer.TheVariants.{Ticket, Completed, Collected, Stands}
use Rattle.model.specs.Records.{at, held_stage, unended_stage, on_found}
use Rattle.model.specs.Lowests.{Lowest, Found}
use Rattle.model.specs.States.{State}
use Rattle.model.specs.Moves.{runs_in, settle, finish}
use Rattle.ports.specs.Calls.{judged, unless}
use Rattle.model.specs.Calls.{why_request, enter, tick_answer, tick_after, running_in, why_done, why_collect, report, empty, why_stage, answer, after}
use Rattle.model.specs.Promises.{ticking}
use Rattle.model.proofs.Lowests.{found}

pub record Accepts (s : State) (task a : ℕ) : Type 0 where
  pub task_in : task < s.layout.tasks
  pub accelerator_in : a < length s.layout.accelerators
  pub owned : (accelerator_at s.layout a).owner ≡ task
  pub free : held_stage (at s.records task).stage ≡ false
  pub room : s.next ≤ 4294967295

pub record Collects (s : State) (task t : ℕ) : Type 0 where
  pub task_in : task < s.layout.tasks
  pub holds : held_stage (at s.records task).stage ≡ true
  pub named : (at s.records task).ticket ≡ t
  pub ended : unended_stage (at s.records task).stage ≡ false

pub data Happened (s : State) : Call → Result Answer Refusal → State → Type 0 where
  refused : (c : Call) (r : Refusal) → ticking c ≡ false → Happened s c (Err r) s
  entered : (task a : ℕ) → Accepts s task a → Happened s (Request task a) (Ok (Ticket s.next)) (settle (enter s task a))
  ticked : Happened s Tick (tick_answer s) (tick_after s)
  completed : (slot i : ℕ) → Lowest (runs_in slot) s.records i → Happened s (Done slot) (Ok (Completed (at s.records i).ticket)) (settle (finish s i Finished))
  collected : (task t : ℕ) → Collects s task t → Happened s (Collect task t) (Ok (Collected (report (at s.records task)))) (empty s task)
  asked : (task : ℕ) → Happened s (StageOf task) (Ok (Stands (at s.records task).stage)) s

passed : (b : Bool) (r : Refusal) (w : Option Refusal) → cond b (Some r) w ≡ None → (b ≡ false) × (w ≡ None)
passed b r w e = grind arith

accepts : (s : State) (task a : ℕ) → why_request s task a ≡ None → Accepts s task a
accepts s task a e =
    let p = passed (leb s.layout.tasks task) _ _ e in
    let q = passed (leb (length s.layout.accelerators) a) _ _ p.1 in
    let r = passed (not (eqb (accelerator_at s.layout a).owner task)) _ _ q.1 in
    let h = passed (held_stage (at s.records task).stage) _ _ r.1 in
    let n = passed (ltb 4294967295 s.next) _ _ h.1 in
    record {
      task_in = leb-false _ _ p.0;
      accelerator_in = leb-false _ _ q.0;
      owned = eqb-true _ _ (not-false _ r.0);
      free = h.0;
      room = ltb-false _ _ n.0;
    }

collects : (s : State) (task t : ℕ) → why_collect s task t ≡ None → Collects s task t
collects s task t e =
    let p = passed (leb s.layout.tasks task) _ _ e in
    let q = passed (not (held_stage (at s.records task).stage)) _ _ p.1 in
    let r = passed (not (eqb (at s.records task).ticket t)) _ _ q.1 in
    let h = passed (unended_stage (at s.records task).stage) _ _ r.1 in
    record { task_in = leb-false _ _ p.0; holds = not-false _ q.0; named = eqb-true _ _ (not-false _ r.0); ended = h.0 }

-- a call that is judged: refused, or what it is when nothing is against it
either : (s : State) (c : Call) (w : Option Refusal) (a : Answer) (s' : State) → ticking c ≡ false → (w ≡ None → Happened s c (Ok a) s') → Happened s c (judged w a) (unless w s s')
either s c (Some r) a s' q h = Happened.refused c r q
either s c None a s' q h = h refl

done_at : (s : State) (slot : ℕ) (o : Option ℕ) → Found (runs_in slot) s.records o → on_found o (Some NotRunning) (λ i. None) ≡ None → Happened s (Done slot) (Ok (Completed (on_found o 0 (λ i. (at s.records i).ticket)))) (on_found o s (λ i. settle (finish s i Finished)))
done_at s slot None f e = grind arith
done_at s slot (Some i) f e = Happened.completed slot i f

asked_at : (s : State) (task : ℕ) (w : Option Refusal) → Happened s (StageOf task) (judged w (Stands (at s.records task).stage)) s
asked_at s task (Some r) = Happened.refused (StageOf task) r refl
asked_at s task None = Happened.asked task

pub happened : (s : State) (c : Call) → Happened s c (answer s c) (after s c)
happened s (Request task a) = either s (Request task a) (why_request s task a) _ _ refl (λ e. Happened.entered task a (accepts s task a e))
happened s Tick = Happened.ticked
happened s (Done slot) =
    either s (Done slot) (why_done s slot) _ _ refl
    (λ e. done_at s slot (running_in s slot) (found (runs_in slot) s.records) (passed (leb (slot_count s.layout) slot) _ _ e).1)
happened s (Collect task t) = either s (Collect task t) (why_collect s task t) _ _ refl (λ e. Happened.collected task t (collects s task t e))
happened s (StageOf task) = asked_at s task (why_stage s task)

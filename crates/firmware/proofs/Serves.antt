-- What is known from one call of a round to the next.
use Rattle.std.proofs.Common.{◌≡◌, ℕ, ◌<◌, ◌≤◌, Bool, List, [], length, get_or, IfOk, Ok, Err, Result, sym, ap, ◌∙◌, subst, arith}
use Rattle.delays.specs.declared.table.Row.{Row}
use Rattle.delays.specs.Delays.{stay}
use Rattle.delays.specs.Rows.{table_after}
use Rattle.delays.proofs.Tables.{row_at}
use Rattle.plan.specs.Rules.{Layout}
use Rattle.ports.specs.Meaning.{Meaning}
use Rattle.model.specs.declared.refusals.Refusal.{Refusal}
use Rattle.model.specs.States.{State, start}
use Rattle.model.specs.Laws.{Opened}
use Rattle.model.proofs.Reaches.{start_rate}
use Rattle.claims.specs.Awaits.{stay_in, Onward}
use Rattle.firmware.specs.declared.readings.Asked.{Asked}
use Rattle.firmware.specs.Readings.{GoesOn, Ready, Of, Collected, CollectedIf}
use Rattle.firmware.specs.Rounds.{no_row, Serving}

pub serving_on : {s s' : State} {rows : List Row} → Serving s rows → Onward s s' → Serving s' rows
serving_on v o = record {
  run = o.run;
  stays = λ a known. o.stays a ∙ v.stays a (subst (λ (l : Layout). a < length l.accelerators) o.layout known);
}

-- a request stays ready while other tasks ask
pub ready_on : {s s' : State} (r : Result Asked Refusal) → GoesOn s s' → IfOk r (Ready s) → IfOk r (Ready s')
ready_on (Ok q) o w = record { names = w.names; awaited = o.keeps q.claim q.stay tt w.awaited }
ready_on (Err why) o w = tt

-- and while the request of another task is completed
pub ready_past : {s s' : State} {task other : ℕ} (r : Result Asked Refusal) → IfOk r (Of task) → (task ≡ other → ⊥) → Collected other s s' → IfOk r (Ready s) → IfOk r (Ready s')
ready_past (Ok q) of ne c w =
    record { names = w.names; awaited = c.keeps q.claim q.stay (λ e. ne (sym of ∙ sym w.names.task_is ∙ e)) w.awaited }
ready_past (Err why) of ne c w = tt

pub completed : {s s' : State} {task : ℕ} (r : Result Asked Refusal) → IfOk r (Of task) → CollectedIf s s' r → Collected task s s'
completed {s} {s'} (Ok q) of c = subst (λ (t : ℕ). Collected t s s') of c
completed (Err why) of c = record { keeps = λ d n _ w. c.keeps d n tt w; goes_on = c.goes_on }

-- a start, with the rows of its table
pub serving_start : (l : Layout) (kd : Bool) (m : Meaning) (s : State) (old rows : List Row) → s ≡ start l kd 1 m → Opened l kd 1 s → length old ≡ 32 → length l.accelerators ≤ 32 → rows ≡ table_after l m.rate kd old → Serving s rows
unfolding stay_in
serving_start l kd m s old rows is op long few after =
    let laid : s.layout ≡ l = ap (λ x. x.layout) is in
    let kind : s.interrupts ≡ kd = ap (λ x. x.interrupts) is in
    let paced : s.port.rate ≡ m.rate = ap (λ x. x.port.rate) is ∙ start_rate l kd 1 m in
    record {
      run = record { layout = l; interrupts = kd; first = 1; trace = []; reached = op.reached };
      stays = λ a known.
          let here : a < length l.accelerators = subst (λ (x : Layout). a < length x.accelerators) laid known in
          ap (λ (x : Layout). stay x s.port.rate s.interrupts a) laid
          ∙ ap (λ (x : ℕ). stay l x s.interrupts a) paced
          ∙ ap (λ (k : Bool). stay l m.rate k a) kind
          ∙ sym (ap (λ r. r.stay) (ap (λ xs. get_or xs a no_row) after ∙ row_at l m.rate kd old a no_row (omega arith) here));
    }

-- Every call keeps the promises and the rules, in every run.
use Rattle.std.proofs.Common.{◌≡◌, ℕ, Bool, sym, ap, ◌∙◌, subst, Result, Ok, refl, arith}
use Rattle.plan.specs.Rules.{Layout}
use Rattle.model.specs.declared.calls.Call.{Call}
use Rattle.model.specs.declared.refusals.Refusal.{Refusal}
use Rattle.model.specs.declared.calls.Answer.{Answer}
use Rattle.model.specs.declared.calls.Answer.TheVariants.{Ticket}
use Rattle.model.specs.Records.{reserved_stage}
use Rattle.model.specs.States.{State}
use Rattle.model.specs.Moves.{ready}
use Rattle.model.specs.Calls.{answer, after}
use Rattle.model.specs.Runs.{Trace, Started, Reached}
use Rattle.model.specs.Grants.{Ordered}
use Rattle.model.specs.Feeds.{TickTells}
use Rattle.model.specs.Stops.{Unstopped}
use Rattle.model.specs.Laws.{Ruled, Step, Opened, Performed}
use Rattle.model.proofs.Views.{seen_queued, seen_occupant}
use Rattle.model.proofs.Happens.{Happened}
use Rattle.model.proofs.Traces.{ticket_inj, ticket_report, plain_ticket}
use Rattle.model.proofs.Bases.{base_reached, happens}
use Rattle.model.proofs.Placed.{room, own_slot}
use Rattle.model.proofs.Settles.{settled_ready}
use Rattle.model.proofs.Invariants.{Invariant, roomy}
use Rattle.model.proofs.Reaches.{invariant_reached, invariant_ready, progress, settled_reached, rising}
use Rattle.model.proofs.Sounds.{sound, rate_same}
use Rattle.model.proofs.Overruns.{ran_reached}
use Rattle.model.proofs.Turns.{turns_step}
use Rattle.model.proofs.Feeds.{begun_is, tick_tells, went_step, goes_on}

ordered : (rate : ℕ) (s : State) → Invariant rate s → Ordered s
ordered rate s md i j c d q o e = md.inv.order i j c d (seen_queued _ ∙ q) (seen_occupant _ ∙ o) e

unstopped : (rate : ℕ) (s : State) → Invariant rate s → Unstopped s
unstopped rate s md = record {
  lines = λ i c o. room s md.placed i (omega (arith, md.placed.tickets.size)) o;
  counts = roomy s rate md;
  begun_is = begun_is rate s md;
}

pub ruled : {l : Layout} {kd : Bool} {first : ℕ} {h : Trace} (s : State) → Reached l kd first h s → Ruled first h s
ruled s r =
    let md = invariant_reached r in
    record { next = rising r; settled = settled_reached r; ordered = ordered _ s md; own_partition = own_slot s md.placed; progress = progress s md; ran_out = ran_reached r; unstopped = unstopped _ s md }

-- only an accepted request is answered by a ticket
ticket_next : (s : State) (c : Call) (a : Result Answer Refusal) (s' : State) → Happened s c a s' → (t : ℕ) → a ≡ Ok (Ticket t) → t ≡ s.next
ticket_next s c a s' (Happened.refused _ r q) t e = plain_ticket _ t refl e
ticket_next s c a s' (Happened.entered task i x) t e = sym (ticket_inj s.next t e)
ticket_next s c a s' Happened.ticked t e = plain_ticket _ t refl e
ticket_next s c a s' (Happened.completed slot i f) t e = plain_ticket _ t refl e
ticket_next s c a s' (Happened.collected task u x) t e = ticket_report t _ (sym e)
ticket_next s c a s' (Happened.asked task) t e = plain_ticket _ t refl e

pub step : {l : Layout} {kd : Bool} {first : ℕ} {h : Trace} (s : State) (c : Call) (a : Result Answer Refusal) (s' : State) → a ≡ answer s c → s' ≡ after s c → Reached l kd first h s → Step s c a s'
step s c a s' says leaves r =
    let next = Reached.called c a r says leaves in
    let b = base_reached r in
    let b' = base_reached next in
    let md = invariant_reached r in
    let rate = rate_same s c a s' r says leaves in
    let md' : Invariant s.port.rate s' = subst (λ (x : ℕ). Invariant x s') rate (invariant_reached next) in
    let laid : s'.layout ≡ s.layout = b'.laid ∙ sym b.laid in
    let what = happens s c a s' says leaves in
    record {
      layout = laid;
      interrupts = b'.kind ∙ sym b.kind;
      rate = rate;
      ticket = ticket_next s c a s' what;
      turns = turns_step s c a s' md.placed what;
      writes = λ e. subst (TickTells (ready s)) (sym (says ∙ ap (answer s) e)) (tick_tells s.port.rate s md);
      granted = λ e. settled_ready s md.placed.rows;
      unstopped = λ e. unstopped s.port.rate (ready s) (invariant_ready s.port.rate s md);
      goes_on = λ i slot d was. goes_on s.port.rate s a s' md md' laid i slot d was (went_step s.port.rate s c a s' md what i d (ap reserved_stage was));
    }

-- what a start promises
pub opened : {l : Layout} {kd : Bool} {first : ℕ} (s : State) → Started l kd first s → Opened l kd first s
opened s st = let r = Reached.started st in record { reached = r; sound = sound s r; ruled = ruled s r }

-- what a call of a scheduler promises follows from its answer and the state that it leaves
pub performed : (s : State) (c : Call) (a : Result Answer Refusal) (s' : State) → a ≡ answer s c → s' ≡ after s c → Performed s c a s'
performed s c a s' says leaves = record {
  answered = says;
  left = leaves;
  runs = λ l kd first h r. Reached.called c a r says leaves;
  sound = λ l kd first h r. sound s' (Reached.called c a r says leaves);
  ruled = λ l kd first h r. ruled s' (Reached.called c a r says leaves);
  step = λ l kd first h r. step s c a s' says leaves r;
}

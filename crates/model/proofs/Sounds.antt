-- Every run is sound.
use Rattle.std.proofs.Common.{◌≡◌, ℕ, ◌+◌, ◌≤◌, Bool, true, false, cond, ◌&&◌, eqb, [], ◌∷◌, sym, refl, ap, ◌∙◌, subst, subst₂, ⊎_elim, Result, Err, arith}
use Rattle.std.proofs.lemmas.Bool.{cases_Bool, eq-eqb}
use Rattle.plan.specs.Rules.{Layout}
use Rattle.delays.specs.Delays.{delay}
use Rattle.model.specs.declared.requests.Outcome.TheVariants.{Finished}
use Rattle.model.specs.declared.requests.Stage.{Stage}
use Rattle.model.specs.declared.requests.Report.{Report}
use Rattle.model.specs.declared.calls.Call.{Call}
use Rattle.model.specs.declared.calls.Call.TheVariants.{Tick, Done, StageOf}
use Rattle.model.specs.declared.refusals.Refusal.{Refusal}
use Rattle.model.specs.declared.calls.Answer.{Answer}
use Rattle.model.specs.Records.{at, one, unended_stage}
use Rattle.model.specs.States.{State}
use Rattle.model.specs.Moves.{settle, finish, ready}
use Rattle.model.specs.Calls.{enter, tick_after, tick_answer, answer, after}
use Rattle.model.specs.Runs.{Trace, Reached}
use Rattle.model.specs.Promises.{holds, Since, Told, ticking, ticks, Counts, overrun, overrun_stage, recorded, reported, Counted, Timed, Sound}
use Rattle.model.proofs.Ways.{Way, then, framed, way_settle}
use Rattle.model.proofs.Sames.{same_refl, same_way, same_tick, framed_tick}
use Rattle.model.proofs.Happens.{Happened}
use Rattle.model.proofs.Tickets.{holds1}
use Rattle.model.proofs.Bases.{Base, event, few, base_reached, base_enter, base_finish, happens, ends_run, holding, holds_record, kept, Holder}
use Rattle.model.proofs.Placed.{shared}
use Rattle.model.proofs.Ticks.{tot, AllRoomy, still_settle, tot_tick, tot_finish}
use Rattle.model.proofs.Traces.{none_since, none_told}
use Rattle.model.proofs.Invariants.{Invariant, Capped, capped, roomy}
use Rattle.model.proofs.Reaches.{invariant_reached, invariant_ready, invariant_step, images}
use Rattle.model.proofs.Timings.{Timing, timing_still, timing_goes, timing_enter, timing_collect, unended_holder}

module _ {l : Layout} {rate : ℕ} {kd : Bool} {h : Trace} where
  timing_step : (s : State) (c : Call) (a : Result Answer Refusal) (s' : State) → Base l kd h s → Invariant rate s → Timing l rate kd h s → Happened s c a s' → Timing l rate kd (event s c a ∷ h) s'
  timing_step s c a s' b md tm (Happened.refused _ r q) =
      timing_goes s s b tm (same_refl s.records) refl c (Err r) refl (λ j d. let z : tot (at s.records j) ≡ tot (at s.records j) + one (ticking c && unended_stage (at s.records j).stage) = omega (arith, ap (λ x. one (x && unended_stage (at s.records j).stage)) q) in z)
  timing_step s c a s' b md tm (Happened.entered task i x) =
      let b' = base_enter s task i b x in
      let w = way_settle (enter s task i) b.rows in
      let st = still_settle (enter s task i) b.rows in
      timing_still (enter s task i) (settle (enter s task i)) b' (timing_enter s b tm task i x) (same_way w) (framed w).next (λ j d. st.tot_is j (omega (arith, b'.tickets.size)))
  timing_step s c a s' b md tm Happened.ticked =
      let r = invariant_ready rate s md in
      let room : AllRoomy (ready s).records = λ j d hd. roomy (ready s) rate r j (omega (arith, r.placed.tickets.size)) hd in
      timing_goes s (tick_after s) b tm (same_tick s b.rows) (framed_tick s b.rows).next Tick (tick_answer s) refl (λ j d. tot_tick s b.rows room j (omega (arith, b.tickets.size)))
  timing_step s c a s' b md tm (Happened.completed slot i f) =
      let e = ends_run s slot i f in
      let f' = finish s i Finished in
      let b' = base_finish s i Finished e b in
      let w : Way s (settle f') = then (Way.ends i Finished e Way.none) (way_settle f' b'.rows) in
      let st = still_settle f' b'.rows in
      timing_goes s (settle f') b tm (same_way w) (framed w).next (Done slot) _ refl
      (λ j d. let z : tot (at (settle f').records j) ≡ tot (at s.records j) + 0 = omega (arith, st.tot_is j (omega (arith, b'.tickets.size)), tot_finish s i e.there e.runs j) in z)
  timing_step s c a s' b md tm (Happened.collected task t x) =
      let fw = few s task b x.task_in in
      let cp = capped s rate md task fw x.holds in
      timing_collect s b tm task t x (subst₂ (λ (y : Layout) (k : Bool). Capped y rate k (at s.records task).accelerator (at s.records task).waited (at s.records task).written (at s.records task).run) b.laid b.kind cp)
  timing_step s c a s' b md tm (Happened.asked task) =
      timing_goes s s b tm (same_refl s.records) refl (StageOf task) _ refl (λ j d. let z : tot (at s.records j) ≡ tot (at s.records j) + 0 = omega arith in z)

timing_start : {l : Layout} {rate : ℕ} {kd : Bool} (s : State) → Timing l rate kd [] s
timing_start s = record {
  live = λ task a t later x si. absurd (none_since si);
  past = λ task a t later r si td. absurd (none_since si);
  gone = λ task t r td. absurd (none_told td);
  fate = λ task a t later si. absurd (none_since si);
}

pub rate_same : {l : Layout} {kd : Bool} {first : ℕ} {h : Trace} (s : State) (c : Call) (a : Result Answer Refusal) (s' : State) → Reached l kd first h s → a ≡ answer s c → s' ≡ after s c → s'.port.rate ≡ s.port.rate
rate_same s c a s' r says leaves = (invariant_step s.port.rate s c a s' (invariant_reached r) (happens s c a s' says leaves)).stored.rate_is

timing_reached : {l : Layout} {kd : Bool} {first : ℕ} {h : Trace} {s : State} → Reached l kd first h s → Timing l s.port.rate kd h s
timing_reached {s = s} (Reached.started st) = timing_start s
timing_reached {l} {kd} (Reached.called {h} {s} {s'} c a r says leaves) =
    subst (λ (x : ℕ). Timing l x kd (event s c a ∷ h) s') (sym (rate_same s c a s' r says leaves))
    (timing_step s c a s' (base_reached r) (invariant_reached r) (timing_reached r) (happens s c a s' says leaves))

one_most : (x : Bool) → one x ≤ 1
one_most x = grind arith

plain_alive : (σ : Stage) → unended_stage σ ≡ true → overrun_stage σ ≡ false
plain_alive σ e = grind arith

module _ {l : Layout} {kd : Bool} {first : ℕ} {h : Trace} (s : State) (r : Reached l kd first h s) where
  abbrev rate : ℕ
  rate = s.port.rate

  -- the bounds of a request that a task holds
  cap_held : (task a t : ℕ) (later : Trace) → Holder s task t → Since task a t later h → Capped s.layout rate s.interrupts a (at s.records task).waited (at s.records task).written (at s.records task).run
  cap_held task a t later x si =
      subst (λ (y : ℕ). Capped s.layout rate s.interrupts y (at s.records task).waited (at s.records task).written (at s.records task).run)
      ((timing_reached r).live task a t later x si).image (capped s rate (invariant_reached r) task x.few x.held)

  cap_told : (task a t : ℕ) (later : Trace) (q : Report) → Since task a t later h → Told task t q h → Capped s.layout rate s.interrupts a q.waited q.written q.run
  cap_told task a t later q si td =
      let b = base_reached r in
      subst₂ (λ (y : Layout) (k : Bool). Capped y rate k a q.waited q.written q.run) (sym b.laid) (sym b.kind) ((timing_reached r).past task a t later q si td).cap

  holder_holds : (task t : ℕ) → Holder s task t → holds s task t ≡ true
  holder_holds task t x =
      let n = holds_record s (base_reached r) task t x.few in
      let m : holds1 t (at s.records task) ≡ 1 = ap (λ (v : Bool). one (cond v (eqb (at s.records task).ticket t) false)) x.held ∙ ap one (eq-eqb _ _ x.named) in
      ⊎_elim (λ z. z) (λ z. absurd (omega (arith, n, m, ap one z))) (cases_Bool (holds s task t))

  counts_are : (task a t : ℕ) (later : Trace) → Since task a t later h → (c : Counts) → Counted h s task t c → ticks later task t ≡ c.waited + c.written + c.run + one c.overran
  counts_are task a t later si c (Counted.held e) = ((timing_reached r).live task a t later (holding s (base_reached r) task t e) si).sum
  counts_are task a t later si c (Counted.told q td) = ((timing_reached r).past task a t later q si td).sum

  waits_are : (task a t : ℕ) (later : Trace) → Since task a t later h → (c : Counts) → Counted h s task t c → c.waited ≤ delay s.layout rate s.interrupts a
  waits_are task a t later si c (Counted.held e) = (cap_held task a t later (holding s (base_reached r) task t e) si).waited
  waits_are task a t later si c (Counted.told q td) = (cap_told task a t later q si td).waited

  timed : (task a t : ℕ) (later : Trace) → Since task a t later h → Timed h s task a t later
  timed task a t later si =
      let tm = timing_reached r in
      record {
        over = ⊎_elim
            (λ x. let c = cap_held task a t later x si in omega (arith, (tm.live task a t later x si).sum, c.waited, c.written, c.run, one_most (overrun_stage (at s.records task).stage)))
            (λ x. let c = cap_told task a t later x.0 si x.1 in omega (arith, (tm.past task a t later x.0 si x.1).sum, c.waited, c.written, c.run, one_most (overrun x.0.outcome)))
            (tm.fate task a t later si);
        under = λ u.
            let x = unended_holder s (base_reached r) task t u in
            let c = cap_held task a t later x.0 si in
            omega (arith, (tm.live task a t later x.0 si).sum, c.waited, c.written, c.run, ap one (plain_alive _ x.1));
        counted = ⊎_elim (λ x. (recorded (at s.records task), Counted.held (holder_holds task t x))) (λ x. (reported x.0, Counted.told x.0 x.1)) (tm.fate task a t later si);
        counts = counts_are task a t later si;
        waits = waits_are task a t later si;
      }

  pub sound : Sound h s
  sound = record {
    timed = timed;
    kept = kept s (base_reached r);
    shared = shared s (invariant_reached r).placed;
    images = images s rate (invariant_reached r);
  }

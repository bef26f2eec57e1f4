-- Only a request that has used all its run ticks ends as overrun.
use Rattle.std.proofs.Common.{◌≡◌, ℕ, ◌<◌, Bool, cond, eqb, map, length, set, replicate, Some, None, Option, sym, refl, ap, ◌∙◌, subst, Result, arith}
use Rattle.std.proofs.lemmas.List.{get_or-map, get_or-replicate, length-map, length-set}
use Rattle.std.proofs.lemmas.Bool.{and_parts, both_ways, eqb-true}
use Rattle.plan.specs.Rules.{Layout}
use Rattle.ports.specs.Calls.{feed_answer, feed_after}
use Rattle.model.specs.declared.requests.Outcome.TheVariants.{Finished, Overrun}
use Rattle.model.specs.declared.requests.Stage.{Stage}
use Rattle.model.specs.declared.requests.Stage.TheVariants.{Reserved, Ended}
use Rattle.model.specs.declared.requests.Record.{Record}
use Rattle.model.specs.declared.calls.Call.{Call}
use Rattle.model.specs.declared.refusals.Refusal.{Refusal}
use Rattle.model.specs.declared.calls.Answer.{Answer}
use Rattle.model.specs.Records.{blank, at, up, running_stage, slot_of, staged, aged, fed_record, new}
use Rattle.model.specs.States.{State, moved, part, run_limit}
use Rattle.model.specs.Moves.{settle, expire, finish, left_in, stage_fed, advance, ready, choose}
use Rattle.model.specs.Calls.{enter, tick_after}
use Rattle.model.specs.Runs.{Trace, Reached}
use Rattle.model.specs.Promises.{overrun, overrun_stage}
use Rattle.model.specs.Laws.{RanOut}
use Rattle.model.proofs.Tables.{at_set}
use Rattle.model.proofs.Ways.{rows_on, framed, keeps_settle, keeps_expire, way_expire}
use Rattle.model.proofs.Sames.{Choice, chosen, freed_records, freed_framed, framed_midway, midway, way_ready}
use Rattle.model.proofs.Happens.{Happened}
use Rattle.model.proofs.Bases.{ends_run, happens}
use Rattle.model.proofs.Placed.{Placed, few_placed}
use Rattle.model.proofs.Ticks.{fed_plain}
use Rattle.model.proofs.Reaches.{invariant_reached}

abbrev RanOutAt : Layout → Record → Type 0
RanOutAt l r = (slot : ℕ) → r.stage ≡ Ended slot Overrun → r.run ≡ run_limit l r

-- a stage that is no overrun
no_overrun : {A : Type 0} (σ : Stage) (slot : ℕ) → overrun_stage σ ≡ overrun Finished → σ ≡ Ended slot Overrun → A
no_overrun σ slot n e = absurd (both_ways _ n (ap overrun_stage e))

-- one record changes to one that is no overrun, or has run out
ran_set : (s : State) (i : ℕ) (q : Record) → i < length s.records → RanOutAt s.layout q → RanOut s → (j slot : ℕ) → j < 16 → (at (set s.records i q) j).stage ≡ Ended slot Overrun → (at (set s.records i q) j).run ≡ run_limit s.layout (at (set s.records i q) j)
ran_set s i q b mine h j slot c = at_set (λ r. r.stage ≡ Ended slot Overrun → r.run ≡ run_limit s.layout r) s.records i q j b (λ _. mine slot) (λ _. h j slot c)

ran_settle : (s : State) → length s.lines ≡ length s.layout.partitions → RanOut s → RanOut (settle s)
ran_settle =
    keeps_settle RanOut (λ s k i slot rest g h.
    ran_set s i (staged (at s.records i) (Reserved slot)) g.lowest.within (λ x e. no_overrun (Reserved slot) x refl e) h)

ran_expire : (s : State) → RanOut s → RanOut (expire s)
ran_expire =
    keeps_expire RanOut (λ s i f h.
    let r = at s.records i in
    ran_set s i (staged r (Ended (slot_of r.stage) Overrun)) f.within (λ x e. eqb-true _ _ (and_parts (running_stage r.stage) (eqb r.run (run_limit s.layout r)) f.has).1) h)

-- an ended request does not run
ran_aged : (l : Layout) (r : Record) → RanOutAt l r → RanOutAt l (aged r)
ran_aged l r h slot e = ap (λ σ. cond (running_stage σ) (up r.run) r.run) e ∙ h slot e

ran_map : (s : State) → length s.records ≡ 16 → RanOut s → (j : ℕ) → j < 16 → RanOutAt s.layout (at (map aged s.records) j)
ran_map s size h j c = subst (RanOutAt s.layout) (sym (get_or-map aged s.records j blank blank (omega arith))) (ran_aged s.layout (at s.records j) (λ slot. h j slot c))

ran_advance : (s : State) → length s.records ≡ 16 → (o : Option ℕ) → Choice s o → RanOut s → RanOut (advance s o)
ran_advance s size None ch h = λ j slot c. ran_map s size h j c slot
ran_advance s size (Some i) ch h = λ j x c.
    let rs = s.records in
    let r = at rs i in
    let t = slot_of r.stage in
    let σ = stage_fed s i in
    let m : State = moved s (set (map aged rs) i (fed_record r σ)) s.lines (feed_after s.interrupts s.port t) in
    let plain : overrun_stage σ ≡ overrun Finished = fed_plain t (feed_answer s.interrupts s.port t) (left_in (feed_after s.interrupts s.port t) t) in
    let here : RanOutAt s.layout (at (set (map aged rs) i (fed_record r σ)) j) =
    at_set (RanOutAt s.layout) (map aged rs) i (fed_record r σ) j (omega (arith, length-map rs aged, ch.there)) (λ _ slot e. no_overrun σ slot plain e) (λ _. ran_map s size h j c) in
    subst (λ (l : Layout). RanOutAt l (at (advance s (Some i)).records j)) (sym (freed_framed σ (part s.layout r) m).layout)
    (subst (λ qs. RanOutAt s.layout (at qs j)) (sym (freed_records σ (part s.layout r) m)) here) x

module _ (s : State) (b : Placed s) where
  ran_tick : RanOut s → RanOut (tick_after s)
  ran_tick h =
      let x = expire s in
      let fx = framed (way_expire s) in
      let r = ready s in
      let fm = framed_midway s b.rows in
      ran_settle (midway s b.rows) (rows_on s (midway s b.rows) b.rows fm)
      (ran_advance r ((framed (way_ready s b.rows)).places ∙ b.tickets.size) (choose r) (chosen r) (ran_settle x (rows_on s x b.rows fx) (ran_expire s h)))

  ran_step : (c : Call) (a : Result Answer Refusal) (s' : State) → Happened s c a s' → RanOut s → RanOut s'
  ran_step c a s' (Happened.refused _ r q) h = h
  ran_step c a s' (Happened.entered task i x) h =
      let lr : task < length s.records = omega (arith, b.tickets.size, few_placed s task b x.task_in) in
      ran_settle (enter s task i) b.rows (ran_set s task (new i s.next) lr (λ slot e. no_overrun _ slot refl e) h)
  ran_step c a s' Happened.ticked h = ran_tick h
  ran_step c a s' (Happened.completed slot i f) h =
      let e = ends_run s slot i f in
      let q = staged (at s.records i) (Ended (slot_of (at s.records i).stage) Finished) in
      ran_settle (finish s i Finished) (length-set _ _ _ ∙ b.rows) (ran_set s i q e.there (λ x z. no_overrun _ x refl z) h)
  ran_step c a s' (Happened.collected task t x) h =
      let lr : task < length s.records = omega (arith, b.tickets.size, few_placed s task b x.task_in) in
      ran_set s task blank lr (λ slot e. no_overrun _ slot refl e) h
  ran_step c a s' (Happened.asked task) h = h

pub ran_reached : {l : Layout} {kd : Bool} {first : ℕ} {h : Trace} {s : State} → Reached l kd first h s → RanOut s
ran_reached {l} (Reached.started st) =
    subst RanOut (sym st.is) (λ i slot c e. no_overrun (at (replicate 16 blank) i).stage slot (ap (λ r. overrun_stage r.stage) (get_or-replicate 16 i blank blank c)) e)
ran_reached (Reached.called {s} {s'} c a r says leaves) = ran_step s (invariant_reached r).placed c a s' (happens s c a s' says leaves) (ran_reached r)

-- A tick writes for whom the rules of the port say, and an image goes on where it stopped.
use Rattle.std.proofs.Common.{◌≡◌, ℕ, ◌+◌, ◌*◌, ◌<◌, ◌≤◌, Bool, true, false, cond, ◌&&◌, eqb, List, map, length, Some, None, Option, sym, refl, ap, ◌∙◌, subst, ⊎_elim, mul-one, mul-add, Result, arith}
use Rattle.std.proofs.lemmas.List.{get_or-map, length-map, length-set}
use Rattle.std.proofs.lemmas.Bool.{cases_eq, cases_lt, cases_Bool, eq-eqb, ne_eqb, and_parts, both_ways, cond-true, cond-false}
use Rattle.plan.specs.Rules.{Layout}
use Rattle.delays.specs.Delays.{partition_at, accelerator_at, rounded_up}
use Rattle.ports.specs.Meaning.{entry_at, half}
use Rattle.model.specs.declared.requests.Outcome.TheVariants.{Finished}
use Rattle.model.specs.declared.requests.Stage.TheVariants.{Reserved, Running, Ended}
use Rattle.model.specs.declared.requests.Record.{Record}
use Rattle.model.specs.declared.calls.Call.{Call}
use Rattle.model.specs.declared.refusals.Refusal.{Refusal}
use Rattle.model.specs.declared.calls.Answer.{Answer}
use Rattle.model.specs.Records.{blank, at, one, held_stage, reserved_stage, running_stage, unended_stage, slot_of, staged, aged, fed_record, new}
use Rattle.model.specs.States.{State, part}
use Rattle.model.specs.Moves.{is_reserved, begun, finish, settle, stage_fed, advance, ready, choose}
use Rattle.model.specs.Calls.{enter, ticket_at, tick_answer}
use Rattle.model.specs.Feeds.{WrittenTicket, TickTells, names_ticket, tells_written, GoesOn}
use Rattle.model.proofs.Stages.{reserved_held, reserved_is, reserved_unended}
use Rattle.model.proofs.Tables.{at_set}
use Rattle.model.proofs.Ways.{Way, keeps, way_settle}
use Rattle.model.proofs.Sames.{Choice, chosen, freed_records, same_way, same_tick, way_ready, way_after}
use Rattle.model.proofs.Happens.{Happened}
use Rattle.model.proofs.Bases.{ends_run}
use Rattle.model.proofs.Placed.{few_placed}
use Rattle.model.proofs.Counts.{up_is}
use Rattle.model.proofs.Stores.{Partly, Wholly, EntryFor}
use Rattle.model.proofs.Begins.{begun_half}
use Rattle.model.proofs.Views.{round_below, seen_reserved, seen_running}
use Rattle.model.proofs.Writes.{Pick, pick, alone_begun}
use Rattle.model.proofs.Invariants.{Invariant, roomy}
use Rattle.model.proofs.Reaches.{invariant_ready}

-- ---- the choice

pub begun_is : (rate : ℕ) (s : State) → Invariant rate s → (i : ℕ) → i < 16 → begun (at s.records i) ≡ (is_reserved (at s.records i) && half (entry_at s.port (slot_of (at s.records i).stage)))
begun_is rate s md i c = begun_half s.layout rate s.port (at s.records i) md.some (md.stored.each i c)

written_ticket : (rate : ℕ) (s : State) → Invariant rate s → (o : Option ℕ) → Choice s o → Pick s o → WrittenTicket s (ticket_at s o)
written_ticket rate s md None ch pk = λ i c. pk i (omega (arith, md.placed.tickets.size))
written_ticket rate s md (Some i) ch pk =
    let few : i < 16 = omega (arith, ch.there, md.placed.tickets.size) in
    let slot = slot_of (at s.records i).stage in
    let its : (at s.records i).stage ≡ Reserved slot = reserved_is _ ch.reserved in (
      i,
      refl,
      record {
        there = few;
        reserved = ch.reserved;
        lowest = λ free j c r. ⊎_elim
            (λ p. ⊎_elim
            (λ stops. absurd (both_ways _ p.0 stops))
            (λ none. absurd (both_ways _ (none slot) (and_parts _ _ (sym (begun_is rate s md i few) ∙ p.1)).1))
            free)
            (λ p. p.0.least j (omega (arith, md.placed.tickets.size)) r)
            pk;
        goes_on = λ on x h. ⊎_elim
            (λ e. its ∙ ap Reserved (sym e))
            (λ ne. absurd (both_ways _ (alone_begun rate md.some s md.placed md.stored md.inv i ch pk (roomy s rate md i few (reserved_held _ ch.reserved)) on x ne) h))
            (cases_eq x slot);
      },
    )

pub tick_tells : (rate : ℕ) (s : State) → Invariant rate s → TickTells (ready s) (tick_answer s)
tick_tells rate s md = let r = ready s in written_ticket rate r (invariant_ready rate s md) (choose r) (chosen r) (pick r)

-- ---- the written ticks

written_way : {s s' : State} → Way s s' → (j : ℕ) → (at s'.records j).written ≡ (at s.records j).written
written_way {s} w =
    keeps (λ x. (j : ℕ) → (at x.records j).written ≡ (at s.records j).written)
    (λ x k i slot rest g h j. at_set (λ r. r.written ≡ (at s.records j).written) x.records i (staged (at x.records i) (Reserved slot)) j g.lowest.within (λ e. ap (λ (n : ℕ). (at x.records n).written) (sym e) ∙ h j) (λ _. h j))
    (λ x i o e h j. at_set (λ r. r.written ≡ (at s.records j).written) x.records i (staged (at x.records i) (Ended (slot_of (at x.records i).stage) o)) j e.there (λ z. ap (λ (n : ℕ). (at x.records n).written) (sym z) ∙ h j) (λ _. h j))
    w (λ j. refl)

written_advance : (rate : ℕ) (s : State) → Invariant rate s → (o : Option ℕ) → Choice s o → (j : ℕ) → j < 16 → held_stage (at s.records j).stage ≡ true → (at (advance s o).records j).written ≡ (at s.records j).written + one (names_ticket (ticket_at s o) (at s.records j).ticket)
written_advance rate s md None ch j c hd = ap (λ r. r.written) (get_or-map aged s.records j blank blank (omega (arith, md.placed.tickets.size))) ∙ (let z : (at s.records j).written ≡ (at s.records j).written + 0 = omega arith in z)
written_advance rate s md (Some i) ch j c hd =
    let rs = s.records in
    let r = at rs i in
    let σ = stage_fed s i in
    let few : i < 16 = omega (arith, ch.there, md.placed.tickets.size) in
    let held = reserved_held r.stage ch.reserved in
    let goal : ℕ → Type 0 = λ v. v ≡ (at rs j).written + one (eqb r.ticket (at rs j).ticket) in
    ap (λ (x : List Record). (at x j).written) (freed_records σ (part s.layout r) _)
    ∙ at_set (λ x. goal x.written) (map aged rs) i (fed_record r σ) j (omega (arith, length-map rs aged, ch.there))
    (λ e. let same : (at rs j).written ≡ r.written = ap (λ (n : ℕ). (at rs n).written) e in
    omega (arith, same, up_is r.written (roomy s rate md i few held).written, ap one (eq-eqb r.ticket (at rs j).ticket (ap (λ (n : ℕ). (at rs n).ticket) (sym e)))))
    (λ ne. let old : (at (map aged rs) j).written ≡ (at rs j).written = ap (λ x. x.written) (get_or-map aged rs j blank blank (omega (arith, md.placed.tickets.size))) in
    omega (arith, old, ap one (ne_eqb r.ticket (at rs j).ticket (λ z. ne (sym (md.placed.tickets.apart i j few c held hd z))))))

-- what a call makes of a reserved request: its accelerator stays, and it has one written tick more if the call tells that it was written
pub record Went (s : State) (a : Result Answer Refusal) (s' : State) (i : ℕ) : Type 0 where
  pub accelerator : (at s'.records i).accelerator ≡ (at s.records i).accelerator
  pub written : (at s'.records i).written ≡ (at s.records i).written + one (tells_written a (at s.records i).ticket)

-- settling, after a change that left the record at i as it was
went_settle : (s s₁ : State) (a : Result Answer Refusal) (i : ℕ) → length s₁.lines ≡ length s₁.layout.partitions → i < length s₁.records → (at s₁.records i).accelerator ≡ (at s.records i).accelerator → (at s₁.records i).written ≡ (at s.records i).written → tells_written a (at s.records i).ticket ≡ false → Went s a (settle s₁) i
went_settle s s₁ a i rows b acc wr none =
    let w = way_settle s₁ rows in
    record { accelerator = ((same_way w).each i b).accelerator ∙ acc; written = (let z : (at (settle s₁).records i).written ≡ (at s.records i).written + one (tells_written a (at s.records i).ticket) = omega (arith, written_way w i, wr, ap one none) in z) }

pub went_step : (rate : ℕ) (s : State) (c : Call) (a : Result Answer Refusal) (s' : State) → Invariant rate s → Happened s c a s' → (i : ℕ) → i < 16 → reserved_stage (at s.records i).stage ≡ true → Went s a s' i
went_step rate s c a s' md (Happened.refused _ r q) i d e = record { accelerator = refl; written = omega arith }
went_step rate s c a s' md (Happened.entered task x ac) i d e =
    let b = md.placed in
    let lr : task < length s.records = omega (arith, b.tickets.size, few_placed s task b ac.task_in) in
    let r = new x s.next in
    let ne : i ≡ task → ⊥ = λ z. both_ways _ ac.free (ap (λ (n : ℕ). held_stage (at s.records n).stage) (sym z) ∙ reserved_held _ e) in
    went_settle s (enter s task x) _ i b.rows (omega (arith, b.tickets.size, length-set s.records task r))
    (at_set (λ q. q.accelerator ≡ (at s.records i).accelerator) s.records task r i lr (λ z. absurd (ne z)) (λ _. refl))
    (at_set (λ q. q.written ≡ (at s.records i).written) s.records task r i lr (λ z. absurd (ne z)) (λ _. refl)) refl
went_step rate s c a s' md Happened.ticked i d e =
    let b = md.placed in
    let r = ready s in
    let w = way_ready s b.rows in
    let mr = invariant_ready rate s md in
    let lr : i < length s.records = omega (arith, b.tickets.size) in
    let lk = (same_way w).each i lr in
    let adv = written_advance rate r mr (choose r) (chosen r) i d (lk.held ∙ reserved_held _ e) in
    let name : one (names_ticket (ticket_at r (choose r)) (at r.records i).ticket) ≡ one (names_ticket (ticket_at r (choose r)) (at s.records i).ticket) = ap (λ (t : ℕ). one (names_ticket (ticket_at r (choose r)) t)) lk.ticket in
    record {
      accelerator = ((same_tick s b.rows).each i lr).accelerator;
      written = omega (arith, written_way (way_after s b.rows) i, adv, written_way w i, name);
    }
went_step rate s c a s' md (Happened.completed slot x f) i d e =
    let b = md.placed in
    let en = ends_run s slot x f in
    let q = staged (at s.records x) (Ended (slot_of (at s.records x).stage) Finished) in
    went_settle s (finish s x Finished) _ i (length-set _ _ _ ∙ b.rows) (omega (arith, b.tickets.size, length-set s.records x q))
    (at_set (λ r. r.accelerator ≡ (at s.records i).accelerator) s.records x q i en.there (λ z. ap (λ (n : ℕ). (at s.records n).accelerator) (sym z)) (λ _. refl))
    (at_set (λ r. r.written ≡ (at s.records i).written) s.records x q i en.there (λ z. ap (λ (n : ℕ). (at s.records n).written) (sym z)) (λ _. refl)) refl
went_step rate s c a s' md (Happened.collected task t x) i d e =
    let b = md.placed in
    let lr : task < length s.records = omega (arith, b.tickets.size, few_placed s task b x.task_in) in
    let ne : i ≡ task → ⊥ = λ z. both_ways _ x.ended (ap (λ (n : ℕ). unended_stage (at s.records n).stage) (sym z) ∙ reserved_unended _ e) in
    record {
      accelerator = at_set (λ q. q.accelerator ≡ (at s.records i).accelerator) s.records task blank i lr (λ z. absurd (ne z)) (λ _. refl);
      written = at_set (λ q. q.written ≡ (at s.records i).written + 0) s.records task blank i lr (λ z. absurd (ne z)) (λ _. omega arith);
    }
went_step rate s c a s' md (Happened.asked task) i d e = record { accelerator = refl; written = omega arith }

-- ---- the image goes on

module _ (rate : ℕ) (s : State) (a : Result Answer Refusal) (s' : State) (md : Invariant rate s) (md' : Invariant rate s') (laid : s'.layout ≡ s.layout) (i slot : ℕ) (c : i < 16) (was : (at s.records i).stage ≡ Reserved slot) (w : Went s a s' i) where
  abbrev r : Record
  r = at s.records i

  abbrev r' : Record
  r' = at s'.records i

  abbrev told : Bool
  told = tells_written a r.ticket

  old : Partly s.layout rate r.accelerator r.written (entry_at s.port slot)
  old = subst (EntryFor s.layout rate s.port r.accelerator r.written) was (md.stored.each i c)

  abbrev size : ℕ
  size = (partition_at s.layout (accelerator_at s.layout r.accelerator).partition).size

  same_size : (partition_at s'.layout (accelerator_at s'.layout r'.accelerator).partition).size ≡ size
  same_size = ap (λ (l : Layout). (partition_at l (accelerator_at l r'.accelerator).partition).size) laid ∙ ap (λ (x : ℕ). (partition_at s.layout (accelerator_at s.layout x).partition).size) w.accelerator

  -- the blocks after one more feed
  fed_once : rate * (r.written + 1) ≡ rate * r.written + rate
  fed_once = mul-add rate r.written 1 ∙ ap (λ (x : ℕ). rate * r.written + x) (mul-one rate)

  partly_on : r'.stage ≡ Reserved slot → (entry_at s'.port slot).written ≡ (entry_at s.port slot).written + cond told s.port.rate 0
  partly_on now =
      let new-entry : Partly s'.layout rate r'.accelerator r'.written (entry_at s'.port slot) = subst (EntryFor s'.layout rate s'.port r'.accelerator r'.written) now (md'.stored.each i c) in
      ⊎_elim
      (λ e. let v : r'.written ≡ r.written + 1 = omega (arith, w.written, ap one e) in
      omega (arith, new-entry.written, old.written, ap (λ (x : ℕ). rate * x) v, fed_once, cond-true told s.port.rate 0 e, md.stored.rate_is))
      (λ e. let v : r'.written ≡ r.written = omega (arith, w.written, ap one e) in
      omega (arith, new-entry.written, old.written, ap (λ (x : ℕ). rate * x) v, cond-false told s.port.rate 0 e))
      (cases_Bool told)

  wholly_on : r'.stage ≡ Running slot → (told ≡ true) × ((entry_at s'.port slot).written ≡ (entry_at s.port slot).size) × ((entry_at s.port slot).size ≤ (entry_at s.port slot).written + s.port.rate)
  wholly_on now =
      let new-entry : Wholly s'.layout r'.accelerator (entry_at s'.port slot) = subst (EntryFor s'.layout rate s'.port r'.accelerator r'.written) now (md'.stored.each i c) in
      let under : r.written < rounded_up size rate = ((md.inv.counts i c).reserved (seen_reserved _ ∙ ap reserved_stage was)).0 in
      let full : r'.written ≡ rounded_up size rate = ((md'.inv.counts i c).running (seen_running _ ∙ ap running_stage now)).0 ∙ ap (λ (x : ℕ). rounded_up x rate) same_size in
      let yes' : told ≡ true = ⊎_elim (λ e. e) (λ e. absurd (omega (arith, w.written, ap one e))) (cases_Bool told) in
      let enough : size ≤ rate * (r.written + 1) = ⊎_elim (λ z. absurd (omega (arith, round_below size rate md.some (r.written + 1) z, w.written, ap one yes'))) (λ z. z) (cases_lt (rate * (r.written + 1)) size) in
      (yes', new-entry.written ∙ new-entry.size ∙ same_size ∙ sym old.size, omega (arith, enough, fed_once, old.written, old.size, md.stored.rate_is))

  pub goes_on : GoesOn s a s' i slot
  goes_on = record { partly = partly_on; wholly = wholly_on }

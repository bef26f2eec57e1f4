-- Every state of a run keeps what the moves keep; the promises on images and on waits.
use Rattle.std.proofs.Common.{◌≡◌, ℕ, zero, suc, ◌+◌, ◌<◌, ◌≤◌, Bool, true, false, [], length, get_or, replicate, Some, None, Option, sym, refl, ap, ◌∙◌, subst, ⊎_elim, Result, arith}
use Rattle.std.proofs.lemmas.List.FromFn.{length-range_with_len}
use Rattle.std.proofs.lemmas.List.{get_or_past, get_or-replicate, length-set}
use Rattle.std.proofs.lemmas.Bool.{cases_eq, cases_lt, both_ways}
use Rattle.plan.specs.Rules.{Layout, none}
use Rattle.delays.specs.Delays.{partition_at}
use Rattle.ports.specs.Meaning as ports
use Rattle.ports.specs.Meaning.{Meaning, nothing, entry_at, half}
use Rattle.ports.specs.Calls.{with_entry, blanked}
use Rattle.ports.specs.CallLaws.{shut_is, entry_same, entry_other}
use Rattle.model.specs.declared.requests.Outcome.TheVariants.{Finished}
use Rattle.model.specs.declared.calls.Call.{Call}
use Rattle.model.specs.declared.refusals.Refusal.{Refusal}
use Rattle.model.specs.declared.calls.Answer.{Answer}
use Rattle.model.specs.Records.{blank, at}
use Rattle.model.specs.States.{State, lines_from, shut_below, start}
use Rattle.model.specs.Moves.{queued_in, settle, finish, advance, ready, choose}
use Rattle.model.specs.Calls.{enter, tick_after}
use Rattle.model.specs.Runs.{Trace, Reached}
use Rattle.model.specs.Promises.{Images}
use Rattle.model.proofs.Tables.{at_set}
use Rattle.model.proofs.Ways.{rows_on, Way, keeps, framed, way_settle}
use Rattle.model.proofs.Sames.{Choice, chosen, midway, framed_midway, framed_tick, way_ready, way_after}
use Rattle.model.proofs.Happens.{Happened}
use Rattle.model.proofs.Bases.{Base, base_reached, happens, ends_run, few}
use Rattle.model.proofs.Slots.{lines_at}
use Rattle.model.proofs.Placed.{Placed, placed_start}
use Rattle.model.proofs.Stores.{EntryFor, Partly, Wholly}
use Rattle.model.proofs.Views.{seen, given, view}
use Rattle.model.proofs.Writes.{Pick, pick}
use Rattle.model.proofs.Settles.{NoneExpired, settled_settle, settled_ready, going_ready}
use Rattle.model.specs.Grants.{gave, accepted, Settled}
use Rattle.model.specs.Feeds.{Progress}
use Rattle.model.proofs.Stages.{no_true}
use Rattle.model.proofs.Invariants.{Invariant}
use Rattle.model.proofs.Moves.{invariant_grant, invariant_finish, invariant_enter, invariant_empty, invariant_idle, invariant_write}
use Rattle.waits.proofs.Laws as laws

-- ---- the start

shut_rate : (n : ℕ) (m : Meaning) → n ≤ 32 → (shut_below n m).rate ≡ m.rate
unfolding shut_below
shut_rate zero m c = refl
shut_rate (suc n) m c = ap (λ x. x.rate) (shut_is (shut_below n m) n (omega arith)) ∙ shut_rate n m (omega arith)

-- a start leaves the rate of its port
pub start_rate : (l : Layout) (kd : Bool) (first : ℕ) (m : Meaning) → (start l kd first m).port.rate ≡ m.rate
start_rate l kd first m = shut_rate 32 m (omega arith)

record Shut (n : ℕ) (m m' : Meaning) : Type 0 where
  entries : length m'.entries ≡ 32
  empty : (t : ℕ) → t < n → half (entry_at m' t) ≡ false

shut_all : (n : ℕ) (m : Meaning) → n ≤ 32 → length m.entries ≡ 32 → Shut n m (shut_below n m)
unfolding shut_below
shut_all zero m c e = record { entries = e; empty = λ t b. absurd (omega arith) }
shut_all (suc n) m c e =
    let h = shut_all n m (omega arith) e in
    let x = shut_below n m in
    let z = blanked (entry_at x n) in
    subst (Shut (suc n) m) (sym (shut_is x n (omega arith)))
    (record {
      entries = length-set x.entries n z ∙ h.entries;
      empty = λ t b. ⊎_elim
          (λ q. ap (λ (y : ℕ). half (entry_at (with_entry x n z) y)) q ∙ ap half (entry_same x n z (omega (arith, h.entries))))
          (λ ne. ap half (entry_other x n t z ne) ∙ h.empty t (omega arith))
          (cases_eq t n);
    })

invariant_start : (l : Layout) (kd : Bool) (first : ℕ) (m : Meaning) → ports.Sound m → Placed (start l kd first m) → Invariant m.rate (start l kd first m)
invariant_start l kd first m so b =
    let sh = shut_all 32 m (omega arith) so.slots in
    let z : (i : ℕ) → i < 16 → at (replicate 16 blank) i ≡ blank = λ i c. get_or-replicate 16 i blank blank c in
    record {
      some = so.rate_low;
      placed = b;
      stored = record {
        rate_is = start_rate l kd first m;
        entries = sh.entries;
        each = λ i c. subst (λ r. EntryFor l m.rate (shut_below 32 m) r.accelerator r.written r.stage) (sym (z i c)) tt;
        halves = λ t h. absurd (both_ways _ (⊎_elim (λ c. sh.empty t c) (λ c. ap half (get_or_past (shut_below 32 m).entries t nothing (omega (arith, sh.entries)))) (cases_lt t 32)) h);
      };
      inv = laws.start (given l m.rate kd) (view m.rate (start l kd first m)) (record {
        table = λ j c. ap (λ r. (seen l m.rate r).stage) (z j c);
        line = λ k. ⊎_elim
            (λ c. ap length (lines_at 0 l.partitions k c) ∙ length-range_with_len _ _)
            (λ c. let p : length (get_or (lines_from 0 l.partitions) k []) ≡ 0 = ap length (get_or_past (lines_from 0 l.partitions) k [] (omega (arith, b.rows))) in
            let q : (partition_at l k).slots ≡ 0 = ap (λ x. x.slots) (get_or_past l.partitions k none c) in p ∙ sym q)
            (cases_lt k (length l.partitions));
      });
    }

-- ---- the calls

invariant_way : (rate : ℕ) {s s' : State} → Way s s' → Invariant rate s → Invariant rate s'
invariant_way rate = keeps (Invariant rate) (λ s k i slot rest g md. invariant_grant rate s md k i slot rest g) (λ s i o e md. invariant_finish rate s md i o e)

invariant_advance : (rate : ℕ) (s : State) → Invariant rate s → Settled s → NoneExpired s → (o : Option ℕ) → Choice s o → Pick s o → Invariant rate (advance s o)
invariant_advance rate s md st go None c p = invariant_idle rate s md st go p
invariant_advance rate s md st go (Some i) c p = invariant_write rate s md st go i c p

pub invariant_ready : (rate : ℕ) (s : State) → Invariant rate s → Invariant rate (ready s)
invariant_ready rate s md = invariant_way rate (way_ready s md.placed.rows) md

invariant_tick : (rate : ℕ) (s : State) → Invariant rate s → Invariant rate (tick_after s)
invariant_tick rate s md =
    let e = md.placed.rows in
    let r = ready s in
    invariant_way rate (way_after s e) (invariant_advance rate r (invariant_ready rate s md) (settled_ready s e) (going_ready s e) (choose r) (chosen r) (pick r))

invariant_settle : (rate : ℕ) (s : State) → Invariant rate s → Invariant rate (settle s)
invariant_settle rate s md = invariant_way rate (way_settle s md.placed.rows) md

pub invariant_step : (rate : ℕ) (s : State) (c : Call) (a : Result Answer Refusal) (s' : State) → Invariant rate s → Happened s c a s' → Invariant rate s'
invariant_step rate s c a s' md (Happened.refused _ r q) = md
invariant_step rate s c a s' md (Happened.entered task i x) = invariant_settle rate (enter s task i) (invariant_enter rate s md task i x)
invariant_step rate s c a s' md Happened.ticked = invariant_tick rate s md
invariant_step rate s c a s' md (Happened.completed slot i f) = invariant_settle rate (finish s i Finished) (invariant_finish rate s md i Finished (ends_run s slot i f))
invariant_step rate s c a s' md (Happened.collected task t x) = invariant_empty rate s md task t x
invariant_step rate s c a s' md (Happened.asked task) = md

invariant_at : {s : State} (rate : ℕ) → Invariant rate s → Invariant s.port.rate s
invariant_at {s} rate md = subst (λ (x : ℕ). Invariant x s) (sym md.stored.rate_is) md

pub invariant_reached : {l : Layout} {kd : Bool} {first : ℕ} {h : Trace} {s : State} → Reached l kd first h s → Invariant s.port.rate s
invariant_reached {l} {kd} {first} {h} {s} (Reached.started st) =
    invariant_at st.port.rate (subst (Invariant st.port.rate) (sym st.is) (invariant_start l kd first st.port st.sound (placed_start l kd first st.port st.rules st.low)))
invariant_reached (Reached.called {s} {s'} c a r says leaves) =
    invariant_at s.port.rate (invariant_step s.port.rate s c a s' (invariant_reached r) (happens s c a s' says leaves))

-- ---- settled between calls

settled_step : {l : Layout} {kd : Bool} {h : Trace} (s : State) (c : Call) (a : Result Answer Refusal) (s' : State) → Base l kd h s → Settled s → Happened s c a s' → Settled s'
settled_step s c a s' b st (Happened.refused _ r q) = st
settled_step s c a s' b st (Happened.entered task i x) = settled_settle (enter s task i) b.rows
settled_step s c a s' b st Happened.ticked =
    let m = midway s b.rows in
    settled_settle m (rows_on s m b.rows (framed_midway s b.rows))
settled_step s c a s' b st (Happened.completed slot i f) = settled_settle (finish s i Finished) (length-set _ _ _ ∙ b.rows)
settled_step s c a s' b st (Happened.collected task t x) = λ k i p d q.
    let lr : task < length s.records = omega (arith, b.tickets.size, few s task b x.task_in) in
    st k i p (omega (arith, length-set s.records task blank)) (at_set (λ r. queued_in s.layout k r ≡ true → queued_in s.layout k (at s.records i) ≡ true) s.records task blank i lr (λ _ z. no_true z) (λ _ z. z) q)
settled_step s c a s' b st (Happened.asked task) = st

pub settled_reached : {l : Layout} {kd : Bool} {first : ℕ} {h : Trace} {s : State} → Reached l kd first h s → Settled s
settled_reached {l} {kd} {first} (Reached.started st) =
    subst Settled (sym st.is) (λ k i p d q. no_true (sym (ap (λ r. queued_in l k r) (get_or-replicate 16 i blank blank d)) ∙ q))
settled_reached (Reached.called {s} {s'} c a r says leaves) = settled_step s c a s' (base_reached r) (settled_reached r) (happens s c a s' says leaves)

-- ---- tickets rise

rising_step : {l : Layout} {kd : Bool} {h : Trace} (s : State) (c : Call) (a : Result Answer Refusal) (s' : State) → Base l kd h s → Happened s c a s' → s'.next ≡ gave a + s.next
rising_step s c a s' b (Happened.refused _ r q) = omega arith
rising_step s c a s' b (Happened.entered task i x) = omega (arith, (framed (way_settle (enter s task i) b.rows)).next)
rising_step s c a s' b Happened.ticked = omega (arith, (framed_tick s b.rows).next)
rising_step s c a s' b (Happened.completed slot i f) = omega (arith, (framed (way_settle (finish s i Finished) (length-set _ _ _ ∙ b.rows))).next)
rising_step s c a s' b (Happened.collected task t x) = omega arith
rising_step s c a s' b (Happened.asked task) = omega arith

pub rising : {l : Layout} {kd : Bool} {first : ℕ} {h : Trace} {s : State} → Reached l kd first h s → s.next ≡ first + accepted h
rising {first = first} (Reached.started st) = ap (λ (x : State). x.next) st.is ∙ (let z : first ≡ first + 0 = omega arith in z)
rising (Reached.called {s} {s'} c a r says leaves) = omega (arith, rising_step s c a s' (base_reached r) (happens s c a s' says leaves), rising r)

-- ---- the promises

pub images : (s : State) (rate : ℕ) → Invariant rate s → Images s
images s rate md i slot c e =
    let w : Wholly s.layout (at s.records i).accelerator (entry_at s.port slot) = subst (EntryFor s.layout rate s.port (at s.records i).accelerator (at s.records i).written) e (md.stored.each i c) in
    record { image = w.image; size = w.size; written = w.written }

pub progress : (s : State) → Invariant s.port.rate s → Progress s
progress s md i slot c e =
    let p : Partly s.layout s.port.rate (at s.records i).accelerator (at s.records i).written (entry_at s.port slot) = subst (EntryFor s.layout s.port.rate s.port (at s.records i).accelerator (at s.records i).written) e (md.stored.each i c) in
    record { image = p.image; size = p.size; written = p.written; short = p.short }

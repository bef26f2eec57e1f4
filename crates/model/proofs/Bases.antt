-- What every run keeps of plan, records and tickets, and the promise on tickets.
use Rattle.std.proofs.Common.{◌≡◌, ℕ, suc, ◌+◌, ◌<◌, Bool, true, false, cond, eqb, leb, List, [], ◌∷◌, length, sum_by, sym, refl, ap, ◌∙◌, subst, subst₂, ⊎_elim, Result, Ok, arith}
use Rattle.std.specs.List.{range_with_len}
use Rattle.std.proofs.lemmas.List.{get_or_past}
use Rattle.std.proofs.lemmas.Bool.{cases_lt, cases_Bool, eqb-true, lt-leb, and_parts, cond-false}
use Rattle.plan.specs.Rules.{Layout, Rules}
use Rattle.plan.specs.declared.parts.Partition.{Partition}
use Rattle.delays.specs.Delays.{accelerator_at}
use Rattle.delays.proofs.Bounds.{tasks_within}
use Rattle.model.specs.declared.requests.Outcome.{Outcome}
use Rattle.model.specs.declared.requests.Outcome.TheVariants.{Finished}
use Rattle.model.specs.declared.requests.Record.{Record}
use Rattle.model.specs.declared.calls.Call.{Call}
use Rattle.model.specs.declared.calls.Call.TheVariants.{Request, Collect}
use Rattle.model.specs.declared.refusals.Refusal.{Refusal}
use Rattle.model.specs.declared.calls.Answer.{Answer}
use Rattle.model.specs.declared.calls.Answer.TheVariants.{Ticket, Collected}
use Rattle.model.specs.Records.{blank, at, held_stage, one}
use Rattle.model.specs.Lowests.{Lowest}
use Rattle.model.specs.States.{State, lines_from}
use Rattle.model.specs.Moves.{settle, finish, runs_in}
use Rattle.model.specs.Calls.{enter, empty, report, tick_after, answer, after}
use Rattle.model.specs.Runs.{Event, Trace, Started, Reached}
use Rattle.model.specs.Promises.{holds, holders, gives, collects, Since, Kept}
use Rattle.model.proofs.Stages.{no_true}
use Rattle.model.proofs.Tables.{sum_counting}
use Rattle.model.proofs.Ways.{rows_on, Way, Ends, Framed, framed, way_settle}
use Rattle.model.proofs.Sames.{Same, same_way, same_tick, framed_tick}
use Rattle.model.proofs.Happens.{Happened, Accepts, Collects, happened}
use Rattle.model.proofs.Tickets.{Held, Tickets, Tally, holds1, holds_is, tickets_start, tickets_same, tickets_enter, tickets_empty, tally_start, tally_same, tally_quiet, tally_enter, tally_collect}

pub record Base (l : Layout) (interrupts : Bool) (h : Trace) (s : State) : Type 0 where
  pub rules : Rules l
  pub laid : s.layout ≡ l
  pub kind : s.interrupts ≡ interrupts
  pub rows : length s.lines ≡ length s.layout.partitions
  pub tickets : Tickets l s.records s.next
  pub tally : Tally h s.records s.next

pub lines_length : (b : ℕ) (ps : List Partition) → length (lines_from b ps) ≡ length ps
unfolding lines_from
lines_length b [] = refl
lines_length b (p ∷ ps) = ap suc (lines_length (b + p.slots) ps)

-- a held record is of a task of the plan
pub tasks_of : {l : Layout} {rs : List Record} {n : ℕ} (i : ℕ) → Rules l → Tickets l rs n → i < 16 → Held (at rs i) → i < l.tasks
tasks_of {l} i r t b h =
    let o = t.owned i b h in
    omega (arith, o.mine, (r.accelerators _ o.there).1)

cond_same : {A : Type 0} (b : Bool) (x : A) → cond b x x ≡ x
cond_same b x = grind arith

held_parts : (b c d : Bool) → cond b false (cond c d false) ≡ true → (c ≡ true) × (d ≡ true)
held_parts b c d e = grind arith

abbrev pub event : State → Call → Result Answer Refusal → Event
event s c a = record { before = s; call = c; answer = a }

module _ {l : Layout} {k : Bool} {h : Trace} where
  -- moves keep it
  base_same : (s s' : State) → Base l k h s → Framed s s' → Same s.records s'.records → Base l k h s'
  base_same s s' b f same =
      record {
        rules = b.rules;
        laid = f.layout ∙ b.laid;
        kind = f.interrupts ∙ b.kind;
        rows = rows_on s s' b.rows f;
        tickets = subst (Tickets l s'.records) (sym f.next) (tickets_same s'.records b.tickets same);
        tally = subst (Tally h s'.records) (sym f.next) (tally_same s'.records b.tickets.size b.tally same);
      }

  base_way : (s s' : State) → Base l k h s → Way s s' → Base l k h s'
  base_way s s' b w = base_same s s' b (framed w) (same_way w)

  -- an event that gives and collects nothing keeps it
  base_quiet : (e : Event) (s : State) → ((t : ℕ) → gives e.answer t ≡ 0) → ((t : ℕ) → collects e.call e.answer t ≡ 0) → Base l k h s → Base l k (e ∷ h) s
  base_quiet e s g c b =
      record { rules = b.rules; laid = b.laid; kind = b.kind; rows = b.rows; tickets = b.tickets; tally = tally_quiet e b.tally g c }

  pub few : (s : State) (task : ℕ) → Base l k h s → task < s.layout.tasks → task < 16
  few s task b c = omega (arith, tasks_within l b.rules, c, ap (λ (x : Layout). x.tasks) b.laid)

  -- what a request leaves before it is settled
  pub base_enter : (s : State) (task a : ℕ) → Base l k h s → Accepts s task a → Base l k (event s (Request task a) (Ok (Ticket s.next)) ∷ h) (enter s task a)
  base_enter s task a b c =
      record {
        rules = b.rules;
        laid = b.laid;
        kind = b.kind;
        rows = b.rows;
        tickets = tickets_enter task a b.tickets (few s task b c.task_in) c.room
            (subst (λ (x : Layout). a < length x.accelerators) b.laid c.accelerator_in)
            (subst (λ (x : Layout). (accelerator_at x a).owner ≡ task) b.laid c.owned);
        tally = tally_enter s task a b.tickets b.tally (few s task b c.task_in) c.free;
      }

  base_empty : (s : State) (task t : ℕ) → Base l k h s → Collects s task t → Base l k (event s (Collect task t) (Ok (Collected (report (at s.records task)))) ∷ h) (empty s task)
  base_empty s task t b c =
      record {
        rules = b.rules;
        laid = b.laid;
        kind = b.kind;
        rows = b.rows;
        tickets = tickets_empty task b.tickets (few s task b c.task_in);
        tally = tally_collect s task t (report (at s.records task)) b.tickets b.tally (few s task b c.task_in) c.holds c.named refl;
      }

  base_tick : (s : State) → Base l k h s → Base l k h (tick_after s)
  base_tick s b = base_same s (tick_after s) b (framed_tick s b.rows) (same_tick s b.rows)

base_settle : {l : Layout} {k : Bool} {h : Trace} (s : State) → Base l k h s → Base l k h (settle s)
base_settle s b = base_way s (settle s) b (way_settle s b.rows)

pub ends_run : (s : State) (slot i : ℕ) → Lowest (runs_in slot) s.records i → Ends s i
ends_run s slot i f = record { there = f.within; runs = (and_parts _ _ f.has).0 }

pub base_finish : {l : Layout} {k : Bool} {h : Trace} (s : State) (i : ℕ) (o : Outcome) → Ends s i → Base l k h s → Base l k h (finish s i o)
base_finish s i o e b = base_way s (finish s i o) b (Way.ends i o e Way.none)

base_step : {l : Layout} {k : Bool} {h : Trace} (s : State) (c : Call) (a : Result Answer Refusal) (s' : State) → Base l k h s → Happened s c a s' → Base l k (event s c a ∷ h) s'
base_step s c a s' b (Happened.refused _ r q) = base_quiet _ s (λ t. refl) (λ t. refl) b
base_step s c a s' b (Happened.entered task i x) = base_settle (enter s task i) (base_enter s task i b x)
base_step s c a s' b Happened.ticked = base_quiet _ (tick_after s) (λ t. refl) (λ t. refl) (base_tick s b)
base_step s c a s' b (Happened.completed slot i f) =
    base_quiet _ (settle (finish s i Finished)) (λ t. refl) (λ t. refl)
    (base_settle (finish s i Finished) (base_finish s i Finished (ends_run s slot i f) b))
base_step s c a s' b (Happened.collected task t x) = base_empty s task t b x
base_step s c a s' b (Happened.asked task) = base_quiet _ s (λ t. refl) (λ t. refl) b

base_start : {l : Layout} {k : Bool} {first : ℕ} {s : State} → Started l k first s → Base l k [] s
base_start {l} {k} {first} st =
    subst (Base l k []) (sym st.is)
    (record { rules = st.rules; laid = refl; kind = refl; rows = lines_length 0 l.partitions; tickets = tickets_start l first st.low; tally = tally_start first })

pub happens : (s : State) (c : Call) (a : Result Answer Refusal) (s' : State) → a ≡ answer s c → s' ≡ after s c → Happened s c a s'
happens s c a s' says leaves = subst₂ (λ (x : Result Answer Refusal) (y : State). Happened s c x y) (sym says) (sym leaves) (happened s c)

pub base_reached : {l : Layout} {k : Bool} {first : ℕ} {h : Trace} {s : State} → Reached l k first h s → Base l k h s
base_reached (Reached.started st) = base_start st
base_reached (Reached.called {s} {s'} c a r says leaves) = base_step s c a s' (base_reached r) (happens s c a s' says leaves)

-- ---- the promise

-- the task's record holds the ticket
pub record Holder (s : State) (task t : ℕ) : Type 0 where
  pub few : task < 16
  pub held : Held (at s.records task)
  pub named : (at s.records task).ticket ≡ t

module _ {l : Layout} {k : Bool} {h : Trace} (s : State) (b : Base l k h s) where
  -- what a task holds, by its record
  pub holds_record : (i t : ℕ) → i < 16 → one (holds s i t) ≡ holds1 t (at s.records i)
  holds_record i t c =
      ap one (holds_is s i t)
      ∙ ⊎_elim
      (λ hd. ap one (cond-false (leb s.layout.tasks i) _ _ (lt-leb _ _ (omega (arith, tasks_of i b.rules b.tickets c hd, ap (λ (x : Layout). x.tasks) b.laid)))))
      (λ hd. ap (λ (z : Bool). one (cond (leb s.layout.tasks i) false (cond z (eqb (at s.records i).ticket t) false))) hd
      ∙ ap one (cond_same (leb s.layout.tasks i) false)
      ∙ sym (ap (λ (z : Bool). one (cond z (eqb (at s.records i).ticket t) false)) hd))
      (cases_Bool (held_stage (at s.records i).stage))

  holders_sum : (t : ℕ) → holders s t ≡ sum_by (holds1 t) s.records
  holders_sum t =
      ap (λ (n : ℕ). sum_by (λ i. one (holds s i t)) (range_with_len 0 n)) (sym b.tickets.size)
      ∙ sum_counting (λ i. one (holds s i t)) (holds1 t) blank s.records 0
      (λ j c. ap (λ (x : ℕ). one (holds s x t)) (let z : 0 + j ≡ j = omega arith in z) ∙ holds_record j t (omega (arith, b.tickets.size)))

  -- past the 16 records nothing is held
  pub in_few : (i : ℕ) → Held (at s.records i) → i < 16
  in_few i hd = ⊎_elim (λ z. z) (λ z. no_true (sym (ap (λ r. held_stage r.stage) (get_or_past s.records i blank (omega (arith, b.tickets.size)))) ∙ hd)) (cases_lt i 16)

  pub holding : (i t : ℕ) → holds s i t ≡ true → Holder s i t
  holding i t e =
      let p = held_parts _ _ _ (sym (holds_is s i t) ∙ e) in
      record { few = in_few i p.0; held = p.0; named = eqb-true _ _ p.1 }

  pub kept : Kept h s
  kept = record {
    all = λ t. omega (arith, b.tally.kept t, holders_sum t);
    given_once = b.tally.once;
    collected_once = λ t. omega (arith, b.tally.once t, b.tally.kept t);
    own = λ i t e.
        let hd = holding i t e in
        let o = b.tally.own i hd.few hd.held in
        ((at s.records i).accelerator, o.0, subst (λ (u : ℕ). Since i (at s.records i).accelerator u o.0 h) hd.named o.1);
    told_own = b.tally.told;
  }

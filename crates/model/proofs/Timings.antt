-- The ticks of a request, counted from the run, are those that its record counts, and what was told when it was collected.
use Rattle.std.proofs.Common.{◌≡◌, ℕ, ◌+◌, ◌<◌, Bool, true, false, cond, ◌&&◌, eqb, leb, ◌⊎◌, ◌∷◌, length, set, sym, refl, ap, ◌∙◌, subst, subst₂, inl, inr, ⊎_elim, Result, Ok, arith}
use Rattle.std.proofs.lemmas.Bool.{cases_eq, cases_lt, cases_Bool, both_ways, eq-eqb, eqb-true, lt-leb, cond-true, cond-false}
use Rattle.plan.specs.Rules.{Layout}
use Rattle.model.specs.declared.requests.Record.{Record}
use Rattle.model.specs.declared.requests.Report.{Report}
use Rattle.model.specs.declared.calls.Call.{Call}
use Rattle.model.specs.declared.calls.Call.TheVariants.{Request, Collect}
use Rattle.model.specs.declared.refusals.Refusal.{Refusal}
use Rattle.model.specs.declared.calls.Answer.{Answer}
use Rattle.model.specs.declared.calls.Answer.TheVariants.{Ticket, Collected}
use Rattle.model.specs.Records.{blank, at, one, held_stage, unended_stage, new}
use Rattle.model.specs.States.{State}
use Rattle.model.specs.Calls.{enter, empty, report}
use Rattle.model.specs.Runs.{Event, Trace}
use Rattle.model.specs.Promises.{unended, given, Since, Told, ticking, ticks, overrun}
use Rattle.model.proofs.Stages.{no_true}
use Rattle.model.proofs.Tables.{at_set}
use Rattle.model.proofs.Sames.{Same}
use Rattle.model.proofs.Happens.{Accepts, Collects}
use Rattle.model.proofs.Tickets.{Held, unended_is}
use Rattle.model.proofs.Bases.{Base, event, tasks_of, few, Holder, in_few}
use Rattle.model.proofs.Ticks.{tot, same_outcome}
use Rattle.model.proofs.Traces.{since_inv, told_inv, request_inj, collect_inj, ticket_inj, report_inj, ticket_report, plain, plain_ticket, plain_report}
use Rattle.model.proofs.Invariants.{Capped}

since_given : {task a t : ℕ} {later h : Trace} → Since task a t later h → 0 < given h t
since_given {task} {a} {t} (Since.here {h} s) = omega (arith, ap one (eq-eqb t t refl))
since_given (Since.there e x) = omega (arith, since_given x)

-- ---- unended, by the record

unended_parts : (x y z w : Bool) → cond x false (cond y (cond z w false) false) ≡ true → (y ≡ true) × (z ≡ true) × (w ≡ true)
unended_parts x y z w e = grind arith

module _ {l : Layout} {kd : Bool} {h : Trace} (s : State) (b : Base l kd h s) where
  pub unended_holder : (i t : ℕ) → unended s i t ≡ true → Holder s i t × (unended_stage (at s.records i).stage ≡ true)
  unended_holder i t u =
      let p = unended_parts _ _ _ _ (sym (unended_is s i t) ∙ u) in
      (record { few = in_few s b i p.0; held = p.0; named = eqb-true _ _ p.1 }, p.2)

  unended_held : (i t : ℕ) → i < 16 → Held (at s.records i) → (at s.records i).ticket ≡ t → unended s i t ≡ unended_stage (at s.records i).stage
  unended_held i t c hd e =
      unended_is s i t
      ∙ cond-false (leb s.layout.tasks i) _ _ (lt-leb _ _ (omega (arith, tasks_of i b.rules b.tickets c hd, ap (λ (x : Layout). x.tasks) b.laid)))
      ∙ cond-true (held_stage (at s.records i).stage) _ _ hd
      ∙ cond-true (eqb (at s.records i).ticket t) _ _ (eq-eqb _ _ e)

  unended_gone : (i t : ℕ) → (i < 16 → Held (at s.records i) → (at s.records i).ticket ≡ t → ⊥) → unended s i t ≡ false
  unended_gone i t no' =
      ⊎_elim
      (λ u. let p = unended_parts _ _ _ _ (sym (unended_is s i t) ∙ u) in
      absurd (no' (in_few s b i p.0) p.0 (eqb-true _ _ p.1)))
      (λ u. u)
      (cases_Bool (unended s i t))

-- ---- what every run keeps

pub record Past (l : Layout) (rate : ℕ) (kd : Bool) (task a t : ℕ) (later : Trace) (r : Report) : Type 0 where
  pub sum : ticks later task t ≡ r.waited + r.written + r.run + one (overrun r.outcome)
  pub cap : Capped l rate kd a r.waited r.written r.run

pub record Live (task a t : ℕ) (later : Trace) (r : Record) : Type 0 where
  pub sum : ticks later task t ≡ tot r
  pub image : r.accelerator ≡ a

pub record Timing (l : Layout) (rate : ℕ) (kd : Bool) (h : Trace) (s : State) : Type 0 where
  pub live : (task a t : ℕ) (later : Trace) → Holder s task t → Since task a t later h → Live task a t later (at s.records task)
  pub past : (task a t : ℕ) (later : Trace) (r : Report) → Since task a t later h → Told task t r h → Past l rate kd task a t later r
  pub gone : (task t : ℕ) (r : Report) → Told task t r h → (Holder s task t → ⊥) × (t < s.next)
  pub fate : (task a t : ℕ) (later : Trace) → Since task a t later h → Holder s task t ⊎ ((r : Report) × Told task t r h)

-- a tick counts, and any other call does not
ticks_plus : (e : Event) (rest later : Trace) (task t n : ℕ) → later ≡ e ∷ rest → one (ticking e.call && unended e.before task t) ≡ n → ticks later task t ≡ n + ticks rest task t
ticks_plus e rest later task t n z o = ap (λ (x : Trace). ticks x task t) z ∙ ap (λ (x : ℕ). x + ticks rest task t) o

module _ {l : Layout} {rate : ℕ} {kd : Bool} {h : Trace} (s s' : State) (b : Base l kd h s) (tm : Timing l rate kd h s) (same : Same s.records s'.records) (nx : s'.next ≡ s.next) where
  back : (task t : ℕ) → Holder s' task t → Holder s task t
  back task t x =
      let a = same.each task (omega (arith, x.few, b.tickets.size)) in
      record { few = x.few; held = sym a.held ∙ x.held; named = sym a.ticket ∙ x.named }

  forth : (task t : ℕ) → Holder s task t → Holder s' task t
  forth task t x =
      let a = same.each task (omega (arith, x.few, b.tickets.size)) in
      record { few = x.few; held = a.held ∙ x.held; named = a.ticket ∙ x.named }

  -- settling: no call, and no counts
  pub timing_still : ((j : ℕ) → j < 16 → tot (at s'.records j) ≡ tot (at s.records j)) → Timing l rate kd h s'
  timing_still tots =
      record {
        live = λ task a t later x si.
            let y = tm.live task a t later (back task t x) si in
            let k = same.each task (omega (arith, x.few, b.tickets.size)) in
            record { sum = y.sum ∙ sym (tots task x.few); image = k.accelerator ∙ y.image };
        past = tm.past;
        gone = λ task t r td. let g = tm.gone task t r td in ((λ x. g.0 (back task t x)), (let z : t < s'.next = omega (arith, nx, g.1) in z));
        fate = λ task a t later si. ⊎_elim (λ x. inl (forth task t x)) (λ x. inr x) (tm.fate task a t later si);
      }

  -- a call that gives and collects no ticket
  pub timing_goes : (c : Call) (ans : Result Answer Refusal) → plain ans ≡ true → ((j : ℕ) → j < 16 → tot (at s'.records j) ≡ tot (at s.records j) + one (ticking c && unended_stage (at s.records j).stage)) → Timing l rate kd (event s c ans ∷ h) s'
  timing_goes c ans quiet tots =
      let e : Event = event s c ans in
      record {
        live = λ task a t later x si.
            ⊎_elim
            (λ z. plain_ticket ans t quiet z.2)
            (λ z. let y = tm.live task a t z.0 (back task t x) z.2 in
            let hb = back task t x in
            let k = same.each task (omega (arith, x.few, b.tickets.size)) in
            let u : one (ticking c && unended s task t) ≡ one (ticking c && unended_stage (at s.records task).stage) = ap (λ v. one (ticking c && v)) (unended_held s b task t hb.few hb.held hb.named) in
            record {
              sum = (let q : ticks later task t ≡ tot (at s'.records task) = omega (arith, ticks_plus e z.0 later task t _ z.1 u, y.sum, tots task x.few) in q);
              image = k.accelerator ∙ y.image;
            })
            (since_inv e h si);
        past = λ task a t later r si td.
            ⊎_elim
            (λ z. plain_report ans r quiet z.1)
            (λ td'. ⊎_elim
            (λ z. plain_ticket ans t quiet z.2)
            (λ z. let y = tm.past task a t z.0 r z.2 td' in
            let g = tm.gone task t r td' in
            let u : one (ticking c && unended s task t) ≡ 0 = ap (λ v. one (ticking c && v)) (unended_gone s b task t (λ f hd nm. g.0 (record { few = f; held = hd; named = nm }))) ∙ and_never (ticking c) in
            record { sum = (let q : ticks later task t ≡ r.waited + r.written + r.run + one (overrun r.outcome) = omega (arith, ticks_plus e z.0 later task t 0 z.1 u, y.sum) in q); cap = y.cap })
            (since_inv e h si))
            (told_inv e h td);
        gone = λ task t r td.
            ⊎_elim
            (λ z. plain_report ans r quiet z.1)
            (λ td'. let g = tm.gone task t r td' in ((λ x. g.0 (back task t x)), (let z : t < s'.next = omega (arith, nx, g.1) in z)))
            (told_inv e h td);
        fate = λ task a t later si.
            ⊎_elim
            (λ z. plain_ticket ans t quiet z.2)
            (λ z. ⊎_elim (λ x. inl (forth task t x)) (λ x. inr (x.0, Told.there e x.1)) (tm.fate task a t z.0 z.2))
            (since_inv e h si);
      }
    where
      and_never : (x : Bool) → one (x && false) ≡ 0
      and_never true = refl
      and_never false = refl

module _ {l : Layout} {rate : ℕ} {kd : Bool} {h : Trace} (s : State) (b : Base l kd h s) (tm : Timing l rate kd h s) where
  born : {task a t : ℕ} {later : Trace} → Since task a t later h → t < s.next
  born {t = t} si = ⊎_elim (λ z. z) (λ z. absurd (omega (arith, since_given si, b.tally.unborn t z))) (cases_lt t s.next)

  pub timing_enter : (task a : ℕ) → Accepts s task a → Timing l rate kd (event s (Request task a) (Ok (Ticket s.next)) ∷ h) (enter s task a)
  timing_enter task a c =
      let e : Event = event s (Request task a) (Ok (Ticket s.next)) in
      let few' : task < 16 = few s task b c.task_in in
      let lr : task < length s.records = omega (arith, b.tickets.size) in
      let fresh = new a s.next in
      let other : (j : ℕ) (P : Record → Type 0) → (j ≡ task → ⊥) → P (at (set s.records task fresh) j) → P (at s.records j) =
      λ j P ne x. at_set (λ r. P r → P (at s.records j)) s.records task fresh j lr (λ z. absurd (ne z)) (λ _ y. y) x in
      let onto : (j : ℕ) (P : Record → Type 0) → (j ≡ task → ⊥) → P (at s.records j) → P (at (set s.records task fresh) j) =
      λ j P ne x. at_set P s.records task fresh j lr (λ z. absurd (ne z)) (λ _. x) in
      let here : (P : Record → Type 0) → P fresh → P (at (set s.records task fresh) task) = λ P x. at_set P s.records task fresh task lr (λ _. x) (λ ne. absurd (ne refl)) in
      let held-ticket : (t : ℕ) → Holder (enter s task a) task t → s.next ≡ t = λ t x. at_set (λ r. r.ticket ≡ t → s.next ≡ t) s.records task fresh task lr (λ _ y. y) (λ ne. absurd (ne refl)) x.named in
      record {
        live = λ i a' t later x si.
            ⊎_elim
            (λ z. let q = request_inj task a i a' z.1 in
            subst (λ (k : ℕ). Live k a' t later (at (set s.records task fresh) k)) q.0
            (here (Live task a' t later) (record { sum = ap (λ (y : Trace). ticks y task t) z.0; image = q.1 })))
            (λ z. ⊎_elim
            (λ eq. absurd (omega (arith, born z.2, held-ticket t (subst (λ (k : ℕ). Holder (enter s task a) k t) eq x))))
            (λ ne. let y = tm.live i a' t z.0 (record { few = x.few; held = other i (λ r. Held r) ne x.held; named = other i (λ r. r.ticket ≡ t) ne x.named }) z.2 in
            onto i (Live i a' t later) ne (record { sum = (let q : ticks later i t ≡ tot (at s.records i) = omega (arith, ticks_plus e z.0 later i t 0 z.1 refl, y.sum) in q); image = y.image }))
            (cases_eq i task))
            (since_inv e h si);
        past = λ i a' t later r si td.
            ⊎_elim
            (λ z. ticket_report s.next r z.1)
            (λ td'. ⊎_elim
            (λ z. absurd (let same-ticket : s.next ≡ t = ticket_inj s.next t z.2 in omega (arith, (tm.gone i t r td').1)))
            (λ z. let y = tm.past i a' t z.0 r z.2 td' in
            record { sum = (let q : ticks later i t ≡ r.waited + r.written + r.run + one (overrun r.outcome) = omega (arith, ticks_plus e z.0 later i t 0 z.1 refl, y.sum) in q); cap = y.cap })
            (since_inv e h si))
            (told_inv e h td);
        gone = λ i t r td.
            ⊎_elim
            (λ z. ticket_report s.next r z.1)
            (λ td'. let g = tm.gone i t r td' in (
              (λ x. ⊎_elim
                  (λ eq. omega (arith, g.1, held-ticket t (subst (λ (k : ℕ). Holder (enter s task a) k t) eq x)))
                  (λ ne. g.0 (record { few = x.few; held = other i (λ r. Held r) ne x.held; named = other i (λ r. r.ticket ≡ t) ne x.named }))
                  (cases_eq i task)),
              (let z : t < s.next + 1 = omega (arith, g.1) in z),
            ))
            (told_inv e h td);
        fate = λ i a' t later si.
            ⊎_elim
            (λ z. let q = request_inj task a i a' z.1 in
            inl (subst (λ (k : ℕ). Holder (enter s task a) k t) q.0 (record { few = few'; held = here (λ r. Held r) refl; named = here (λ r. r.ticket ≡ t) (ticket_inj s.next t z.2) })))
            (λ z. ⊎_elim
            (λ x. let ne : i ≡ task → ⊥ = λ eq. both_ways _ c.free (subst (λ (k : ℕ). Held (at s.records k)) eq x.held) in
            inl (record { few = x.few; held = onto i (λ r. Held r) ne x.held; named = onto i (λ r. r.ticket ≡ t) ne x.named }))
            (λ x. inr (x.0, Told.there e x.1))
            (tm.fate i a' t z.0 z.2))
            (since_inv e h si);
      }

  pub timing_collect : (task u : ℕ) → Collects s task u → Capped l rate kd (at s.records task).accelerator (at s.records task).waited (at s.records task).written (at s.records task).run → Timing l rate kd (event s (Collect task u) (Ok (Collected (report (at s.records task)))) ∷ h) (empty s task)
  timing_collect task u c cap =
      let rp = report (at s.records task) in
      let e : Event = event s (Collect task u) (Ok (Collected rp)) in
      let few' : task < 16 = few s task b c.task_in in
      let lr : task < length s.records = omega (arith, b.tickets.size) in
      let held-not : (t : ℕ) → Holder (empty s task) task t → ⊥ = λ t x. at_set (λ r. Held r → ⊥) s.records task blank task lr (λ _ y. no_true y) (λ ne. absurd (ne refl)) x.held in
      let other : (j : ℕ) (P : Record → Type 0) → (j ≡ task → ⊥) → P (at (set s.records task blank) j) → P (at s.records j) =
      λ j P ne x. at_set (λ r. P r → P (at s.records j)) s.records task blank j lr (λ z. absurd (ne z)) (λ _ y. y) x in
      let onto : (j : ℕ) (P : Record → Type 0) → (j ≡ task → ⊥) → P (at s.records j) → P (at (set s.records task blank) j) =
      λ j P ne x. at_set P s.records task blank j lr (λ z. absurd (ne z)) (λ _. x) in
      let mine : Holder s task u = record { few = few'; held = c.holds; named = c.named } in
      record {
        live = λ i a t later x si.
            ⊎_elim
            (λ z. ticket_report t rp (sym z.2))
            (λ z. ⊎_elim
            (λ eq. absurd (held-not t (subst (λ (k : ℕ). Holder (empty s task) k t) eq x)))
            (λ ne. let y = tm.live i a t z.0 (record { few = x.few; held = other i (λ r. Held r) ne x.held; named = other i (λ r. r.ticket ≡ t) ne x.named }) z.2 in
            onto i (Live i a t later) ne (record { sum = (let q : ticks later i t ≡ tot (at s.records i) = omega (arith, ticks_plus e z.0 later i t 0 z.1 refl, y.sum) in q); image = y.image }))
            (cases_eq i task))
            (since_inv e h si);
        past = λ i a t later r si td.
            ⊎_elim
            (λ z. ticket_report t rp (sym z.2))
            (λ z. ⊎_elim
            (λ w. let ij = collect_inj task u i t w.0 in
            let is : rp ≡ r = report_inj rp r w.1 in
            let y = tm.live i a t z.0 (subst₂ (λ (k v : ℕ). Holder s k v) ij.0 ij.1 mine) z.2 in
            subst (Past l rate kd i a t later) is
            (record {
              sum = (let q : ticks later i t ≡ rp.waited + rp.written + rp.run + one (overrun rp.outcome) =
                  omega (arith, ticks_plus e z.0 later i t 0 z.1 refl, y.sum, ap (λ (k : ℕ). tot (at s.records k)) ij.0, ap one (same_outcome (at s.records task).stage)) in q);
              cap = subst (λ (k : ℕ). Capped l rate kd k rp.waited rp.written rp.run) (ap (λ (k : ℕ). (at s.records k).accelerator) ij.0 ∙ y.image) cap;
            }))
            (λ td'. let y = tm.past i a t z.0 r z.2 td' in
            record { sum = (let q : ticks later i t ≡ r.waited + r.written + r.run + one (overrun r.outcome) = omega (arith, ticks_plus e z.0 later i t 0 z.1 refl, y.sum) in q); cap = y.cap })
            (told_inv e h td))
            (since_inv e h si);
        gone = λ i t r td.
            ⊎_elim
            (λ w. let ij = collect_inj task u i t w.0 in (
              (λ x. held-not t (subst (λ (k : ℕ). Holder (empty s task) k t) (sym ij.0) x)),
              (let q : t < s.next = omega (arith, b.tickets.below task few' c.holds, c.named, ij.1) in q),
            ))
            (λ td'. let g = tm.gone i t r td' in (
              (λ x. ⊎_elim
                  (λ eq. held-not t (subst (λ (k : ℕ). Holder (empty s task) k t) eq x))
                  (λ ne. g.0 (record { few = x.few; held = other i (λ r. Held r) ne x.held; named = other i (λ r. r.ticket ≡ t) ne x.named }))
                  (cases_eq i task)),
              g.1,
            ))
            (told_inv e h td);
        fate = λ i a t later si.
            ⊎_elim
            (λ z. ticket_report t rp (sym z.2))
            (λ z. ⊎_elim
            (λ x. ⊎_elim
            (λ eq. let same-t : u ≡ t = sym c.named ∙ ap (λ (k : ℕ). (at s.records k).ticket) (sym eq) ∙ x.named in
            inr (rp, subst₂ (λ (k v : ℕ). Told k v rp (e ∷ h)) (sym eq) same-t (Told.here s)))
            (λ ne. inl (record { few = x.few; held = onto i (λ r. Held r) ne x.held; named = onto i (λ r. r.ticket ≡ t) ne x.named }))
            (cases_eq i task))
            (λ x. inr (x.0, Told.there e x.1))
            (tm.fate i a t z.0 z.2))
            (since_inv e h si);
      }

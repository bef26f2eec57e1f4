-- Claims in a run: how a call keeps them, and that a collection is accepted in time.
use Rattle.std.proofs.Common.{◌≡◌, ℕ, ◌+◌, ◌<◌, ◌≤◌, Bool, true, false, cond, eqb, leb, [], ◌∷◌, length, Some, Ok, Err, Option, Result, sym, refl, ap, ◌∙◌, subst, ⊎_elim, arith}
use Rattle.std.proofs.lemmas.Bool.{cases_Bool, cases_eq, eq-eqb, ne_eqb, cond-true, cond-false, leb-false}
use Rattle.plan.specs.Rules.{Layout, Rules}
use Rattle.delays.specs.Delays.{stay}
use Rattle.engine.specs.Answers.{told}
use Rattle.model.specs.declared.requests.Report.{Report}
use Rattle.model.specs.declared.refusals.Refusal.{Refusal}
use Rattle.model.specs.declared.refusals.Refusal.TheVariants.{NoTask, NoAccelerator}
use Rattle.model.specs.declared.calls.Call.{Call}
use Rattle.model.specs.declared.calls.Call.TheVariants.{Request, Tick, Collect}
use Rattle.model.specs.declared.calls.Answer.{Answer}
use Rattle.model.specs.declared.calls.Answer.TheVariants.{Ticket, Ticked, Completed, Collected, Stands}
use Rattle.model.specs.Records.{one}
use Rattle.model.specs.States.{State}
use Rattle.ports.specs.Calls.{judged}
use Rattle.model.specs.Calls.{collect_answer}
use Rattle.model.specs.Runs.{Event, Trace}
use Rattle.model.specs.Promises.{collectable, too_early, holds, unended, names, collects, given, collected, Since, Told, ticks, Counts, Counted, Sound}
use Rattle.model.specs.Laws.{Performed}
use Rattle.model.proofs.Stages.{no_true}
use Rattle.model.proofs.Traces.{since_inv, none_since, request_inj, plain_ticket, plain_report}
use Rattle.model.proofs.Sounds.{sound}
use Rattle.claims.specs.declared.Claim.{Claim}
use Rattle.claims.specs.Claims.{Names}
use Rattle.claims.specs.Awaits.{Run, stay_in, Awaited, Over, Onward, Keeps, any, other_than, Handed, GivesBack}

one_same : (t : ℕ) → one (eqb t t) ≡ 1
one_same t = cond-true (eqb t t) 1 0 (eq-eqb t t refl)

-- ---- tickets in a run

told_collected : {task t : ℕ} {r : Report} {h : Trace} → Told task t r h → 1 ≤ collected h t
told_collected {t = t} (Told.here s) = omega (arith, one_same t)
told_collected (Told.there e x) = omega (arith, told_collected x)

since_given : {task a t : ℕ} {later h : Trace} → Since task a t later h → 1 ≤ given h t
since_given {t = t} (Since.here s) = omega (arith, one_same t)
since_given (Since.there e x) = omega (arith, since_given x)

-- a ticket that is given once has one task
since_once : {i j a b t : ℕ} {l m : Trace} (h : Trace) → given h t ≤ 1 → Since i a t l h → Since j b t m h → i ≡ j
since_once [] g x y = absurd (none_since x)
since_once {i} {j} {a} {b} {t} (e ∷ h) g x y =
    let now : e.answer ≡ Ok (Ticket t) → 1 ≤ given h t → ⊥ = λ z more. omega (arith, ap (λ y. Rattle.model.specs.Promises.gives y t) z, one_same t) in
    ⊎_elim
    (λ p. ⊎_elim (λ q. (request_inj i a j b (sym p.1 ∙ q.1)).0) (λ q. absurd (now p.2 (since_given q.2))) (since_inv e h y))
    (λ p. ⊎_elim (λ q. absurd (now q.2 (since_given p.2))) (λ q. since_once h (omega arith) p.2 q.2) (since_inv e h y))
    (since_inv e h x)

-- ---- a call keeps the claims whose tickets it does not collect

abbrev event : State → Call → Result Answer Refusal → Event
event s c a = record { before = s; call = c; answer = a }

grown : (k t n x : ℕ) → k ≤ t + n → k ≤ x + t + n
grown k t n x h = omega arith

quiet : (c : Call) (a : Result Answer Refusal) (t : ℕ) → names c t ≡ 0 → collects c a t ≡ 0
quiet c a t e = grind arith

module _ {s s' : State} {c : Call} {a : Result Answer Refusal} (p : Performed s c a s') where
  abbrev runs_on : Run s → Run s'
  runs_on r = record { layout = r.layout; interrupts = r.interrupts; first = r.first; trace = event s c a ∷ r.trace; reached = p.runs r.layout r.interrupts r.first r.trace r.reached }

  stay_same : Run s → (b : ℕ) → stay_in s' b ≡ stay_in s b
  unfolding stay_in
  stay_same r b =
      let st = p.step r.layout r.interrupts r.first r.trace r.reached in
      ap (λ (l : Layout). stay l s'.port.rate s'.interrupts b) st.layout
      ∙ ap (λ (x : ℕ). stay s.layout x s'.interrupts b) st.rate
      ∙ ap (λ (k : Bool). stay s.layout s.port.rate k b) st.interrupts

  pub onward : Run s → Onward s s'
  onward r = record { run = runs_on r; layout = (p.step r.layout r.interrupts r.first r.trace r.reached).layout; stays = stay_same r }

  -- with m ticks left of n
  goes : (d : Claim) (n m : ℕ) (w : Awaited s d n) → collects c a d.ticket ≡ 0 → stay_in s w.accelerator ≤ ticks (event s c a ∷ w.later) d.task d.ticket + m → Awaited s' d m
  goes d n m w none soon = record {
    run = runs_on w.run;
    accelerator = w.accelerator;
    later = event s c a ∷ w.later;
    since = Since.there (event s c a) w.since;
    uncollected = omega (arith, none, w.uncollected);
    soon = let e = stay_same w.run w.accelerator in rw e soon;
  }

  pub keeps : (d : Claim) (n : ℕ) → collects c a d.ticket ≡ 0 → Awaited s d n → Awaited s' d n
  keeps d n none w = goes d n n w none (grown _ _ _ _ w.soon)

  pub keeps_all : ((t : ℕ) → names c t ≡ 0) → Keeps any s s'
  keeps_all none d n _ w = keeps d n (quiet c a d.ticket (none d.ticket)) w

-- a tick that a request is unended for is one tick less to wait
pub keeps_tick : {s s' : State} {a : Result Answer Refusal} (p : Performed s Tick a s') (d : Claim) (n : ℕ) → unended s d.task d.ticket ≡ true → Awaited s d (n + 1) → Awaited s' d n
keeps_tick {s} {s'} {a} p d n alive w =
    let e : one (unended s d.task d.ticket) ≡ 1 = ap one alive in
    let less : (k t x : ℕ) → x ≡ 1 → k ≤ t + (n + 1) → k ≤ x + t + n = λ k t x y h. omega arith in
    goes p d (n + 1) n w (quiet Tick a d.ticket refl) (less _ _ _ e w.soon)

-- ---- requests

module _ {s s' : State} {task a t : ℕ} (p : Performed s (Request task a) (Ok (Ticket t)) s') where
  awaited : Run s → Awaited s' (record { task = task; ticket = t }) (stay_in s' a)
  awaited r =
      let h = r.trace in
      let k = (p.sound r.layout r.interrupts r.first h r.reached).kept in
      let was = (sound s r.reached).kept in
      record {
        run = runs_on p r;
        accelerator = a;
        later = [];
        since = Since.here s;
        uncollected = omega (arith, k.given_once t, one_same t, was.all t);
        soon = omega arith;
      }

  -- the tests that an accepted request passed
  passed : (why : Refusal) (rest : Option Refusal) (b : Bool) → Ok (Ticket t) ≡ judged (cond b (Some why) rest) (Ticket s.next) → (b ≡ false) × (Ok (Ticket t) ≡ judged rest (Ticket s.next))
  passed why rest true e = plain_ticket (Err why) t refl (sym e)
  passed why rest false e = (refl, e)

  task_in : task < s.layout.tasks
  task_in = leb-false s.layout.tasks task (passed NoTask _ (leb s.layout.tasks task) p.answered).0

  accelerator_in : a < length s.layout.accelerators
  accelerator_in =
      let e = (passed NoTask _ (leb s.layout.tasks task) p.answered).1 in
      leb-false (length s.layout.accelerators) a (passed NoAccelerator _ (leb (length s.layout.accelerators) a) e).0

  pub named : Rules s.layout → Names task (record { task = task; ticket = t })
  named rules = record { task_is = refl; unspent = λ e. omega (arith, task_in, (rules.counts.1 (omega (arith, task_in))).1.1) }

  pub handed : Run s → Handed s' a (record { task = task; ticket = t })
  handed r = record { known = let e = (onward p r).layout in rw e accelerator_in; awaited = awaited r }

-- ---- collections

collects_it : (a : Result Answer Refusal) → collectable a ≡ true → too_early a ≡ false → (r : Report) × (a ≡ Ok (Collected r))
collects_it (Ok (Ticket t)) h u = no_true h
collects_it (Ok (Ticked o n)) h u = no_true h
collects_it (Ok (Completed t)) h u = no_true h
collects_it (Ok (Collected r)) h u = (r, refl)
collects_it (Ok (Stands σ)) h u = no_true h
collects_it (Err why) h u = grind arith

accepted_told : (r : Result Report Refusal) (q : Report) → told Collected r ≡ Ok (Collected q) → (x : Report) × (r ≡ Ok x)
accepted_told (Ok x) q e = (x, refl)
accepted_told (Err why) q e = plain_report (Err why) q refl e

-- what is not collected is held
held : {h : Trace} {s : State} {task t : ℕ} {c : Counts} → Counted h s task t c → collected h t ≡ 0 → holds s task t ≡ true
held (Counted.held e) none = e
held (Counted.told r x) none = absurd (omega (arith, told_collected x))

module _ {s : State} {c : Claim} {n : ℕ} (w : Awaited s c n) where
  abbrev all_sound : Sound w.run.trace s
  all_sound = sound s w.run.reached

  pub held_now : holds s c.task c.ticket ≡ true
  held_now = held (all_sound.timed c.task w.accelerator c.ticket w.later w.since).counted.1 w.uncollected

  pub over : n ≡ 0 → Over s c
  unfolding stay_in
  over e =
      let under = (all_sound.timed c.task w.accelerator c.ticket w.later w.since).under in
      let no : (k t : ℕ) → k ≤ t + n → t < k → ⊥ = λ k t h g. omega arith in
      ⊎_elim (λ u. absurd (no _ _ w.soon (under u))) (λ u. u) (cases_Bool (unended s c.task c.ticket))

module _ {s s' : State} {c : Claim} {r : Result Report Refusal} (p : Performed s (Collect c.task c.ticket) (told Collected r) s') where
  taken : (n : ℕ) → Awaited s c n → Over s c → (x : Report) × (r ≡ Ok x)
  taken n w o =
      let q = collects_it (collect_answer s c.task c.ticket) (held_now w) o in
      accepted_told r q.0 (p.answered ∙ q.1)

  returned : (why : Refusal) (n : ℕ) → r ≡ Err why → Awaited s c n → Awaited s' c n
  returned why n e w = keeps p c n (ap (λ (x : Result Report Refusal). collects (Collect c.task c.ticket) (told Collected x) c.ticket) e) w

-- the tickets of other tasks stay
keeps_others : {s s' : State} {i u : ℕ} (a : Result Answer Refusal) (p : Performed s (Collect i u) a s') → Keeps (other_than i) s s'
keeps_others (Ok (Ticket t)) p d n ne w = keeps p d n refl w
keeps_others (Ok (Ticked o m)) p d n ne w = keeps p d n refl w
keeps_others (Ok (Completed t)) p d n ne w = keeps p d n refl w
keeps_others {s} {s'} {i} {u} (Ok (Collected r)) p d n ne w =
    ⊎_elim
    (λ e. let k = (p.sound w.run.layout w.run.interrupts w.run.first w.run.trace w.run.reached).kept in
    let mine = k.told_own i u r (Told.here s) in
    let h : Trace = event s (Collect i u) (Ok (Collected r)) ∷ w.run.trace in
    let same : Since i r.accelerator d.ticket mine.0 h = subst (λ (t : ℕ). Since i r.accelerator t mine.0 h) e mine.1 in
    absurd (ne (since_once h (k.given_once d.ticket) (Since.there _ w.since) same)))
    (λ e. keeps p d n (cond-false (eqb u d.ticket) 1 0 (ne_eqb u d.ticket e)) w)
    (cases_eq u d.ticket)
keeps_others (Ok (Stands σ)) p d n ne w = keeps p d n refl w
keeps_others (Err why) p d n ne w = keeps p d n refl w

pub gives_back : {s s' : State} {c : Claim} {r : Result Report Refusal} → Performed s (Collect c.task c.ticket) (told Collected r) s' → GivesBack s c s' r
gives_back p = record { keeps = keeps_others _ p; goes_on = onward p; accepted = taken p; in_time = λ w. taken p 0 w (over w refl); refused = returned p }

-- A tick adds one to the counts of each unended request, and nothing else adds to them.
use Rattle.std.proofs.Common.{◌≡◌, ℕ, ◌+◌, ◌<◌, true, false, eqb, List, map, length, Some, None, Option, Result, sym, refl, ap, ◌∙◌, subst, arith}
use Rattle.std.proofs.lemmas.List.{get_or-map, length-map, length-set}
use Rattle.std.proofs.lemmas.Bool.{and_parts}
use Rattle.ports.specs.declared.answers.Refusal.{Refusal}
use Rattle.ports.specs.declared.answers.Fed.{Fed}
use Rattle.ports.specs.Calls.{feed_answer, feed_after}
use Rattle.model.specs.declared.requests.Outcome.TheVariants.{Finished, Overrun}
use Rattle.model.specs.declared.requests.Stage.{Stage}
use Rattle.model.specs.declared.requests.Stage.TheVariants.{Reserved, Ended}
use Rattle.model.specs.declared.requests.Record.{Record}
use Rattle.model.specs.Records.{blank, at, one, held_stage, queued_stage, reserved_stage, running_stage, unended_stage, waiting_stage, slot_of, outcome_of, staged, aged, fed_record}
use Rattle.model.specs.States.{State, part}
use Rattle.model.specs.Moves.{grant, finish, settle, expire, left_in, fed_stage, stage_fed, advance, ready, choose}
use Rattle.model.specs.Calls.{tick_after}
use Rattle.model.specs.Promises.{overrun, overrun_stage}
use Rattle.model.proofs.Tables.{at_set}
use Rattle.model.proofs.Ways.{Grants, framed, keeps_settle, keeps_expire, way_expire, rows_on}
use Rattle.model.proofs.Sames.{Choice, chosen, freed_records, midway, framed_midway}
use Rattle.model.specs.Stops.{Roomy}
use Rattle.model.proofs.Stages.{reserved_held}
use Rattle.model.proofs.Counts.{counted, aged_counted, up_is}

-- the ticks that a record counts, and 1 while it is unended
abbrev pub tot : Record → ℕ
tot r = r.waited + r.written + r.run + one (overrun_stage r.stage)

abbrev pub alive : Record → ℕ
alive r = one (unended_stage r.stage)

queued_plain : (σ : Stage) → queued_stage σ ≡ true → (overrun_stage σ ≡ false) × (unended_stage σ ≡ true)
queued_plain σ e = grind arith

reserved_plain : (σ : Stage) → reserved_stage σ ≡ true → (overrun_stage σ ≡ false) × (unended_stage σ ≡ true)
reserved_plain σ e = grind arith

running_plain : (σ : Stage) → running_stage σ ≡ true → (overrun_stage σ ≡ false) × (unended_stage σ ≡ true)
running_plain σ e = grind arith

pub fed_plain : (slot : ℕ) (told : Result Fed Refusal) (left : ℕ) → overrun_stage (fed_stage slot told left) ≡ false
fed_plain slot told left = grind arith

one_tick : (σ : Stage) → one (waiting_stage σ) + one (running_stage σ) ≡ one (unended_stage σ)
one_tick σ = grind arith

pub same_outcome : (σ : Stage) → overrun (outcome_of σ) ≡ overrun_stage σ
same_outcome σ = grind arith

-- settling counts nothing and ends nothing
pub record Still (rs qs : List Record) : Type 0 where
  pub size : length qs ≡ length rs
  pub tot_is : (j : ℕ) → j < length rs → tot (at qs j) ≡ tot (at rs j)
  pub alive_is : (j : ℕ) → j < length rs → alive (at qs j) ≡ alive (at rs j)

still_grant : (rs : List Record) (s : State) (k i slot : ℕ) (rest : List ℕ) → Grants s k i slot rest → Still rs s.records → Still rs (grant s k i slot rest).records
still_grant rs s k i slot rest g st =
    let r = at s.records i in
    let q = queued_plain r.stage (and_parts (queued_stage r.stage) (eqb (part s.layout r) k) g.lowest.has).0 in
    record {
      size = length-set s.records i (staged r (Reserved slot)) ∙ st.size;
      tot_is = λ j b. at_set (λ x. tot x ≡ tot (at rs j)) s.records i (staged r (Reserved slot)) j g.lowest.within
          (λ e. let z : tot (at s.records i) ≡ tot (at rs j) = subst (λ (x : ℕ). tot (at s.records x) ≡ tot (at rs j)) e (st.tot_is j b) in omega (arith, z, ap one q.0)) (λ _. st.tot_is j b);
      alive_is = λ j b. at_set (λ x. alive x ≡ alive (at rs j)) s.records i (staged r (Reserved slot)) j g.lowest.within
          (λ e. let z : alive (at s.records i) ≡ alive (at rs j) = subst (λ (x : ℕ). alive (at s.records x) ≡ alive (at rs j)) e (st.alive_is j b) in omega (arith, z, ap one q.1)) (λ _. st.alive_is j b);
    }

still_refl : (rs : List Record) → Still rs rs
still_refl rs = record { size = refl; tot_is = λ j b. refl; alive_is = λ j b. refl }

pub still_settle : (s : State) → length s.lines ≡ length s.layout.partitions → Still s.records (settle s).records
still_settle s e = keeps_settle (λ x. Still s.records x.records) (still_grant s.records) s e (still_refl s.records)

-- an overrun counts the one tick more of what it ends
record Due (rs qs : List Record) : Type 0 where
  size : length qs ≡ length rs
  due : (j : ℕ) → j < length rs → tot (at qs j) + alive (at qs j) ≡ tot (at rs j) + alive (at rs j)

due_expire : (s : State) → Due s.records (expire s).records
due_expire s =
    keeps_expire (λ x. Due s.records x.records)
    (λ x i f d.
    let r = at x.records i in
    let q = staged r (Ended (slot_of r.stage) Overrun) in
    let p = running_plain r.stage (and_parts (running_stage r.stage) _ f.has).0 in
    record {
      size = length-set x.records i q ∙ d.size;
      due = λ j b. at_set (λ y. tot y + alive y ≡ tot (at s.records j) + alive (at s.records j)) x.records i q j f.within
          (λ e. let z : tot (at x.records i) + alive (at x.records i) ≡ tot (at s.records j) + alive (at s.records j) = subst (λ (y : ℕ). tot (at x.records y) + alive (at x.records y) ≡ tot (at s.records j) + alive (at s.records j)) e (d.due j b) in omega (arith, z, ap one p.0, ap one p.1))
          (λ _. d.due j b);
    })
    s (record { size = refl; due = λ j b. refl })

tot_aged : (r : Record) → (held_stage r.stage ≡ true → Roomy r) → tot (aged r) ≡ tot r + alive r
tot_aged r h = ap tot (aged_counted r h) ∙ (let z : tot (counted r) ≡ tot r + alive r = omega (arith, one_tick r.stage) in z)

-- each held record has room in its counts
abbrev pub AllRoomy : List Record → Type 0
AllRoomy rs = (j : ℕ) → j < length rs → held_stage (at rs j).stage ≡ true → Roomy (at rs j)

tot_advance : (s : State) (o : Option ℕ) → Choice s o → AllRoomy s.records → (j : ℕ) → j < length s.records → tot (at (advance s o).records j) ≡ tot (at s.records j) + alive (at s.records j)
tot_advance s None c rm j b = ap tot (get_or-map aged s.records j blank blank b) ∙ tot_aged (at s.records j) (rm j b)
tot_advance s (Some i) c rm j b =
    let rs = s.records in
    let r = at rs i in
    let σ = stage_fed s i in
    let t = slot_of r.stage in
    let la : i < length (map aged rs) = omega (arith, length-map rs aged, c.there) in
    let plain : overrun_stage σ ≡ false = fed_plain t (feed_answer s.interrupts s.port t) (left_in (feed_after s.interrupts s.port t) t) in
    let p = reserved_plain r.stage c.reserved in
    ap (λ (x : List Record). tot (at x j)) (freed_records σ (part s.layout r) _)
    ∙ at_set (λ x. tot x ≡ tot (at rs j) + alive (at rs j)) (map aged rs) i (fed_record r σ) j la
    (λ e. subst (λ (x : ℕ). tot (fed_record r σ) ≡ tot (at rs x) + alive (at rs x)) (sym e) (let z : tot (fed_record r σ) ≡ tot r + alive r = omega (arith, up_is r.written (rm i c.there (reserved_held _ c.reserved)).written, ap one plain, ap one p.0, ap one p.1) in z))
    (λ _. ap tot (get_or-map aged rs j blank blank b) ∙ tot_aged (at rs j) (rm j b))

module _ (s : State) (e : length s.lines ≡ length s.layout.partitions) where
  -- a tick: one more for each request that was unended
  pub tot_tick : AllRoomy (ready s).records → (j : ℕ) → j < length s.records → tot (at (tick_after s).records j) ≡ tot (at s.records j) + alive (at s.records j)
  tot_tick rm j b =
      let x = expire s in
      let fx = framed (way_expire s) in
      let sx = still_settle x (rows_on s x e fx) in
      let r = ready s in
      let m = midway s e in
      let dx = due_expire s in
      let bx : j < length x.records = omega (arith, fx.places) in
      let br : j < length r.records = omega (arith, sx.size) in
      let fm = framed_midway s e in
      let sm = still_settle m (rows_on s m e fm) in
      omega (arith, sm.tot_is j (omega (arith, fm.places)), tot_advance r (choose r) (chosen r) rm j br, sx.tot_is j bx, sx.alive_is j bx, dx.due j b)

-- a request that is done counts nothing more
pub tot_finish : (s : State) (i : ℕ) → i < length s.records → running_stage (at s.records i).stage ≡ true → (j : ℕ) → tot (at (finish s i Finished).records j) ≡ tot (at s.records j)
tot_finish s i c e j =
    let r = at s.records i in
    at_set (λ x. tot x ≡ tot (at s.records j)) s.records i (staged r (Ended (slot_of r.stage) Finished)) j c
    (λ z. subst (λ (x : ℕ). r.waited + r.written + r.run + 0 ≡ tot (at s.records x)) (sym z) (let y : r.waited + r.written + r.run + 0 ≡ tot r = omega (arith, ap one (running_plain r.stage e).0) in y))
    (λ _. refl)

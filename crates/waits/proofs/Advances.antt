-- A tick passes: one reserved request is written or none, and all others age.
use Rattle.std.proofs.Common.{◌≡◌, ℕ, ◌+◌, ◌-◌, ◌*◌, ◌<◌, ◌≤◌, Bool, true, false, ◌&&◌, eqb, leb, ◌⊎◌, sym, refl, ap, ◌∙◌, subst, inl, inr, ⊎_elim, mul-one, mul-add, arith}
use Rattle.std.proofs.lemmas.Bool.{cases_eq, cases_lt, cases_Bool, cond-true, cond-false, both_ways, and_parts, and_from, eq-eqb, eqb-true, le-leb, leb-true}
use Rattle.waits.specs.Total.{total}
use Rattle.waits.specs.Table.{Stage, Rec, Given, State, Held, Queued, Reserved, Running, Waiting, Occupant, Unended, one, queued_stage, reserved_stage, running_stage, waiting_stage, occ}
use Rattle.waits.specs.Table.Stage.{empty, queued, reserved, running, ended}
use Rattle.waits.specs.Moves.{fed, aged, Settled, Idle, Write, Wrote, Chosen}
use Rattle.waits.specs.Law.{phi, Phi, spent, limit, Inv, Counts}
use Rattle.waits.proofs.Totals.{total_same, total_move, total_less, total_with, some_or_none}
use Rattle.waits.proofs.Stages.{no_true, Later, later_aged, later_fed, waiting_unended, reserved_unended, reserved_occupant, queued_unended, occupant_unended, unended_held, waiting_cases, occupant_cases}
use Rattle.waits.proofs.Potential.{phi_le, phi_fed, phi_runs, occ_cases, occ_aged, times_le, times_less}
use Rattle.waits.proofs.Onward.{Ok, ok_le, Onward, below', apart', fits', Phi-le, Ahead-le, old_waits, old_delayed, new_ok, still_waits, still_delayed}

-- the record at j was chosen and written
record Fed (g : Given) (s : State) (j : ℕ) (s' : State) : Type 0 where
  to : Stage
  was : Reserved (s.tab j)
  how : Chosen g s j
  wrote : Wrote (s.tab j) to
  is : s'.tab j ≡ fed (s.tab j) to

-- both ticks at once: p is the place chosen, or lies beyond the table
record Advance (g : Given) (s : State) (p : ℕ) (s' : State) : Type 0 where
  settled : Settled g s
  chosen : (j : ℕ) → j < g.places → j ≡ p → Fed g s j s'
  none : g.places ≤ p → (j : ℕ) → j < g.places → Reserved (s.tab j) → ⊥
  rest : (j : ℕ) → j < g.places → (j ≡ p → ⊥) → s'.tab j ≡ aged (s.tab j)
  slots : (k : ℕ) → s'.line k + total g.places (λ j. occ k (s'.tab j)) ≡ g.slots k
  next : s'.next ≡ s.next

counts_fed : (q : Rec) (σ : Stage) → Reserved q → Counts q → Wrote q σ → Counts (fed q σ)
counts_fed q empty r c w = absurd w
counts_fed q queued r c w = absurd w
counts_fed q reserved r c w = record { capped = λ _. (omega arith, omega (arith, (c.reserved r).1)); queued = no_true; reserved = λ _. (w, (c.reserved r).1); running = no_true }
counts_fed q running r c w = record { capped = λ _. (omega arith, omega (arith, (c.reserved r).1)); queued = no_true; reserved = no_true; running = λ _. (w, omega (arith, (c.reserved r).1)) }
counts_fed q ended r c w = record { capped = λ _. (omega (arith, (c.reserved r).0), omega (arith, (c.reserved r).1)); queued = no_true; reserved = no_true; running = no_true }

runs_queued : (σ : Stage) → queued_stage σ ≡ true → one (running_stage σ) ≡ 0
runs_queued empty e = refl
runs_queued queued e = refl
runs_queued reserved e = refl
runs_queued running e = no_true e
runs_queued ended e = refl

runs_reserved : (σ : Stage) → reserved_stage σ ≡ true → one (running_stage σ) ≡ 0
runs_reserved empty e = refl
runs_reserved queued e = refl
runs_reserved reserved e = refl
runs_reserved running e = no_true e
runs_reserved ended e = refl

counts_aged : (q : Rec) → Counts q → (Running q → q.ran < q.run) → Counts (aged q)
counts_aged q c h = record {
  capped = λ e. (
    (c.capped e).0,
    ⊎_elim
        (λ r. omega (arith, h r, cond-true {A = ℕ} (running_stage q.stage) 1 0 r))
        (λ r. omega (arith, (c.capped e).1, cond-false {A = ℕ} (running_stage q.stage) 1 0 r)) (cases_Bool (running_stage q.stage)),
  );
  queued = λ e. ((c.queued e).0, omega (arith, (c.queued e).1, runs_queued q.stage e));
  reserved = λ e. ((c.reserved e).0, omega (arith, (c.reserved e).1, runs_reserved q.stage e));
  running = λ e. ((c.running e).0, omega (arith, h e, cond-true {A = ℕ} (running_stage q.stage) 1 0 e));
}

module _ (g : Given) (s s' : State) (i : Inv g s) (p : ℕ) (m : Advance g s p s') where
  at : (P : Rec → Type 0) (j : ℕ) → j < g.places → (j ≡ p → (c : Fed g s j s') → P (fed (s.tab j) c.to)) → ((j ≡ p → ⊥) → P (aged (s.tab j))) → P (s'.tab j)
  at P j b here other =
      ⊎_elim (λ e. let c = m.chosen j b e in subst P (sym c.is) (here e c)) (λ ne. subst P (sym (m.rest j b ne)) (other ne)) (cases_eq j p)

  later : Onward g s s'
  later j b = at (λ q. Unended q → Later (s.tab j) q) j b (λ _ c _. later_fed (s.tab j) c.to c.was c.wrote) (λ _ u. later_aged (s.tab j) u)

  was_reserved : (j : ℕ) → j < g.places → Reserved (s'.tab j) → Reserved (s.tab j)
  was_reserved j b = at (λ q. Reserved q → Reserved (s.tab j)) j b (λ _ c _. c.was) (λ _ r. r)

  was_occupant : (j : ℕ) → j < g.places → Occupant (s'.tab j) → Occupant (s.tab j)
  was_occupant j b = at (λ q. Occupant q → Occupant (s.tab j)) j b (λ _ c _. reserved_occupant _ c.was) (λ _ r. r)

  -- what is begun and was not chosen was begun before
  was_begun : (j : ℕ) → j < g.places → (j ≡ p → ⊥) → 0 < (s'.tab j).written → 0 < (s.tab j).written
  was_begun j b ne v = subst (λ (q : Rec). 0 < q.written) (m.rest j b ne) v

  waited_fed : (j : ℕ) → j < g.places → j ≡ p → (s'.tab j).waited ≡ (s.tab j).waited
  waited_fed j b e = ap (λ (q : Rec). q.waited) (m.chosen j b e).is

  waited_aged : (j : ℕ) → j < g.places → (j ≡ p → ⊥) → Waiting (s.tab j) → (s'.tab j).waited ≡ (s.tab j).waited + 1
  waited_aged j b ne w =
      ap (λ (q : Rec). q.waited) (m.rest j b ne) ∙ ap (λ (v : ℕ). (s.tab j).waited + v) (cond-true {A = ℕ} (waiting_stage (s.tab j).stage) 1 0 w)

  -- a written tick of an older request lowers the potential by n
  write_falls : (t k n : ℕ) → p < g.places → (s.tab p).ticket < t → Phi g s' t k n + n ≤ Phi g s t k n
  write_falls t k n b o =
      let c = m.chosen p b refl in
      total_less g.places (λ j. phi t k n (s'.tab j)) (λ j. phi t k n (s.tab j)) p n b
      (λ j b'. phi_le t k n (s.tab j) (s'.tab j) (later j b'))
      (omega (arith, ap (phi t k n) c.is, phi_fed t k n (s.tab p) c.to c.was ((i.counts p b).reserved c.was).0 o))

  -- where nothing older is reserved in its partition, every slot of it runs for an older request
  run_falls : (x : ℕ) → x < g.places → Waiting (s.tab x) → ((a : ℕ) → a < g.places → Reserved (s.tab a) → (s.tab a).part ≡ (s.tab x).part → (s.tab x).ticket < (s.tab a).ticket) → (n : ℕ) → n ≤ g.slots (s.tab x).part → Phi g s' (s.tab x).ticket (s.tab x).part n + n ≤ Phi g s (s.tab x).ticket (s.tab x).part n
  run_falls x bx wx none n h =
      omega (arith, total_with g.places (λ j. phi t k n (s'.tab j)) (λ j. occ k (s.tab j)) (λ j. phi t k n (s.tab j)) each, i.slots k, m.settled.full x bx queues)
    where
      t : ℕ
      t = (s.tab x).ticket

      k : ℕ
      k = (s.tab x).part

      queues : Queued (s.tab x)
      queues = ⊎_elim (λ q. q) (λ r. absurd (omega (arith, none x bx r refl))) (waiting_cases _ wx)

      lower : (j : ℕ) → j < g.places → phi t k n (s'.tab j) ≤ phi t k n (s.tab j)
      lower j b = phi_le t k n (s.tab j) (s'.tab j) (later j b)

      each : (j : ℕ) → j < g.places → phi t k n (s'.tab j) + occ k (s.tab j) ≤ phi t k n (s.tab j)
      each j b =
          ⊎_elim
          (λ z. omega (arith, z, lower j b))
          (λ o.
          let older : (s.tab j).ticket < t = i.order x j bx b queues o.0 (sym o.1) in
          ⊎_elim
          (λ r. absurd (omega (arith, none j b r o.1, older)))
          (λ r. ⊎_elim
          (λ e. absurd (both_ways _ (apart (s.tab j).stage r) (m.chosen j b e).was))
          (λ ne. omega (arith, o.2, ap (phi t k n) (m.rest j b ne), phi_runs t k n (s.tab j) r o.1 older (m.settled.going j b r)))
          (cases_eq j p))
          (occupant_cases _ o.0))
          (occ_cases k (s.tab j))
        where
          apart : (σ : Stage) → running_stage σ ≡ true → reserved_stage σ ≡ false
          apart empty e = refl
          apart queued e = refl
          apart reserved e = no_true e
          apart running e = refl
          apart ended e = refl

  -- the chosen one is half written and younger, and a request of the partition of x, no younger than x, is reserved
  record HeldUp (x : ℕ) : Type 0 where
    here : p < g.places
    stops : g.stops ≡ false
    begun : 0 < (s.tab p).written
    younger : (s.tab x).ticket < (s.tab p).ticket
    a : ℕ
    within : a < g.places
    reserved : Reserved (s.tab a)
    part : (s.tab a).part ≡ (s.tab x).part
    older : (s.tab a).ticket ≤ (s.tab x).ticket

  abbrev Falls : ℕ → ℕ → Type 0
  Falls x n = Phi g s' (s.tab x).ticket (s.tab x).part n + n ≤ Phi g s (s.tab x).ticket (s.tab x).part n

  -- the heart: while x waits, the potential falls by n, or a half written one comes nearer to its end
  falls : (x : ℕ) → x < g.places → (x ≡ p → ⊥) → Waiting (s.tab x) → (n : ℕ) → n ≤ g.slots (s.tab x).part → (Falls x n) ⊎ (HeldUp x)
  falls x bx ne wx n h = ⊎_elim inside (λ out. inl (run_falls x bx wx (λ a b r _. absurd (m.none out a b r)) n h)) (cases_lt p g.places)
    where
      test : ℕ → Bool
      test a = reserved_stage (s.tab a).stage && (eqb (s.tab a).part (s.tab x).part && leb (s.tab a).ticket (s.tab x).ticket)

      younger_all : ((a : ℕ) → a < g.places → test a ≡ false) → (a : ℕ) → a < g.places → Reserved (s.tab a) → (s.tab a).part ≡ (s.tab x).part → (s.tab x).ticket < (s.tab a).ticket
      younger_all f a b r e =
          ⊎_elim (λ l. l) (λ l. absurd (both_ways _ (f a b) (and_from _ _ r (and_from _ _ (eq-eqb _ _ e) (le-leb _ _ l))))) (cases_lt (s.tab x).ticket (s.tab a).ticket)

      inside : p < g.places → (Falls x n) ⊎ (HeldUp x)
      inside b =
          let c = m.chosen p b refl in
          ⊎_elim
          (λ o. inl (write_falls (s.tab x).ticket (s.tab x).part n b o))
          (λ l.
          let apart : (s.tab p).ticket ≡ (s.tab x).ticket → ⊥ = λ e. ne (sym (i.apart p x b bx (reserved_unended _ c.was) (waiting_unended _ wx) e)) in
          let young : (s.tab x).ticket < (s.tab p).ticket = omega (arith, l, apart) in
          ⊎_elim
          (λ half. ⊎_elim
          (λ y. let z = and_parts _ _ y.2 in let z' = and_parts _ _ z.1 in
          inr (record { here = b; stops = half.0; begun = half.1; younger = young; a = y.0; within = y.1; reserved = z.0; part = eqb-true _ _ z'.0; older = leb-true _ _ z'.1 }))
          (λ f. inl (run_falls x bx wx (younger_all f) n h))
          (some_or_none g.places test))
          (λ low. inl (run_falls x bx wx (λ a ba r _. omega (arith, low.0 a ba r, young)) n h))
          c.how)
          (cases_lt (s.tab p).ticket (s.tab x).ticket)

  -- one tick more, n times over
  more : (n w : ℕ) → n * (w + 1) ≡ n * w + n
  more n w = mul-add n w 1 ∙ ap (λ (v : ℕ). n * w + v) (mul-one n)

  tick_waits : (x : ℕ) → x < g.places → Waiting (s'.tab x) → (n : ℕ) → n ≤ g.slots (s'.tab x).part → spent g s' (s'.tab x) n ≤ limit g x (s'.tab x).part n
  tick_waits x bx wx n h =
      ⊎_elim (λ e. still_waits g s s' i later x bx wx (waited_fed x bx e) n h)
      (λ ne.
      let lx = later x bx (waiting_unended _ wx) in
      let w : ℕ = (s.tab x).waited in
      let t : ℕ = (s.tab x).ticket in
      let k : ℕ = (s.tab x).part in
      let h' : n ≤ g.slots k = subst (λ (y : ℕ). n ≤ g.slots y) lx.part h in
      let o : Ok g s' x (w + 1) t k n 0 = ⊎_elim
      (λ f. ok_le g s s' x t k n w (w + 1) 0 0 (omega (arith, f, more n w)) (Ahead-le g s s' i later t k) (old_waits g s s' i later x bx wx n h))
      (λ y.
      let c = m.chosen p y.here refl in
      let old = i.delayed y.stops x y.a p bx y.within y.here (lx.waits wx) y.reserved y.part y.older c.was y.begun y.younger n h' in
      let z : ℕ = n * ((s.tab p).write - (s.tab p).written) in
      let full : n ≤ z = omega (arith, times_less n 0 ((s.tab p).write - (s.tab p).written) (omega (arith, ((i.counts p y.here).reserved c.was).0))) in
      ok_le g s s' x t k n w (w + 1) z 0 (omega (arith, Phi-le g s s' i later t k n, more n w, full)) (Ahead-le g s s' i later t k) old)
      (falls x bx ne (lx.waits wx) n h') in
      omega (arith, new_ok g s s' i later x bx (waiting_unended _ wx) n (w + 1) 0 o, ap (λ (v : ℕ). n * v) (waited_aged x bx ne (lx.waits wx))))
      (cases_eq x p)

  tick_delayed : g.stops ≡ false → (x a b : ℕ) → x < g.places → a < g.places → b < g.places → Waiting (s'.tab x)
      → Reserved (s'.tab a) → (s'.tab a).part ≡ (s'.tab x).part → (s'.tab a).ticket ≤ (s'.tab x).ticket
      → Reserved (s'.tab b) → 0 < (s'.tab b).written → (s'.tab x).ticket < (s'.tab b).ticket
      → (n : ℕ) → n ≤ g.slots (s'.tab x).part → spent g s' (s'.tab x) n + n * ((s'.tab b).write - (s'.tab b).written) ≤ limit g x (s'.tab x).part n
  tick_delayed st x a b bx ba bb wx ra pa ta rb vb tb n h =
      ⊎_elim
      (λ ex.
      let neb : b ≡ p → ⊥ = λ eb. omega (arith, ap (λ (y : ℕ). (s'.tab y).ticket) (ex ∙ sym eb)) in
      still_delayed g s s' i later st x a b bx ba bb wx (waited_fed x bx ex) ua (was_reserved a ba ra) pa ta ub (was_reserved b bb rb) (was_begun b bb neb vb) tb n h)
      (λ ne.
      let o : Ok g s' x (w + 1) t k n z' = ⊎_elim
      (λ eb.
      let c = m.chosen b bb eb in
      let v' : (s'.tab b).written ≡ (s.tab b).written + 1 = ap (λ (q : Rec). q.written) c.is in
      ⊎_elim
      (λ half.
      let less : z' + n ≤ z = times_less n _ _ (omega (arith, lb.write, v', ((i.counts b bb).reserved c.was).0)) in
      ok_le g s s' x t k n w (w + 1) z z' (omega (arith, Phi-le g s s' i later t k n, more n w, less)) (Ahead-le g s s' i later t k) (old_delayed g s s' i later st x a b bx ba bb wx ua (was_reserved a ba ra) pa ta ub c.was half.1 tb n h))
      (λ low. absurd (omega (arith, low.0 a ba (was_reserved a ba ra), la.ticket, lb.ticket, lx.ticket)))
      c.how)
      (λ neb.
      let less : z' ≤ z = times_le n _ _ (omega (arith, lb.write, lb.written)) in
      ⊎_elim
      (λ f. ok_le g s s' x t k n w (w + 1) z z' (omega (arith, f, more n w, less)) (Ahead-le g s s' i later t k) (old_delayed g s s' i later st x a b bx ba bb wx ua (was_reserved a ba ra) pa ta ub (was_reserved b bb rb) (was_begun b bb neb vb) tb n h))
      (λ y. absurd (neb (i.sole st b p bb y.here (was_reserved b bb rb) (was_begun b bb neb vb) (m.chosen p y.here refl).was y.begun)))
      (falls x bx ne (lx.waits wx) n (subst (λ (y : ℕ). n ≤ g.slots y) lx.part h)))
      (cases_eq b p) in
      omega (arith, new_ok g s s' i later x bx (waiting_unended _ wx) n (w + 1) z' o, ap (λ (v : ℕ). n * v) (waited_aged x bx ne (lx.waits wx))))
      (cases_eq x p)
    where
      ua : Unended (s'.tab a)
      ua = reserved_unended _ ra

      ub : Unended (s'.tab b)
      ub = reserved_unended _ rb

      lx : Later (s.tab x) (s'.tab x)
      lx = later x bx (waiting_unended _ wx)

      la : Later (s.tab a) (s'.tab a)
      la = later a ba ua

      lb : Later (s.tab b) (s'.tab b)
      lb = later b bb ub

      w : ℕ
      w = (s.tab x).waited

      t : ℕ
      t = (s.tab x).ticket

      k : ℕ
      k = (s.tab x).part

      z : ℕ
      z = n * ((s.tab b).write - (s.tab b).written)

      z' : ℕ
      z' = n * ((s'.tab b).write - (s'.tab b).written)

  -- a begun request has the lowest ticket of those waiting in its partition
  tick_first : (x y : ℕ) → x < g.places → y < g.places → Reserved (s'.tab x) → 0 < (s'.tab x).written → Waiting (s'.tab y) → (s'.tab x).part ≡ (s'.tab y).part → (s'.tab x).ticket ≤ (s'.tab y).ticket
  tick_first x y bx by rx vx wy e =
      let r = was_reserved x bx rx in
      let lx = later x bx (reserved_unended _ rx) in
      let ly = later y by (waiting_unended _ wy) in
      let w = ly.waits wy in
      let e' : (s.tab x).part ≡ (s.tab y).part = sym lx.part ∙ e ∙ ly.part in
      let low : (s.tab x).ticket ≤ (s.tab y).ticket = ⊎_elim
      (λ ex. ⊎_elim
      (λ half. i.first x y bx by r half.1 w e')
      (λ l. ⊎_elim (λ q. omega (arith, i.order y x by bx q (reserved_occupant _ r) (sym e'))) (λ ry. l.0 y by ry) (waiting_cases _ w))
      (m.chosen x bx ex).how)
      (λ ne. i.first x y bx by r (was_begun x bx ne vx) w e')
      (cases_eq x p) in
      omega (arith, low, lx.ticket, ly.ticket)

  -- none but the chosen one is begun, where the port stops for none
  chosen_sole : g.stops ≡ false → (x y : ℕ) → x < g.places → y < g.places → x ≡ p → (y ≡ p → ⊥) → Reserved (s'.tab y) → 0 < (s'.tab y).written → x ≡ y
  chosen_sole st x y bx by ex ney ry vy =
      let c = m.chosen x bx ex in
      ⊎_elim
      (λ half. i.sole st x y bx by c.was half.1 (was_reserved y by ry) (was_begun y by ney vy))
      (λ low. absurd (omega (arith, low.1 st y by (was_reserved y by ry), was_begun y by ney vy)))
      c.how

  tick_sole : g.stops ≡ false → (x y : ℕ) → x < g.places → y < g.places → Reserved (s'.tab x) → 0 < (s'.tab x).written → Reserved (s'.tab y) → 0 < (s'.tab y).written → x ≡ y
  tick_sole st x y bx by rx vx ry vy =
      ⊎_elim
      (λ ex. ⊎_elim (λ ey. ex ∙ sym ey) (λ ney. chosen_sole st x y bx by ex ney ry vy) (cases_eq y p))
      (λ nex. ⊎_elim
      (λ ey. sym (chosen_sole st y x by bx ey nex rx vx))
      (λ ney. i.sole st x y bx by (was_reserved x bx rx) (was_begun x bx nex vx) (was_reserved y by ry) (was_begun y by ney vy))
      (cases_eq y p))
      (cases_eq x p)

  -- who waits is bound by the inequality, and any other has waited no longer than before
  tick_few : (j : ℕ) → j < g.places → Held (s'.tab j) → (n : ℕ) → n ≤ g.slots (s'.tab j).part → n * (s'.tab j).waited ≤ limit g j (s'.tab j).part n
  tick_few j b =
      ⊎_elim
      (λ w _ n h. omega (arith, tick_waits j b w n h))
      (λ d. at (λ q. waiting_stage q.stage ≡ false → Held q → (n : ℕ) → n ≤ g.slots q.part → n * q.waited ≤ limit g j q.part n) j b
      (λ _ c _ _. i.few j b (unended_held _ (reserved_unended _ c.was)))
      (λ _ d' hd n h.
      let e : (s.tab j).waited + one (waiting_stage (s.tab j).stage) ≡ (s.tab j).waited = omega (arith, cond-false {A = ℕ} (waiting_stage (s.tab j).stage) 1 0 d') in
      omega (arith, i.few j b hd n h, ap (λ (v : ℕ). n * v) e)) d)
      (cases_Bool (waiting_stage (s'.tab j).stage))

  advance : Inv g s'
  advance = record {
    below = below' g s s' i later (omega (arith, m.next));
    apart = apart' g s s' i later;
    fits = fits' g s s' i later;
    slots = m.slots;
    order = λ x y bx by qx oy e.
        let lx = later x bx (queued_unended _ qx) in
        let ly = later y by (occupant_unended _ oy) in
        omega (arith, i.order x y bx by (lx.queues qx) (was_occupant y by oy) (sym lx.part ∙ e ∙ ly.part), lx.ticket, ly.ticket);
    counts = λ j b. at Counts j b (λ _ c. counts_fed (s.tab j) c.to c.was (i.counts j b) c.wrote) (λ _. counts_aged (s.tab j) (i.counts j b) (m.settled.going j b));
    first = tick_first;
    sole = tick_sole;
    waits = tick_waits;
    delayed = tick_delayed;
    few = tick_few;
  }

pub idle : (g : Given) (s s' : State) → Inv g s → Idle g s s' → Inv g s'
idle g s s' i m = advance g s s' i g.places (record {
  settled = m.settled;
  chosen = λ j b e. absurd (omega arith);
  none = λ _. m.none;
  rest = λ j b _. m.table j b;
  slots = λ k. omega (arith, i.slots k, m.line k, total_same g.places (λ j. occ k (s'.tab j)) (λ j. occ k (s.tab j)) (λ j b. ap (occ k) (m.table j b) ∙ occ_aged k (s.tab j)));
  next = m.next;
})

pub write : (g : Given) (s s' : State) → Inv g s → (p : ℕ) (σ : Stage) → Write g s p σ s' → Inv g s'
write g s s' i p σ m = advance g s s' i p (record {
  settled = m.settled;
  chosen = λ j b e. subst (λ (x : ℕ). Fed g s x s') (sym e) (record { to = σ; was = m.was; how = m.chosen; wrote = m.wrote; is = m.table.now });
  none = λ h. absurd (omega (arith, m.table.here));
  rest = m.table.rest;
  slots = λ k. omega (arith, i.slots k, m.line k, total_move g.places (λ j. occ k (s'.tab j)) (λ j. occ k (s.tab j)) p m.table.here (λ j b ne. ap (occ k) (m.table.rest j b ne) ∙ occ_aged k (s.tab j)));
  next = m.next;
})

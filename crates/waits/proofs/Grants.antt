-- A grant: the lowest queued ticket of a partition becomes reserved.
use Rattle.std.proofs.Common.{◌≡◌, ℕ, ◌+◌, ◌-◌, ◌*◌, ◌<◌, ◌≤◌, true, false, sym, refl, ap, ◌∙◌, subst, ⊎_elim, mul-add, arith}
use Rattle.std.proofs.lemmas.Bool.{cases_eq}
use Rattle.waits.specs.Table.{Stage, Rec, Given, State, Held, Queued, Reserved, Waiting, Occupant, Unended, queued_stage}
use Rattle.waits.specs.Table.Stage.{empty, queued, reserved, running, ended}
use Rattle.waits.specs.Moves.{staged, Grant}
use Rattle.waits.specs.Law.{ahead, Ahead, spent, limit, Inv, Counts}
use Rattle.waits.proofs.Totals.{total_less}
use Rattle.waits.proofs.Stages.{no_true, Later, later_same, later_grant, waiting_unended, reserved_unended, queued_unended, unended_held}
use Rattle.waits.proofs.Potential.{ahead_le, ahead_yes, ahead_not, occ_not, times_le}
use Rattle.waits.proofs.Onward.{change_at, Ok, Onward, below', apart', fits', slots', Phi-le, old_waits, new_ok, still_waits, still_delayed}

not_occupant : (σ : Stage) → queued_stage σ ≡ true → Rattle.waits.specs.Table.occupant_stage σ ≡ false
not_occupant empty e = refl
not_occupant queued e = refl
not_occupant reserved e = no_true e
not_occupant running e = no_true e
not_occupant ended e = refl

module _ (g : Given) (s s' : State) (i : Inv g s) (p : ℕ) (m : Grant g s p s') where
  later : Onward g s s'
  later j b = change_at m.table (λ q. Unended q → Later (s.tab j) q) j b
      (λ e _. subst (λ (x : ℕ). Later (s.tab x) (staged (s.tab p) reserved)) (sym e) (later_grant (s.tab p) m.was))
      (λ _ u. later_same (s.tab j) (s.tab j) refl u)

  waited : (j : ℕ) → j < g.places → (s'.tab j).waited ≡ (s.tab j).waited
  waited j b = change_at m.table (λ q. q.waited ≡ (s.tab j).waited) j b (λ e. ap (λ (x : ℕ). (s.tab x).waited) (sym e)) (λ _. refl)

  written : (j : ℕ) → j < g.places → (s'.tab j).written ≡ (s.tab j).written
  written j b = change_at m.table (λ q. q.written ≡ (s.tab j).written) j b (λ e. ap (λ (x : ℕ). (s.tab x).written) (sym e)) (λ _. refl)

  -- the one granted is not begun
  fresh : (s.tab p).written ≡ 0
  fresh = ((i.counts p m.table.here).queued m.was).0

  -- what is begun was reserved
  begun : (j : ℕ) → j < g.places → Reserved (s'.tab j) → 0 < (s'.tab j).written → Reserved (s.tab j)
  begun j b = change_at m.table (λ q. Reserved q → 0 < q.written → Reserved (s.tab j)) j b
      (λ _ _ v. absurd (omega (arith, fresh))) (λ _ r _. r)

  was_begun : (j : ℕ) → j < g.places → 0 < (s'.tab j).written → 0 < (s.tab j).written
  was_begun j b v = omega (arith, written j b)

  -- where the request granted was no younger than that at x, one fewer is ahead of it
  fewer : (x : ℕ) → (s.tab p).part ≡ (s.tab x).part → (s.tab p).ticket ≤ (s.tab x).ticket → Ahead g s' (s.tab x).ticket (s.tab x).part + 1 ≤ Ahead g s (s.tab x).ticket (s.tab x).part
  fewer x e h =
      let t = (s.tab x).ticket in
      let k = (s.tab x).part in
      let gone : ahead t k (s'.tab p) ≡ 0 = ap (ahead t k) m.table.now ∙ ahead_not t k (staged (s.tab p) reserved) refl in
      total_less g.places (λ j. ahead t k (s'.tab j)) (λ j. ahead t k (s.tab j)) p 1 m.table.here
      (λ j b. ahead_le t k (s.tab j) (s'.tab j) (later j b)) (omega (arith, gone, ahead_yes t k (s.tab p) m.was e h))

  -- a request b half written while that at x waits, older, is of another partition, and holds the port for m at most
  held_up : g.stops ≡ false → (x b : ℕ) → x < g.places → b < g.places → Waiting (s.tab x) → Reserved (s.tab b) → 0 < (s.tab b).written → (s.tab x).ticket < (s.tab b).ticket → (s.tab b).write - (s.tab b).written ≤ g.hold (s.tab x).part
  held_up st x b bx bb wx rb vb tb =
      let other : (s.tab b).part ≡ (s.tab x).part → ⊥ = λ e. omega (arith, i.first b x bb bx rb vb wx e) in
      omega (arith, (i.fits b bb (reserved_unended _ rb)).short st (s.tab x).part other)

  granted_delayed : g.stops ≡ false → (x a b : ℕ) → x < g.places → a < g.places → b < g.places → Waiting (s'.tab x)
      → Reserved (s'.tab a) → (s'.tab a).part ≡ (s'.tab x).part → (s'.tab a).ticket ≤ (s'.tab x).ticket
      → Reserved (s'.tab b) → 0 < (s'.tab b).written → (s'.tab x).ticket < (s'.tab b).ticket
      → (n : ℕ) → n ≤ g.slots (s'.tab x).part → spent g s' (s'.tab x) n + n * ((s'.tab b).write - (s'.tab b).written) ≤ limit g x (s'.tab x).part n
  granted_delayed st x a b bx ba bb wx ra pa ta rb vb tb n h =
      ⊎_elim
      (λ e.
      let ep : s'.tab a ≡ staged (s.tab p) reserved = ap s'.tab e ∙ m.table.now in
      let part : (s.tab p).part ≡ (s.tab x).part = sym (ap (λ (q : Rec). q.part) ep) ∙ pa ∙ lx.part in
      let tick : (s.tab p).ticket ≤ (s.tab x).ticket = omega (arith, ap (λ (q : Rec). q.ticket) ep, lx.ticket) in
      let k = (s.tab x).part in
      let t = (s.tab x).ticket in
      let w = (s.tab x).waited in
      let hold = g.hold k in
      let z' = n * ((s'.tab b).write - (s'.tab b).written) in
      let zz : z' ≤ n * hold = times_le n _ _ (omega (arith, lb.write, lb.written, held_up st x b bx bb (lx.waits wx) (begun b bb rb vb) (was_begun b bb vb) (omega (arith, lx.ticket, lb.ticket)))) in
      let c = times_le n _ _ (times_le hold _ _ (fewer x part tick)) in
      let d = ap (λ (y : ℕ). n * y) (mul-add hold (Ahead g s' t k) 1) ∙ mul-add n (hold * Ahead g s' t k) (hold * 1) in
      let one : n * hold ≤ n * (hold * 1) = times_le n _ _ (omega arith) in
      let o : Ok g s' x w t k n z' = omega (arith, old_waits g s s' i later x bx wx n h, Phi-le g s s' i later t k n, c, d, zz, one) in
      omega (arith, new_ok g s s' i later x bx (waiting_unended _ wx) n w z' o, ap (λ (v : ℕ). n * v) (waited x bx)))
      (λ ne. still_delayed g s s' i later st x a b bx ba bb wx (waited x bx) (reserved_unended _ ra) (subst Reserved (m.table.rest a ba ne) ra) pa ta (reserved_unended _ rb) (begun b bb rb vb) (was_begun b bb vb) tb n h)
      (cases_eq a p)
    where
      lx : Later (s.tab x) (s'.tab x)
      lx = later x bx (waiting_unended _ wx)

      lb : Later (s.tab b) (s'.tab b)
      lb = later b bb (reserved_unended _ rb)

  -- an occupant was one before, or is the one granted
  granted_order : (x y : ℕ) → x < g.places → y < g.places → Queued (s'.tab x) → Occupant (s'.tab y) → (s'.tab x).part ≡ (s'.tab y).part → (s'.tab y).ticket < (s'.tab x).ticket
  granted_order x y bx by qx oy e =
      ⊎_elim
      (λ ey.
      let ep : s'.tab y ≡ staged (s.tab p) reserved = ap s'.tab ey ∙ m.table.now in
      let part : (s.tab x).part ≡ (s.tab p).part = sym lx.part ∙ e ∙ ap (λ (q : Rec). q.part) ep in
      let low : (s.tab p).ticket ≤ (s.tab x).ticket = m.lowest x bx (lx.queues qx) part in
      let apart : (s.tab p).ticket ≡ (s.tab x).ticket → ⊥ = λ et. gone (i.apart p x m.table.here bx (queued_unended _ m.was) lx.alive et) in
      omega (arith, ap (λ (q : Rec). q.ticket) ep, lx.ticket, low, apart))
      (λ ne.
      let ep = m.table.rest y by ne in
      omega (arith, i.order x y bx by (lx.queues qx) (subst Occupant ep oy) (sym lx.part ∙ e ∙ ap (λ (q : Rec). q.part) ep), ap (λ (q : Rec). q.ticket) ep, lx.ticket))
      (cases_eq y p)
    where
      lx : Later (s.tab x) (s'.tab x)
      lx = later x bx (queued_unended _ qx)

      gone : p ≡ x → ⊥
      gone ex = no_true (sym (ap (λ (q : Rec). queued_stage q.stage) (ap s'.tab (sym ex) ∙ m.table.now)) ∙ qx)

  pub grant : Inv g s'
  grant = record {
    below = below' g s s' i later (omega (arith, m.next));
    apart = apart' g s s' i later;
    fits = fits' g s s' i later;
    slots = λ k. slots' g s s' i p _ m.table k (omega (arith, m.line k, occ_not k (s.tab p) (not_occupant _ m.was)));
    order = granted_order;
    counts = λ j b. change_at m.table Counts j b
        (λ _. record { capped = λ _. (i.counts p m.table.here).capped (unended_held _ (queued_unended _ m.was)); queued = no_true; reserved = λ _. (omega (arith, fresh, (i.fits p m.table.here (queued_unended _ m.was)).some), ((i.counts p m.table.here).queued m.was).1); running = no_true })
        (λ _. i.counts j b);
    first = λ x y bx by rx vx wy e.
        let lx = later x bx (reserved_unended _ rx) in
        let ly = later y by (waiting_unended _ wy) in
        omega (arith, i.first x y bx by (begun x bx rx vx) (was_begun x bx vx) (ly.waits wy) (sym lx.part ∙ e ∙ ly.part), lx.ticket, ly.ticket);
    sole = λ st x y bx by rx vx ry vy. i.sole st x y bx by (begun x bx rx vx) (was_begun x bx vx) (begun y by ry vy) (was_begun y by vy);
    waits = λ x b w. still_waits g s s' i later x b w (waited x b);
    delayed = granted_delayed;
    few = λ j b. change_at m.table (λ q. Held q → (n : ℕ) → n ≤ g.slots q.part → n * q.waited ≤ limit g j q.part n) j b
        (λ e _. subst (λ (y : ℕ). (n : ℕ) → n ≤ g.slots (s.tab p).part → n * (s.tab p).waited ≤ limit g y (s.tab p).part n) (sym e) (i.few p m.table.here (unended_held _ (queued_unended _ m.was))))
        (λ _. i.few j b);
  }

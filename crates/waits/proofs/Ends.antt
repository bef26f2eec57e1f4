-- A request ends, or an ended one is collected: a record that is not unended comes to stand at one place.
use Rattle.std.proofs.Common.{◌≡◌, ℕ, ◌+◌, ◌*◌, ◌<◌, ◌≤◌, true, false, sym, refl, ap, ◌∙◌, subst, arith}
use Rattle.std.proofs.lemmas.Bool.{both_ways}
use Rattle.waits.specs.Table.{Stage, Rec, Given, State, Held, Queued, Reserved, Occupant, Unended, held_stage, occupant_stage, unended_stage, occ}
use Rattle.waits.specs.Table.Stage.{empty, queued, reserved, running, ended}
use Rattle.waits.specs.Moves.{Changed, same, staged, Finish, Clear}
use Rattle.waits.specs.Law.{limit, Inv, Counts}
use Rattle.waits.proofs.Stages.{no_true, later_same, waiting_unended, reserved_unended, queued_unended, occupant_unended, running_unended, unended_held}
use Rattle.waits.proofs.Potential.{occ_not}
use Rattle.waits.proofs.Onward.{change_at, Onward, below', apart', fits', slots', still_waits, still_delayed}

pub dead_occ : (σ : Stage) → unended_stage σ ≡ false → occupant_stage σ ≡ false
dead_occ empty e = refl
dead_occ queued e = absurd (both_ways true e refl)
dead_occ reserved e = absurd (both_ways true e refl)
dead_occ running e = absurd (both_ways true e refl)
dead_occ ended e = refl

module _ (g : Given) (s s' : State) (i : Inv g s) (p : ℕ) (q' : Rec) (c : Changed g.places same s.tab p q' s'.tab) (dead : unended_stage q'.stage ≡ false) where
  stays : (j : ℕ) → j < g.places → Unended (s'.tab j) → s'.tab j ≡ s.tab j
  stays j b = change_at c (λ q. Unended q → q ≡ s.tab j) j b (λ _ u. absurd (both_ways _ dead u)) (λ _ _. refl)

  later : Onward g s s'
  later j b u = later_same (s.tab j) (s'.tab j) (stays j b u) u

  ends : ((k : ℕ) → s'.line k ≡ s.line k + occ k (s.tab p)) → s'.next ≡ s.next
      → (Held q' → (q'.written ≤ q'.write) × (q'.ran ≤ q'.run))
      → (Held q' → (n : ℕ) → n ≤ g.slots q'.part → n * q'.waited ≤ limit g p q'.part n) → Inv g s'
  ends line next capped few = record {
    below = below' g s s' i later (omega arith);
    apart = apart' g s s' i later;
    fits = fits' g s s' i later;
    slots = λ k. slots' g s s' i p q' c k (omega (arith, line k, ap (occ k) c.now, occ_not k q' (dead_occ _ dead)));
    order = λ x y bx by qx oy e.
        let ex = stays x bx (queued_unended _ qx) in
        let ey = stays y by (occupant_unended _ oy) in
        let lx = later x bx (queued_unended _ qx) in
        let ly = later y by (occupant_unended _ oy) in
        omega (arith, i.order x y bx by (subst Queued ex qx) (subst Occupant ey oy) (sym lx.part ∙ e ∙ ly.part), lx.ticket, ly.ticket);
    counts = λ j b. change_at c Counts j b
        (λ _. record { capped = capped; queued = λ e. absurd (both_ways _ dead (queued_unended _ e)); reserved = λ e. absurd (both_ways _ dead (reserved_unended _ e)); running = λ e. absurd (both_ways _ dead (running_unended _ e)) })
        (λ _. i.counts j b);
    first = λ x y bx by rx vx wy e.
        let ex = stays x bx (reserved_unended _ rx) in
        let lx = later x bx (reserved_unended _ rx) in
        let ly = later y by (waiting_unended _ wy) in
        omega (arith, i.first x y bx by (subst Reserved ex rx) (subst (λ (q : Rec). 0 < q.written) ex vx) (ly.waits wy) (sym lx.part ∙ e ∙ ly.part), lx.ticket, ly.ticket);
    sole = λ st x y bx by rx vx ry vy.
        let ex = stays x bx (reserved_unended _ rx) in
        let ey = stays y by (reserved_unended _ ry) in
        i.sole st x y bx by (subst Reserved ex rx) (subst (λ (q : Rec). 0 < q.written) ex vx) (subst Reserved ey ry) (subst (λ (q : Rec). 0 < q.written) ey vy);
    waits = λ x b w. still_waits g s s' i later x b w (ap (λ (q : Rec). q.waited) (stays x b (waiting_unended _ w)));
    delayed = λ st x a b bx ba bb wx ra pa ta rb vb tb.
        let ua = reserved_unended _ ra in
        let ub = reserved_unended _ rb in
        still_delayed g s s' i later st x a b bx ba bb wx (ap (λ (q : Rec). q.waited) (stays x bx (waiting_unended _ wx))) ua (subst Reserved (stays a ba ua) ra) pa ta ub (subst Reserved (stays b bb ub) rb) (subst (λ (q : Rec). 0 < q.written) (stays b bb ub) vb) tb;
    few = λ j b. change_at c (λ q. Held q → (n : ℕ) → n ≤ g.slots q.part → n * q.waited ≤ limit g j q.part n) j b
        (λ e. subst (λ (y : ℕ). Held q' → (n : ℕ) → n ≤ g.slots q'.part → n * q'.waited ≤ limit g y q'.part n) (sym e) few) (λ _. i.few j b);
  }

pub finish : (g : Given) (s s' : State) → Inv g s → (p : ℕ) → Finish g s p s' → Inv g s'
finish g s s' i p f =
    ends g s s' i p (staged (s.tab p) ended) f.table refl f.line f.next (λ _. (i.counts p f.table.here).capped (unended_held _ f.was)) (λ _ n h. i.few p f.table.here (unended_held _ f.was) n h)

pub clear : (g : Given) (s s' : State) → Inv g s → (p : ℕ) (q' : Rec) → Clear g s p q' s' → Inv g s'
clear g s s' i p q' f =
    ends g s s' i p q' f.table (ap unended_stage f.blank)
    (λ k. omega (arith, f.line k, occ_not k (s.tab p) (dead_occ _ f.was))) f.next
    (λ h. no_true (sym (ap held_stage f.blank) ∙ h)) (λ h. no_true (sym (ap held_stage f.blank) ∙ h))

-- A request is accepted: a new queued record, with a ticket above all others.
use Rattle.std.proofs.Common.{◌≡◌, ℕ, ◌+◌, ◌-◌, ◌*◌, ◌<◌, ◌≤◌, cond, eqb, sym, refl, ap, ◌∙◌, subst, ⊎_elim, mul-zero, arith}
use Rattle.std.proofs.lemmas.Bool.{cases_eq, cases_Bool, cond-false, ne_eqb}
use Rattle.waits.specs.Table.{Rec, Given, State, Fits, Held, Queued, Reserved, Waiting, Occupant, Unended, unended_stage, occ}
use Rattle.waits.specs.Moves.{new, Accept}
use Rattle.waits.specs.Law.{phi, ahead, Phi, Ahead, spent, limit, others, tasks, Inv, Counts}
use Rattle.waits.proofs.Totals.{total_le}
use Rattle.waits.proofs.Stages.{no_true, waiting_unended, reserved_unended, queued_unended, occupant_unended}
use Rattle.waits.proofs.Potential.{phi_young, phi_dead, phi_weight, ahead_young, ahead_uses, occ_not, times_le}
use Rattle.waits.proofs.Onward.{change_at, Ok, ok_le, slots'}
use Rattle.waits.proofs.Ends.{dead_occ}

module _ (g : Given) (s s' : State) (i : Inv g s) (p k₀ w₀ r₀ : ℕ) (m : Accept g s p k₀ w₀ r₀ s') where
  abbrev it : Rec
  it = new s.next k₀ w₀ r₀

  -- what holds of the new record, and held of the others, holds of all
  at : (P : ℕ → Rec → Type 0) (j : ℕ) → j < g.places → P p it → ((j ≡ p → ⊥) → P j (s.tab j)) → P j (s'.tab j)
  at P j b here other = change_at m.table (P j) j b (λ e. subst (λ (x : ℕ). P x it) (sym e) here) other

  fits_all : (j : ℕ) → j < g.places → Unended (s'.tab j) → Fits g j (s'.tab j)
  fits_all j b = at (λ x q. Unended q → Fits g x q) j b (λ _. m.fits) (λ _. i.fits j b)

  -- whoever is reserved was there before
  old : (j : ℕ) → j < g.places → Occupant (s'.tab j) → s'.tab j ≡ s.tab j
  old j b = change_at m.table (λ q. Occupant q → q ≡ s.tab j) j b (λ _ o. no_true o) (λ _ _. refl)

  old_reserved : (j : ℕ) → j < g.places → Reserved (s'.tab j) → s'.tab j ≡ s.tab j
  old_reserved j b = change_at m.table (λ q. Reserved q → q ≡ s.tab j) j b (λ _ o. no_true o) (λ _ _. refl)

  -- an older request sees no difference
  Phi-same : (t k n : ℕ) → t ≤ s.next → Phi g s' t k n ≤ Phi g s t k n
  Phi-same t k n h =
      total_le g.places _ _ (λ j b. change_at m.table (λ q. phi t k n q ≤ phi t k n (s.tab j)) j b (λ _. omega (arith, phi_young t k n it h)) (λ _. omega arith))

  Ahead-same : (t k : ℕ) → t < s.next → Ahead g s' t k ≤ Ahead g s t k
  Ahead-same t k h =
      total_le g.places _ _ (λ j b. change_at m.table (λ q. ahead t k q ≤ ahead t k (s.tab j)) j b (λ _. omega (arith, ahead_young t k it h)) (λ _. omega arith))

  -- the new request has the heaviest of the other tasks before it at most
  Phi-new : (k n : ℕ) → Phi g s' s.next k n ≤ others g p k n
  Phi-new k n =
      total_le g.places _ _ (λ j b. ⊎_elim
      (λ e. omega (arith, ap (λ (x : ℕ). phi s.next k n (s'.tab x)) e, ap (phi s.next k n) m.table.now, phi_young s.next k n it (omega arith)))
      (λ ne.
      let c : cond (eqb j p) 0 (g.heaviest k n j) ≡ g.heaviest k n j = cond-false (eqb j p) 0 (g.heaviest k n j) (ne_eqb j p ne) in
      ⊎_elim
      (λ u. omega (arith, c, phi_weight s.next k n (s'.tab j), (fits_all j b u).weight k n))
      (λ d. omega (arith, phi_dead s.next k n (s'.tab j) d))
      (cases_Bool (unended_stage (s'.tab j).stage)))
      (cases_eq j p))

  Ahead-new : (t k : ℕ) → Ahead g s' t k ≤ tasks g k
  Ahead-new t k = total_le g.places _ _ (λ j b. ahead_uses g t k j (s'.tab j) (λ q. fits_all j b (queued_unended _ q)))

  new_waits : (n : ℕ) → spent g s' it n ≤ limit g p k₀ n
  new_waits n =
      omega (arith, mul-zero n, Phi-new k₀ n, times_le n _ _ (times_le (g.hold k₀) _ _ (Ahead-new s.next k₀)))

  old_ok : (x n w z : ℕ) → (s.tab x).ticket < s.next → Ok g s x w (s.tab x).ticket (s.tab x).part n z → Ok g s' x w (s.tab x).ticket (s.tab x).part n z
  old_ok x n w z h o =
      ok_le g s s' x _ _ n w w z z (omega (arith, Phi-same (s.tab x).ticket (s.tab x).part n (omega arith))) (Ahead-same (s.tab x).ticket (s.tab x).part h) o

  pub accept : Inv g s'
  accept = record {
    below = λ j b. at (λ _ q. Unended q → q.ticket < s'.next) j b (λ _. m.next) (λ _ u. omega (arith, i.below j b u, m.next));
    apart = λ x y bx by.
        at (λ x' q. Unended q → Unended (s'.tab y) → q.ticket ≡ (s'.tab y).ticket → x' ≡ y) x bx
        (λ _. at (λ y' q. Unended q → s.next ≡ q.ticket → p ≡ y') y by (λ _ _. refl) (λ _ u e. absurd (omega (arith, i.below y by u))))
        (λ _ ux. at (λ y' q. Unended q → (s.tab x).ticket ≡ q.ticket → x ≡ y') y by (λ _ e. absurd (omega (arith, i.below x bx ux))) (λ _ uy e. i.apart x y bx by ux uy e));
    fits = fits_all;
    slots = λ k. slots' g s s' i p it m.table k (omega (arith, m.line k, ap (occ k) m.table.now, occ_not k it refl, occ_not k (s.tab p) (dead_occ _ m.free)));
    order = λ x y bx by qx oy.
        let e = old y by oy in
        let o = subst Occupant e oy in
        subst (λ (q : Rec). (s'.tab x).part ≡ q.part → q.ticket < (s'.tab x).ticket) (sym e)
        (at (λ _ q. Queued q → q.part ≡ (s.tab y).part → (s.tab y).ticket < q.ticket) x bx (λ _ _. i.below y by (occupant_unended _ o)) (λ _ q. i.order x y bx by q o) qx);
    counts = λ j b. at (λ _ q. Counts q) j b (record { capped = λ _. (omega arith, omega arith); queued = λ _. (refl, refl); reserved = no_true; running = no_true }) (λ _. i.counts j b);
    first = λ x y bx by rx vx wy.
        let e = old_reserved x bx rx in
        let r = subst Reserved e rx in
        let v = subst (λ (q : Rec). 0 < q.written) e vx in
        subst (λ (q : Rec). q.part ≡ (s'.tab y).part → q.ticket ≤ (s'.tab y).ticket) (sym e)
        (at (λ _ q. Waiting q → (s.tab x).part ≡ q.part → (s.tab x).ticket ≤ q.ticket) y by (λ _ _. omega (arith, i.below x bx (reserved_unended _ r))) (λ _ w. i.first x y bx by r v w) wy);
    sole = λ st x y bx by rx vx ry vy.
        let ex = old_reserved x bx rx in
        let ey = old_reserved y by ry in
        i.sole st x y bx by (subst Reserved ex rx) (subst (λ (q : Rec). 0 < q.written) ex vx) (subst Reserved ey ry) (subst (λ (q : Rec). 0 < q.written) ey vy);
    waits = λ x b. at (λ x' q. Waiting q → (n : ℕ) → n ≤ g.slots q.part → spent g s' q n ≤ limit g x' q.part n) x b
        (λ _ n _. new_waits n)
        (λ _ w n h. omega (arith, old_ok x n (s.tab x).waited 0 (i.below x b (waiting_unended _ w)) (omega (arith, i.waits x b w n h))));
    delayed = λ st x a b bx ba bb wx ra pa ta rb vb tb.
        let ea = old_reserved a ba ra in
        let eb = old_reserved b bb rb in
        let r = subst Reserved ea ra in
        let r' = subst Reserved eb rb in
        let v' = subst (λ (q : Rec). 0 < q.written) eb vb in
        subst (λ (q : Rec). (n : ℕ) → n ≤ g.slots (s'.tab x).part → spent g s' (s'.tab x) n + n * (q.write - q.written) ≤ limit g x (s'.tab x).part n) (sym eb)
        (at (λ x' q. Waiting q → (s.tab a).part ≡ q.part → (s.tab a).ticket ≤ q.ticket → q.ticket < (s.tab b).ticket → (n : ℕ) → n ≤ g.slots q.part → spent g s' q n + n * ((s.tab b).write - (s.tab b).written) ≤ limit g x' q.part n) x bx
        (λ _ _ _ t. absurd (omega (arith, i.below b bb (reserved_unended _ r'))))
        (λ _ w e t t' n h. old_ok x n (s.tab x).waited _ (i.below x bx (waiting_unended _ w)) (i.delayed st x a b bx ba bb w r e t r' v' t' n h))
        wx (sym (ap (λ (q : Rec). q.part) ea) ∙ pa) (omega (arith, ap (λ (q : Rec). q.ticket) ea)) (omega (arith, ap (λ (q : Rec). q.ticket) eb)));
    few = λ j b. at (λ x q. Held q → (n : ℕ) → n ≤ g.slots q.part → n * q.waited ≤ limit g x q.part n) j b
        (λ _ n _. omega (arith, mul-zero n)) (λ _. i.few j b);
  }

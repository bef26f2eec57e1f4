-- What holds after any move that takes no new request in: each unended record was there before, and only grew.
use Rattle.std.proofs.Common.{◌≡◌, ℕ, ◌+◌, ◌-◌, ◌*◌, ◌<◌, ◌≤◌, false, cond, eqb, sym, ap, ◌∙◌, subst, subst₂, ⊎_elim, arith}
use Rattle.std.proofs.lemmas.Bool.{cases_eq}
use Rattle.waits.specs.Total.{total}
use Rattle.waits.specs.Table.{Rec, Given, State, Fits, Reserved, Waiting, Unended, occ}
use Rattle.waits.specs.Moves.{Changed, same}
use Rattle.waits.specs.Law.{Phi, Ahead, limit, spent, Inv}
use Rattle.waits.proofs.Totals.{total_le, total_move}
use Rattle.waits.proofs.Stages.{Later, waiting_unended}
use Rattle.waits.proofs.Potential.{phi_le, ahead_le, times_le}

pub change_at : {n : ℕ} {f : Rec → Rec} {tab : ℕ → Rec} {p : ℕ} {q' : Rec} {tab' : ℕ → Rec} → Changed n f tab p q' tab' → (P : Rec → Type 0) (j : ℕ) → j < n → (j ≡ p → P q') → ((j ≡ p → ⊥) → P (f (tab j))) → P (tab' j)
change_at {p} {tab'} c P j b here other =
    ⊎_elim (λ e. subst P (sym (ap tab' e ∙ c.now)) (here e)) (λ ne. subst P (sym (c.rest j b ne)) (other ne)) (cases_eq j p)

-- the inequality of a request at place x that has waited w, with ticket t in partition k and z over
abbrev pub Ok : Given → State → ℕ → ℕ → ℕ → ℕ → ℕ → ℕ → Type 0
Ok g s x w t k n z = n * w + Phi g s t k n + n * (g.hold k * Ahead g s t k) + z ≤ limit g x k n

abbrev pub Onward : Given → State → State → Type 0
Onward g s s' = (j : ℕ) → j < g.places → Unended (s'.tab j) → Later (s.tab j) (s'.tab j)

pub ok_le : (g : Given) (s s' : State) (x t k n w w' z z' : ℕ) → Phi g s' t k n + n * w' + z' ≤ Phi g s t k n + n * w + z → Ahead g s' t k ≤ Ahead g s t k → Ok g s x w t k n z → Ok g s' x w' t k n z'
ok_le g s s' x t k n w w' z z' h a o = omega (arith, h, o, times_le n _ _ (times_le (g.hold k) _ _ a))

fits_later : (g : Given) (j : ℕ) (q q' : Rec) → Later q q' → Fits g j q → Fits g j q'
fits_later g j q q' l f = record {
  some = omega (arith, f.some, l.write);
  weight = λ k n.
      let e : n * q'.write + cond (eqb q'.part k) q'.run 0 ≡ n * q.write + cond (eqb q.part k) q.run 0 = cc in
      omega (arith, e, f.weight k n);
  counted = subst (λ (x : ℕ). 1 ≤ g.uses x j) (sym l.part) f.counted;
  short = λ st k ne. omega (arith, f.short st k (λ e. ne (l.part ∙ e)), l.write);
}

module _ (g : Given) (s s' : State) (i : Inv g s) (later : Onward g s s') where
  pub below' : s.next ≤ s'.next → (j : ℕ) → j < g.places → Unended (s'.tab j) → (s'.tab j).ticket < s'.next
  below' h j b u = omega (arith, i.below j b (later j b u).alive, (later j b u).ticket)

  pub apart' : (x y : ℕ) → x < g.places → y < g.places → Unended (s'.tab x) → Unended (s'.tab y) → (s'.tab x).ticket ≡ (s'.tab y).ticket → x ≡ y
  apart' x y bx by ux uy e =
      i.apart x y bx by (later x bx ux).alive (later y by uy).alive (sym (later x bx ux).ticket ∙ e ∙ (later y by uy).ticket)

  pub fits' : (j : ℕ) → j < g.places → Unended (s'.tab j) → Fits g j (s'.tab j)
  fits' j b u = fits_later g j (s.tab j) (s'.tab j) (later j b u) (i.fits j b (later j b u).alive)

  pub Phi-le : (t k n : ℕ) → Phi g s' t k n ≤ Phi g s t k n
  Phi-le t k n = total_le g.places _ _ (λ j b. phi_le t k n (s.tab j) (s'.tab j) (later j b))

  pub Ahead-le : (t k : ℕ) → Ahead g s' t k ≤ Ahead g s t k
  Ahead-le t k = total_le g.places _ _ (λ j b. ahead_le t k (s.tab j) (s'.tab j) (later j b))

  -- the inequalities before, from what is known after
  pub old_waits : (x : ℕ) (b : x < g.places) → Waiting (s'.tab x) → (n : ℕ) → n ≤ g.slots (s'.tab x).part → Ok g s x (s.tab x).waited (s.tab x).ticket (s.tab x).part n 0
  old_waits x b w n h =
      let l = later x b (waiting_unended _ w) in
      omega (arith, i.waits x b (l.waits w) n (subst (λ (k : ℕ). n ≤ g.slots k) l.part h))

  pub old_delayed : g.stops ≡ false → (x a b : ℕ) → x < g.places → a < g.places → b < g.places → Waiting (s'.tab x)
      → Unended (s'.tab a) → Reserved (s.tab a) → (s'.tab a).part ≡ (s'.tab x).part → (s'.tab a).ticket ≤ (s'.tab x).ticket
      → Unended (s'.tab b) → Reserved (s.tab b) → 0 < (s.tab b).written → (s'.tab x).ticket < (s'.tab b).ticket
      → (n : ℕ) → n ≤ g.slots (s'.tab x).part → Ok g s x (s.tab x).waited (s.tab x).ticket (s.tab x).part n (n * ((s.tab b).write - (s.tab b).written))
  old_delayed st x a b bx ba bb wx ua ra pa ta ub rb vb tb n h =
      let lx = later x bx (waiting_unended _ wx) in
      let la = later a ba ua in
      let lb = later b bb ub in
      i.delayed st x a b bx ba bb (lx.waits wx) ra (sym la.part ∙ pa ∙ lx.part) (omega (arith, lx.ticket, la.ticket)) rb vb (omega (arith, lx.ticket, lb.ticket)) n (subst (λ (k : ℕ). n ≤ g.slots k) lx.part h)

  -- and the inequalities after
  pub new_ok : (x : ℕ) → x < g.places → Unended (s'.tab x) → (n w z : ℕ) → Ok g s' x w (s.tab x).ticket (s.tab x).part n z → Ok g s' x w (s'.tab x).ticket (s'.tab x).part n z
  new_ok x b u n w z o =
      subst₂ (λ (t k : ℕ). Ok g s' x w t k n z) (sym (later x b u).ticket) (sym (later x b u).part) o

  -- where the count of waited ticks stays, the inequalities do
  pub still_waits : (x : ℕ) → x < g.places → Waiting (s'.tab x) → (s'.tab x).waited ≡ (s.tab x).waited → (n : ℕ) → n ≤ g.slots (s'.tab x).part → spent g s' (s'.tab x) n ≤ limit g x (s'.tab x).part n
  still_waits x b w e n h =
      let t = (s.tab x).ticket in
      let k = (s.tab x).part in
      let o = ok_le g s s' x t k n (s.tab x).waited (s.tab x).waited 0 0 (omega (arith, Phi-le t k n)) (Ahead-le t k) (old_waits x b w n h) in
      omega (arith, new_ok x b (waiting_unended _ w) n (s.tab x).waited 0 o, ap (λ (v : ℕ). n * v) e)

  pub still_delayed : g.stops ≡ false → (x a b : ℕ) → x < g.places → a < g.places → b < g.places → Waiting (s'.tab x) → (s'.tab x).waited ≡ (s.tab x).waited
      → Unended (s'.tab a) → Reserved (s.tab a) → (s'.tab a).part ≡ (s'.tab x).part → (s'.tab a).ticket ≤ (s'.tab x).ticket
      → Unended (s'.tab b) → Reserved (s.tab b) → 0 < (s.tab b).written → (s'.tab x).ticket < (s'.tab b).ticket
      → (n : ℕ) → n ≤ g.slots (s'.tab x).part → spent g s' (s'.tab x) n + n * ((s'.tab b).write - (s'.tab b).written) ≤ limit g x (s'.tab x).part n
  still_delayed st x a b bx ba bb wx e ua ra pa ta ub rb vb tb n h =
      let t = (s.tab x).ticket in
      let k = (s.tab x).part in
      let w = (s.tab x).waited in
      let z = n * ((s.tab b).write - (s.tab b).written) in
      let z' = n * ((s'.tab b).write - (s'.tab b).written) in
      let lb = later b bb ub in
      let zz : z' ≤ z = times_le n _ _ (omega (arith, lb.write, lb.written)) in
      let o = ok_le g s s' x t k n w w z z' (omega (arith, Phi-le t k n, zz)) (Ahead-le t k) (old_delayed st x a b bx ba bb wx ua ra pa ta ub rb vb tb n h) in
      omega (arith, new_ok x bx (waiting_unended _ wx) n w z' o, ap (λ (v : ℕ). n * v) e)

-- one place changed, the line by as much
pub slots' : (g : Given) (s s' : State) → Inv g s → (p : ℕ) (q' : Rec) → Changed g.places same s.tab p q' s'.tab → (k : ℕ) → s'.line k + occ k (s'.tab p) ≡ s.line k + occ k (s.tab p) → s'.line k + total g.places (λ j. occ k (s'.tab j)) ≡ g.slots k
slots' g s s' i p q' c k l =
    omega (arith, i.slots k, l, total_move g.places (λ j. occ k (s'.tab j)) (λ j. occ k (s.tab j)) p c.here (λ j b ne. ap (occ k) (c.rest j b ne)))

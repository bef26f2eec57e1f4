-- The invariants give the inequality with the whole potential, the half written request in it.
use Rattle.std.proofs.Common.{◌≡◌, ℕ, ◌+◌, ◌-◌, ◌*◌, ◌<◌, ◌≤◌, false, cond, ◌&&◌, eqb, ltb, leb, ◌⊎◌, ap, ◌∙◌, inl, inr, ⊎_elim, mul-add, arith}
use Rattle.std.proofs.lemmas.Bool.{cases_Bool, cond-true, cond-false, ltb-true, ltb-false, and_parts, eqb-true, leb-true}
use Rattle.waits.specs.Total.{total}
use Rattle.waits.specs.Table.{Rec, Given, State, Reserved, Waiting, one, reserved_stage}
use Rattle.waits.specs.Law.{Phi, Ahead, Psi, rival, left, hold_up, limit, spent, others, tasks, Inv}
use Rattle.waits.proofs.Totals.{total_le, total_zero, total_move, some_or_none}
use Rattle.waits.proofs.Potential.{times_le}

-- a sum above 0 has a place above 0
some_place : (n : ℕ) (f : ℕ → ℕ) → 0 < total n f → (j : ℕ) × (j < n) × (0 < f j)
some_place n f h =
    ⊎_elim (λ x. (x.0, x.1, ltb-true 0 (f x.0) x.2))
    (λ z. absurd (omega (arith, total_zero n, total_le n f (λ j. 0) (λ j b. ltb-false 0 (f j) (z j b)))))
    (some_or_none n (λ j. ltb 0 (f j)))

rival_parts : (t k : ℕ) (q : Rec) → 0 < one (rival t k q) → (Reserved q) × (q.part ≡ k) × (q.ticket ≤ t)
unfolding rival
rival_parts t k q h =
    ⊎_elim
    (λ e. let a = and_parts (reserved_stage q.stage) (eqb q.part k && leb q.ticket t) e in let b = and_parts (eqb q.part k) (leb q.ticket t) a.1 in (a.0, eqb-true _ _ b.0, leb-true _ _ b.1))
    (λ e. absurd (omega (arith, cond-false {A = ℕ} (reserved_stage q.stage && (eqb q.part k && leb q.ticket t)) 1 0 e)))
    (cases_Bool (reserved_stage q.stage && (eqb q.part k && leb q.ticket t)))

left_cases : (t : ℕ) (q : Rec) → (left t q ≡ 0) ⊎ ((Reserved q) × (0 < q.written) × (t < q.ticket) × (left t q ≡ q.write - q.written))
unfolding left
left_cases t q =
    ⊎_elim
    (λ r. ⊎_elim
    (λ v. ⊎_elim
    (λ y. inr (r, ltb-true _ _ v, ltb-true _ _ y, cond-true (reserved_stage q.stage) _ 0 r ∙ cond-true (ltb 0 q.written) _ 0 v ∙ cond-true (ltb t q.ticket) _ 0 y))
    (λ y. inl (cond-true (reserved_stage q.stage) _ 0 r ∙ cond-true (ltb 0 q.written) _ 0 v ∙ cond-false (ltb t q.ticket) _ 0 y))
    (cases_Bool (ltb t q.ticket)))
    (λ v. inl (cond-true (reserved_stage q.stage) _ 0 r ∙ cond-false (ltb 0 q.written) _ 0 v))
    (cases_Bool (ltb 0 q.written)))
    (λ r. inl (cond-false (reserved_stage q.stage) _ 0 r))
    (cases_Bool (reserved_stage q.stage))

module _ (g : Given) (s : State) (v : Inv g s) (i : ℕ) (bi : i < g.places) (w : Waiting (s.tab i)) (n : ℕ) (h : n ≤ g.slots (s.tab i).part) where
  -- the one that is half written makes up the sum
  all_left : g.stops ≡ false → (b : ℕ) → b < g.places → Reserved (s.tab b) → 0 < (s.tab b).written → total g.places (λ j. left (s.tab i).ticket (s.tab j)) ≡ left (s.tab i).ticket (s.tab b)
  all_left st b bb rb vb =
      omega (
        arith,
        total_zero g.places,
        total_move g.places (λ j. left (s.tab i).ticket (s.tab j)) (λ j. 0) b bb
            (λ j bj ne. ⊎_elim (λ z. z) (λ y. absurd (ne (v.sole st j b bj bb y.0 y.1 rb vb))) (left_cases (s.tab i).ticket (s.tab j))),
      )

  with_hold : g.stops ≡ false → spent g s (s.tab i) n + n * hold_up g s (s.tab i).ticket (s.tab i).part ≤ limit g i (s.tab i).part n
  with_hold st =
      ⊎_elim
      (λ gate. let a = some_place g.places _ (ltb-true _ _ gate) in
      let ra = rival_parts (s.tab i).ticket (s.tab i).part (s.tab a.0) a.2 in
      let e : hold_up g s (s.tab i).ticket (s.tab i).part ≡ total g.places (λ j. left (s.tab i).ticket (s.tab j)) = cond-true _ _ 0 gate in
      ⊎_elim
      (λ some. let b = some_place g.places _ (ltb-true _ _ some) in
      ⊎_elim
      (λ z. absurd (omega (arith, z, b.2)))
      (λ y. let f = all_left st b.0 b.1 y.0 y.1 in
      omega (arith, v.delayed st i a.0 b.0 bi a.1 b.1 w ra.0 ra.1 ra.2 y.0 y.1 y.2 n h, ap (λ (x : ℕ). n * x) (e ∙ f ∙ y.3)))
      (left_cases (s.tab i).ticket (s.tab b.0)))
      (λ none.
      let z : hold_up g s (s.tab i).ticket (s.tab i).part ≤ 0 = omega (arith, e, ltb-false 0 (total g.places (λ j. left (s.tab i).ticket (s.tab j))) none) in
      omega (arith, v.waits i bi w n h, times_le n (hold_up g s (s.tab i).ticket (s.tab i).part) 0 z, nothing))
      (cases_Bool (ltb 0 (total g.places (λ j. left (s.tab i).ticket (s.tab j))))))
      (λ gate. omega (arith, v.waits i bi w n h, ap (λ (x : ℕ). n * x) (cond-false (ltb 0 (total g.places (λ j. one (rival (s.tab i).ticket (s.tab i).part (s.tab j))))) (total g.places (λ j. left (s.tab i).ticket (s.tab j))) 0 gate), nothing))
      (cases_Bool (ltb 0 (total g.places (λ j. one (rival (s.tab i).ticket (s.tab i).part (s.tab j))))))
    where
      nothing : n * 0 ≡ 0
      nothing = omega arith

  spread : (x : ℕ) → spent g s (s.tab i) n + n * x ≤ limit g i (s.tab i).part n → n * (s.tab i).waited + (Phi g s (s.tab i).ticket (s.tab i).part n + n * (g.hold (s.tab i).part * Ahead g s (s.tab i).ticket (s.tab i).part + x)) ≤ limit g i (s.tab i).part n
  spread x o = omega (arith, o, mul-add n (g.hold (s.tab i).part * Ahead g s (s.tab i).ticket (s.tab i).part) x)

  pub psi_bound : n * (s.tab i).waited + Psi g s (s.tab i).ticket (s.tab i).part n ≤ others g i (s.tab i).part n + n * (g.hold (s.tab i).part * tasks g (s.tab i).part)
  psi_bound =
      spread (cond g.stops 0 (hold_up g s (s.tab i).ticket (s.tab i).part))
      (⊎_elim
      (λ e. omega (arith, v.waits i bi w n h, ap (λ (x : ℕ). n * x) (cond-true g.stops 0 (hold_up g s (s.tab i).ticket (s.tab i).part) e)))
      (λ e. omega (arith, with_hold e, ap (λ (x : ℕ). n * x) (cond-false g.stops 0 (hold_up g s (s.tab i).ticket (s.tab i).part) e)))
      (cases_Bool g.stops))

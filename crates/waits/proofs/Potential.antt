-- What a move does to the terms of the potential, place by place.
use Rattle.std.proofs.Common.{◌≡◌, ℕ, suc, ◌+◌, ◌-◌, ◌*◌, ◌<◌, ◌≤◌, Bool, true, false, cond, eqb, ltb, leb, ◌⊎◌, refl, ◌∙◌, subst, inl, inr, ⊎_elim, mul-le-mul_left, mul-suc, arith}
use Rattle.std.proofs.lemmas.Bool.{cases_Bool, cond-true, cond-false, cond_both, lt-ltb, le-ltb, le-leb, lt-leb, eq-eqb, eqb-true}
use Rattle.waits.specs.Table.{Stage, Rec, Given, Fits, Queued, Reserved, Running, Occupant, Unended, one, queued_stage, running_stage, occupant_stage, unended_stage, occ}
use Rattle.waits.specs.Moves.{fed, aged}
use Rattle.waits.specs.Law.{phi, ahead}
use Rattle.waits.proofs.Stages.{Later, reserved_unended, running_unended, queued_unended}

cond_le : (b : Bool) (x y z : ℕ) → x ≤ y → cond b x z ≤ cond b y z
cond_le true x y z h = h
cond_le false x y z h = omega arith

pub times_le : (n a b : ℕ) → a ≤ b → n * a ≤ n * b
times_le n a b h = mul-le-mul_left n h

pub times_less : (n a b : ℕ) → a < b → n * a + n ≤ n * b
times_less n a b h = omega (arith, times_le n (suc a) b h, mul-suc n a)

abbrev worth : ℕ → ℕ → ℕ → ℕ → ℕ → ℕ → ℕ → ℕ → ℕ → ℕ
worth t k n tk pt w v r x = cond (ltb tk t) (n * (w - v) + cond (eqb pt k) (r - x) 0) 0

worth_le : (t k n tk pt w v v' r x x' : ℕ) → v ≤ v' → x ≤ x' → worth t k n tk pt w v' r x' ≤ worth t k n tk pt w v r x
worth_le t k n tk pt w v v' r x x' hv hx =
    cond_le (ltb tk t) _ _ 0 (omega (arith, times_le n (w - v') (w - v) (omega arith), cond_le (eqb pt k) (r - x') (r - x) 0 (omega arith)))

abbrev worth_of : ℕ → ℕ → ℕ → Rec → ℕ
worth_of t k n q = worth t k n q.ticket q.part q.write q.written q.run q.ran

phi_live : (t k n : ℕ) (q : Rec) → Unended q → phi t k n q ≡ worth_of t k n q
unfolding phi
phi_live t k n q u = cond-true (unended_stage q.stage) _ 0 u

pub phi_dead : (t k n : ℕ) (q : Rec) → unended_stage q.stage ≡ false → phi t k n q ≡ 0
unfolding phi
phi_dead t k n q u = cond-false (unended_stage q.stage) _ 0 u

pub phi_young : (t k n : ℕ) (q : Rec) → t ≤ q.ticket → phi t k n q ≡ 0
phi_young t k n q h =
    ⊎_elim (λ u. phi_live t k n q u ∙ cond-false (ltb q.ticket t) _ 0 (le-ltb q.ticket t h)) (λ d. phi_dead t k n q d) (cases_Bool (unended_stage q.stage))

phi_old : (t k n : ℕ) (q : Rec) → Unended q → q.ticket < t → phi t k n q ≡ n * (q.write - q.written) + cond (eqb q.part k) (q.run - q.ran) 0
phi_old t k n q u h = phi_live t k n q u ∙ cond-true (ltb q.ticket t) _ 0 (lt-ltb q.ticket t h)

pub phi_le : (t k n : ℕ) (q q' : Rec) → (Unended q' → Later q q') → phi t k n q' ≤ phi t k n q
phi_le t k n q q' later =
    ⊎_elim
    (λ u. let l = later u in
    let e : worth_of t k n q' ≡ worth t k n q.ticket q.part q.write q'.written q.run q'.ran = cc in
    omega (arith, phi_live t k n q' u, phi_live t k n q l.alive, e, worth_le t k n q.ticket q.part q.write q.written q'.written q.run q.ran q'.ran l.written l.ran))
    (λ d. omega (arith, phi_dead t k n q' d))
    (cases_Bool (unended_stage q'.stage))

pub phi_weight : (t k n : ℕ) (q : Rec) → phi t k n q ≤ n * q.write + cond (eqb q.part k) q.run 0
phi_weight t k n q =
    ⊎_elim
    (λ u. omega (
      arith,
      phi_live t k n q u,
      cond_both (ltb q.ticket t) (n * (q.write - q.written) + cond (eqb q.part k) (q.run - q.ran) 0) 0 (λ x. x ≤ n * q.write + cond (eqb q.part k) q.run 0)
          (λ _. omega (arith, times_le n (q.write - q.written) q.write (omega arith), cond_le (eqb q.part k) (q.run - q.ran) q.run 0 (omega arith))) (λ _. omega arith),
    ))
    (λ d. omega (arith, phi_dead t k n q d))
    (cases_Bool (unended_stage q.stage))

-- a written tick of an older request
pub phi_fed : (t k n : ℕ) (q : Rec) (σ : Stage) → Reserved q → q.written < q.write → q.ticket < t → phi t k n (fed q σ) + n ≤ phi t k n q
phi_fed t k n q σ r h o =
    ⊎_elim
    (λ u. omega (arith, phi_old t k n (fed q σ) u o, phi_old t k n q (reserved_unended _ r) o, times_less n (q.write - (q.written + 1)) (q.write - q.written) (omega arith)))
    (λ d. omega (arith, phi_dead t k n (fed q σ) d, phi_old t k n q (reserved_unended _ r) o, times_less n 0 (q.write - q.written) (omega arith)))
    (cases_Bool (unended_stage σ))

-- a run tick of an older request of the same partition
pub phi_runs : (t k n : ℕ) (q : Rec) → Running q → q.part ≡ k → q.ticket < t → q.ran < q.run → phi t k n (aged q) + 1 ≤ phi t k n q
phi_runs t k n q r e o h =
    let u = running_unended _ r in
    let x = phi_old t k n (aged q) u o in
    let y = phi_old t k n q u o in
    let e' = eq-eqb q.part k e in
    let c = cond-true (eqb q.part k) (q.run - (q.ran + one (running_stage q.stage))) 0 e' in
    let d = cond-true (eqb q.part k) (q.run - q.ran) 0 e' in
    omega (arith, x, y, c, d, cond-true {A = ℕ} (running_stage q.stage) 1 0 r)

abbrev before : ℕ → ℕ → ℕ → ℕ → ℕ
before t k tk pt = cond (eqb pt k) (one (leb tk t)) 0

ahead_live : (t k : ℕ) (q : Rec) → Queued q → ahead t k q ≡ before t k q.ticket q.part
unfolding ahead
ahead_live t k q u = cond-true (queued_stage q.stage) _ 0 u

pub ahead_not : (t k : ℕ) (q : Rec) → queued_stage q.stage ≡ false → ahead t k q ≡ 0
unfolding ahead
ahead_not t k q u = cond-false (queued_stage q.stage) _ 0 u

pub ahead_young : (t k : ℕ) (q : Rec) → t < q.ticket → ahead t k q ≡ 0
ahead_young t k q h =
    ⊎_elim
    (λ u. ahead_live t k q u ∙ cond_both (eqb q.part k) (one (leb q.ticket t)) 0 (λ x. x ≡ 0) (λ _. cond-false (leb q.ticket t) 1 0 (lt-leb q.ticket t h)) (λ _. refl))
    (λ d. ahead_not t k q d) (cases_Bool (queued_stage q.stage))

pub ahead_yes : (t k : ℕ) (q : Rec) → Queued q → q.part ≡ k → q.ticket ≤ t → ahead t k q ≡ 1
ahead_yes t k q u e h = ahead_live t k q u ∙ cond-true (eqb q.part k) _ 0 (eq-eqb q.part k e) ∙ cond-true (leb q.ticket t) 1 0 (le-leb q.ticket t h)

pub ahead_le : (t k : ℕ) (q q' : Rec) → (Unended q' → Later q q') → ahead t k q' ≤ ahead t k q
ahead_le t k q q' later =
    ⊎_elim
    (λ u. let l = later (queued_unended _ u) in
    let e : before t k q'.ticket q'.part ≡ before t k q.ticket q.part = cc in
    omega (arith, ahead_live t k q' u, ahead_live t k q (l.queues u), e))
    (λ d. omega (arith, ahead_not t k q' d))
    (cases_Bool (queued_stage q'.stage))

-- each task has one request at most in the count
pub ahead_uses : (g : Given) (t k j : ℕ) (q : Rec) → (Queued q → Fits g j q) → ahead t k q ≤ g.uses k j
ahead_uses g t k j q fits =
    ⊎_elim
    (λ u. omega (
      arith,
      ahead_live t k q u,
      cond_both (eqb q.part k) (one (leb q.ticket t)) 0 (λ x. x ≤ g.uses k j)
          (λ e. let c : 1 ≤ g.uses k j = subst (λ (x : ℕ). 1 ≤ g.uses x j) (eqb-true q.part k e) (fits u).counted in
          cond_both (leb q.ticket t) 1 0 (λ x. x ≤ g.uses k j) (λ _. c) (λ _. omega arith)) (λ _. omega arith),
    ))
    (λ d. omega (arith, ahead_not t k q d))
    (cases_Bool (queued_stage q.stage))

pub occ_not : (k : ℕ) (q : Rec) → occupant_stage q.stage ≡ false → occ k q ≡ 0
unfolding occ
occ_not k q u = cond-false (occupant_stage q.stage) _ 0 u

pub occ_cases : (k : ℕ) (q : Rec) → (occ k q ≡ 0) ⊎ ((Occupant q) × (q.part ≡ k) × (occ k q ≡ 1))
unfolding occ
occ_cases k q =
    ⊎_elim
    (λ u. ⊎_elim
    (λ e. inr (u, eqb-true q.part k e, cond-true (occupant_stage q.stage) _ 0 u ∙ cond-true (eqb q.part k) 1 0 e))
    (λ e. inl (cond-true (occupant_stage q.stage) _ 0 u ∙ cond-false (eqb q.part k) 1 0 e))
    (cases_Bool (eqb q.part k)))
    (λ d. inl (occ_not k q d))
    (cases_Bool (occupant_stage q.stage))

pub occ_aged : (k : ℕ) (q : Rec) → occ k (aged q) ≡ occ k q
unfolding occ
occ_aged k q = refl

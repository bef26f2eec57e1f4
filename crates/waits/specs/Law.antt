-- The potential, the invariants of a state, and the law of the waits.
use Rattle.std.specs.Prelude.{◌≡◌, ℕ, ◌+◌, ◌-◌, ◌*◌, ◌/◌, ◌<◌, ◌≤◌, Bool, false, cond, ◌&&◌, ◌==◌, nat_le, nat_lt}
use Rattle.waits.specs.Total.{total}
use Rattle.waits.specs.Table.{Stage, Rec, Given, State, Fits, Held, Queued, Reserved, Running, Waiting, Occupant, Unended, one, queued_stage, reserved_stage, unended_stage, occ}
use Rattle.waits.specs.Moves.{Move, Moves, Reached, aged, fed}

-- what q can still take from a request of partition k with ticket t, at n slots
unfoldable pub phi : ℕ → ℕ → ℕ → Rec → ℕ
phi t k n q =
    cond (unended_stage q.stage) (cond (nat_lt q.ticket t) (n * (q.write - q.written) + cond (q.part == k) (q.run - q.ran) 0) 0) 0

-- 1 where q is queued in partition k with ticket at most t
unfoldable pub ahead : ℕ → ℕ → Rec → ℕ
ahead t k q = cond (queued_stage q.stage) (cond (q.part == k) (one (nat_le q.ticket t)) 0) 0

abbrev pub Phi : Given → State → ℕ → ℕ → ℕ → ℕ
Phi g s t k n = total g.places (λ j. phi t k n (s.tab j))

abbrev pub Ahead : Given → State → ℕ → ℕ → ℕ
Ahead g s t k = total g.places (λ j. ahead t k (s.tab j))

-- what the request q has waited and can still wait, n times over; what a half written one can hold it up stands beside
abbrev pub spent : Given → State → Rec → ℕ → ℕ
spent g s q n = n * q.waited + Phi g s q.ticket q.part n + n * (g.hold q.part * Ahead g s q.ticket q.part)

-- the heaviest of every other task
abbrev pub others : Given → ℕ → ℕ → ℕ → ℕ
others g i k n = total g.places (λ j. cond (j == i) 0 (g.heaviest k n j))

abbrev pub tasks : Given → ℕ → ℕ
tasks g k = total g.places (g.uses k)

abbrev pub limit : Given → ℕ → ℕ → ℕ → ℕ
limit g i k n = others g i k n + n * (g.hold k * tasks g k)

-- whether q is reserved in partition k with ticket at most t
unfoldable pub rival : ℕ → ℕ → Rec → Bool
rival t k q = reserved_stage q.stage && (q.part == k && nat_le q.ticket t)

-- what is left to write of q, where it is half written and younger than t
unfoldable pub left : ℕ → Rec → ℕ
left t q = cond (reserved_stage q.stage) (cond (nat_lt 0 q.written) (cond (nat_lt t q.ticket) (q.write - q.written) 0) 0) 0

-- what a half written, younger request can still hold up a request of partition k with ticket t
abbrev pub hold_up : Given → State → ℕ → ℕ → ℕ
hold_up g s t k = cond (nat_lt 0 (total g.places (λ j. one (rival t k (s.tab j))))) (total g.places (λ j. left t (s.tab j))) 0

-- everything that can still delay a request of partition k with ticket t
abbrev pub Psi : Given → State → ℕ → ℕ → ℕ → ℕ
Psi g s t k n = Phi g s t k n + n * (g.hold k * Ahead g s t k + cond g.stops 0 (hold_up g s t k))

pub record Counts (q : Rec) : Type 0 where
  pub capped : Held q → (q.written ≤ q.write) × (q.ran ≤ q.run)
  pub queued : Queued q → (q.written ≡ 0) × (q.ran ≡ 0)
  pub reserved : Reserved q → (q.written < q.write) × (q.ran ≡ 0)
  pub running : Running q → (q.written ≡ q.write) × (q.ran ≤ q.run)

pub record Inv (g : Given) (s : State) : Type 0 where
  -- tickets are below the next one and apart, and accelerators are those of the task
  pub below : (j : ℕ) → j < g.places → Unended (s.tab j) → (s.tab j).ticket < s.next
  pub apart : (i j : ℕ) → i < g.places → j < g.places → Unended (s.tab i) → Unended (s.tab j) → (s.tab i).ticket ≡ (s.tab j).ticket → i ≡ j
  pub fits : (j : ℕ) → j < g.places → Unended (s.tab j) → Fits g j (s.tab j)
  -- the line of a partition and its occupants together are as many as its slots
  pub slots : (k : ℕ) → s.line k + total g.places (λ j. occ k (s.tab j)) ≡ g.slots k
  -- a queued request came after every occupant of its partition
  pub order : (i j : ℕ) → i < g.places → j < g.places → Queued (s.tab i) → Occupant (s.tab j) → (s.tab i).part ≡ (s.tab j).part → (s.tab j).ticket < (s.tab i).ticket
  -- the counts go with the stage
  pub counts : (j : ℕ) → j < g.places → Counts (s.tab j)
  -- a half written request has the lowest ticket of those waiting in its partition, and there is one at most where the port does not stop
  pub first : (i j : ℕ) → i < g.places → j < g.places → Reserved (s.tab i) → 0 < (s.tab i).written → Waiting (s.tab j) → (s.tab i).part ≡ (s.tab j).part → (s.tab i).ticket ≤ (s.tab j).ticket
  pub sole : g.stops ≡ false → (i j : ℕ) → i < g.places → j < g.places → Reserved (s.tab i) → 0 < (s.tab i).written → Reserved (s.tab j) → 0 < (s.tab j).written → i ≡ j
  -- the inequality of the waits with nothing half written, and with b half written and younger while a is reserved in the same partition, no younger
  pub waits : (i : ℕ) → i < g.places → Waiting (s.tab i) → (n : ℕ) → n ≤ g.slots (s.tab i).part → spent g s (s.tab i) n ≤ limit g i (s.tab i).part n
  pub delayed : g.stops ≡ false → (i a b : ℕ) → i < g.places → a < g.places → b < g.places → Waiting (s.tab i)
      → Reserved (s.tab a) → (s.tab a).part ≡ (s.tab i).part → (s.tab a).ticket ≤ (s.tab i).ticket
      → Reserved (s.tab b) → 0 < (s.tab b).written → (s.tab i).ticket < (s.tab b).ticket
      → (n : ℕ) → n ≤ g.slots (s.tab i).part → spent g s (s.tab i) n + n * ((s.tab b).write - (s.tab b).written) ≤ limit g i (s.tab i).part n
  pub few : (i : ℕ) → i < g.places → Held (s.tab i) → (n : ℕ) → n ≤ g.slots (s.tab i).part → n * (s.tab i).waited ≤ limit g i (s.tab i).part n

abbrev pub delay : Given → ℕ → ℕ → ℕ
delay g i k = others g i k (g.slots k) / g.slots k + g.hold k * tasks g k

-- the ticks that a request has seen
abbrev pub ticks : Rec → ℕ
ticks q = q.waited + q.written + q.ran

pub record Law : Type 0 where
  -- every move keeps the invariants
  pub keeps : (g : Given) (s s' : State) → Inv g s → Move g s s' → Inv g s'
  pub on : (g : Given) (s s' : State) → Inv g s → Moves g s s' → Inv g s'
  pub holds : (g : Given) (s : State) → Reached g s → Inv g s
  -- what a waiting request has waited and all that can still delay it stay within the limit, at any number of slots up to its partition's
  pub bound : (g : Given) (s : State) → Inv g s → (i : ℕ) → i < g.places → Waiting (s.tab i) → (n : ℕ) → n ≤ g.slots (s.tab i).part
      → n * (s.tab i).waited + Psi g s (s.tab i).ticket (s.tab i).part n ≤ others g i (s.tab i).part n + n * (g.hold (s.tab i).part * tasks g (s.tab i).part)
  -- no request of a state that moves reach has waited longer than its delay, or seen more ticks than its stay
  pub waits : (g : Given) (s : State) → Inv g s → (i : ℕ) → i < g.places → Held (s.tab i) → 0 < g.slots (s.tab i).part → (s.tab i).waited ≤ delay g i (s.tab i).part
  pub stays : (g : Given) (s : State) → Inv g s → (i : ℕ) → i < g.places → Held (s.tab i) → 0 < g.slots (s.tab i).part → ticks (s.tab i) ≤ delay g i (s.tab i).part + (s.tab i).write + (s.tab i).run
  -- a tick adds one to the ticks of an unended request, chosen or not
  pub ages : (q : Rec) → Unended q → ticks (aged q) ≡ ticks q + 1
  pub writes : (q : Rec) (σ : Stage) → ticks (fed q σ) ≡ ticks q + 1

abbrev pub WaitsHold : Type 0
WaitsHold = Law

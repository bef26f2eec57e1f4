-- The moves of a state: accept, grant, finish, clear, and a tick that writes one or none.
use Rattle.std.specs.Prelude.{◌≡◌, ℕ, ◌+◌, ◌<◌, ◌≤◌, false, ◌⊎◌, ◌≢◌}
use Rattle.waits.specs.Table.{Stage, Rec, Given, State, Fits, Queued, Reserved, Running, Unended, one, waiting_stage, running_stage, unended_stage, occ}
use Rattle.waits.specs.Table.Stage.{empty, queued, reserved, running, ended}

abbrev pub new : ℕ → ℕ → ℕ → ℕ → Rec
new t k w r = record { ticket = t; part = k; write = w; run = r; waited = 0; written = 0; ran = 0; stage = queued }

abbrev pub staged : Rec → Stage → Rec
staged q σ = record { ticket = q.ticket; part = q.part; write = q.write; run = q.run; waited = q.waited; written = q.written; ran = q.ran; stage = σ }

-- the chosen one, after its written tick
abbrev pub fed : Rec → Stage → Rec
fed q σ = record { ticket = q.ticket; part = q.part; write = q.write; run = q.run; waited = q.waited; written = q.written + 1; ran = q.ran; stage = σ }

-- any other one, after a tick
abbrev pub aged : Rec → Rec
aged q = record { ticket = q.ticket; part = q.part; write = q.write; run = q.run; waited = q.waited + one (waiting_stage q.stage); written = q.written; ran = q.ran + one (running_stage q.stage); stage = q.stage }

-- the record at p is q' afterwards, and every other one what f makes of it
pub record Changed (n : ℕ) (f : Rec → Rec) (tab : ℕ → Rec) (p : ℕ) (q' : Rec) (tab' : ℕ → Rec) : Type 0 where
  pub here : p < n
  pub now : tab' p ≡ q'
  pub rest : (j : ℕ) → j < n → (j ≢ p) → tab' j ≡ f (tab j)

abbrev pub same : Rec → Rec
same q = q

pub record Accept (g : Given) (s : State) (p k w r : ℕ) (s' : State) : Type 0 where
  pub free : unended_stage (s.tab p).stage ≡ false
  pub fits : Fits g p (new s.next k w r)
  pub table : Changed g.places same s.tab p (new s.next k w r) s'.tab
  pub line : (k : ℕ) → s'.line k ≡ s.line k
  pub next : s.next < s'.next

pub record Grant (g : Given) (s : State) (p : ℕ) (s' : State) : Type 0 where
  pub was : Queued (s.tab p)
  pub lowest : (j : ℕ) → j < g.places → Queued (s.tab j) → (s.tab j).part ≡ (s.tab p).part → (s.tab p).ticket ≤ (s.tab j).ticket
  pub table : Changed g.places same s.tab p (staged (s.tab p) reserved) s'.tab
  pub line : (k : ℕ) → s.line k ≡ s'.line k + occ k (s'.tab p)
  pub next : s'.next ≡ s.next

-- done, overrun: an unended request ends
pub record Finish (g : Given) (s : State) (p : ℕ) (s' : State) : Type 0 where
  pub was : Unended (s.tab p)
  pub table : Changed g.places same s.tab p (staged (s.tab p) ended) s'.tab
  pub line : (k : ℕ) → s'.line k ≡ s.line k + occ k (s.tab p)
  pub next : s'.next ≡ s.next

-- collect: a record that is not unended is emptied
pub record Clear (g : Given) (s : State) (p : ℕ) (q' : Rec) (s' : State) : Type 0 where
  pub was : unended_stage (s.tab p).stage ≡ false
  pub blank : q'.stage ≡ empty
  pub table : Changed g.places same s.tab p q' s'.tab
  pub line : (k : ℕ) → s'.line k ≡ s.line k
  pub next : s'.next ≡ s.next

-- what a tick finds when the port chooses: nothing queued beside a free slot, and no run at its end
pub record Settled (g : Given) (s : State) : Type 0 where
  pub full : (j : ℕ) → j < g.places → Queued (s.tab j) → s.line (s.tab j).part ≡ 0
  pub going : (j : ℕ) → j < g.places → Running (s.tab j) → (s.tab j).ran < (s.tab j).run

-- nothing is reserved, so nothing is written
pub record Idle (g : Given) (s s' : State) : Type 0 where
  pub settled : Settled g s
  pub none : (j : ℕ) → j < g.places → Reserved (s.tab j) → ⊥
  pub table : (j : ℕ) → j < g.places → s'.tab j ≡ aged (s.tab j)
  pub line : (k : ℕ) → s'.line k ≡ s.line k
  pub next : s'.next ≡ s.next

-- the stage after a written tick: a flaw ends it, whatever was written
abbrev pub Wrote : Rec → Stage → Type 0
Wrote q empty = ⊥
Wrote q queued = ⊥
Wrote q reserved = q.written + 1 < q.write
Wrote q running = q.written + 1 ≡ q.write
Wrote q ended = Unit {0}

-- on an uninterruptible port the half written one; otherwise the lowest reserved ticket
abbrev pub Chosen : Given → State → ℕ → Type 0
Chosen g s p =
    ((g.stops ≡ false) × (0 < (s.tab p).written))
    ⊎ (((j : ℕ) → j < g.places → Reserved (s.tab j) → (s.tab p).ticket ≤ (s.tab j).ticket)
    × (g.stops ≡ false → (j : ℕ) → j < g.places → Reserved (s.tab j) → (s.tab j).written ≡ 0))

pub record Write (g : Given) (s : State) (p : ℕ) (σ : Stage) (s' : State) : Type 0 where
  pub settled : Settled g s
  pub was : Reserved (s.tab p)
  pub chosen : Chosen g s p
  pub wrote : Wrote (s.tab p) σ
  pub table : Changed g.places aged s.tab p (fed (s.tab p) σ) s'.tab
  pub line : (k : ℕ) → s'.line k + occ k (s'.tab p) ≡ s.line k + occ k (s.tab p)
  pub next : s'.next ≡ s.next

pub data Move (g : Given) (s s' : State) : Type 0 where
  accepts : (p k w r : ℕ) → Accept g s p k w r s' → Move g s s'
  grants : (p : ℕ) → Grant g s p s' → Move g s s'
  finishes : (p : ℕ) → Finish g s p s' → Move g s s'
  clears : (p : ℕ) (q' : Rec) → Clear g s p q' s' → Move g s s'
  idles : Idle g s s' → Move g s s'
  writes : (p : ℕ) (σ : Stage) → Write g s p σ s' → Move g s s'

-- several moves on end, as a tick is: requests finish, slots are granted, one tick passes, slots are granted
pub data Moves (g : Given) : State → State → Type 0 where
  still : {s : State} → Moves g s s
  more : {s s' s'' : State} → Moves g s s' → Move g s' s'' → Moves g s s''

pub record Start (g : Given) (s : State) : Type 0 where
  pub table : (j : ℕ) → j < g.places → (s.tab j).stage ≡ empty
  pub line : (k : ℕ) → s.line k ≡ g.slots k

pub record Reached (g : Given) (s : State) : Type 0 where
  pub from : State
  pub start : Start g from
  pub moves : Moves g from s

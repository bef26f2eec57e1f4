-- Whom a tick writes, and how much of its image a slot holds.
use Rattle.std.specs.Prelude.{◌≡◌, ℕ, ◌+◌, ◌*◌, ◌<◌, ◌≤◌, Bool, true, false, cond, ◌⊎◌, Some, None, Ok, Err, Option, Result, ◌==◌}
use Rattle.delays.specs.Delays.{partition_at}
use Rattle.ports.specs.Meaning.{Entry, entry_at, half}
use Rattle.model.specs.declared.requests.Stage.TheVariants.{Reserved, Running}
use Rattle.model.specs.declared.requests.Record.{Record}
use Rattle.model.specs.declared.refusals.Refusal.{Refusal}
use Rattle.model.specs.declared.calls.Answer.{Answer}
use Rattle.model.specs.declared.calls.Answer.TheVariants.{Ticket, Ticked, Completed, Collected, Stands}
use Rattle.model.specs.Records.{at}
use Rattle.model.specs.States.{State, part}
use Rattle.model.specs.Moves.{is_reserved}

-- in state s the port writes for the request at place i
pub record WrittenFor (s : State) (i : ℕ) : Type 0 where
  pub there : i < 16
  pub reserved : is_reserved (at s.records i) ≡ true
  -- it has the lowest ticket of those reserved, if the port can be interrupted or no slot is half written
  pub lowest : (s.interrupts ≡ true) ⊎ ((slot : ℕ) → half (entry_at s.port slot) ≡ false) → (j : ℕ) → j < 16 → is_reserved (at s.records j) ≡ true → (at s.records i).ticket ≤ (at s.records j).ticket
  -- a port that cannot be interrupted goes on with the slot that is half written
  pub goes_on : s.interrupts ≡ false → (slot : ℕ) → half (entry_at s.port slot) ≡ true → (at s.records i).stage ≡ Reserved slot

abbrev pub WrittenTicket : State → Option ℕ → Type 0
WrittenTicket s (Some t) = (i : ℕ) × ((at s.records i).ticket ≡ t) × WrittenFor s i
WrittenTicket s None = (i : ℕ) → i < 16 → is_reserved (at s.records i) ≡ false

-- what a tick answers, in the state when the port chooses: the ticket written, or none where nothing is reserved
abbrev pub TickTells : State → Result Answer Refusal → Type 0
TickTells s (Ok (Ticket t)) = ⊥
TickTells s (Ok (Ticked o n)) = WrittenTicket s o
TickTells s (Ok (Completed t)) = ⊥
TickTells s (Ok (Collected r)) = ⊥
TickTells s (Ok (Stands σ)) = ⊥
TickTells s (Err why) = ⊥

-- of a reserved request so much is written as its written ticks write
pub record PartlyWritten (s : State) (r : Record) (e : Entry) : Type 0 where
  pub image : e.image ≡ r.accelerator
  pub size : e.size ≡ (partition_at s.layout (part s.layout r)).size
  pub written : e.written ≡ s.port.rate * r.written
  pub short : e.written < e.size

abbrev pub Progress : State → Type 0
Progress s = (i slot : ℕ) → i < 16 → (at s.records i).stage ≡ Reserved slot → PartlyWritten s (at s.records i) (entry_at s.port slot)

-- a call tells that the request with ticket t was written
abbrev pub names_ticket : Option ℕ → ℕ → Bool
names_ticket (Some u) t = u == t
names_ticket None t = false

abbrev pub tells_written : Result Answer Refusal → ℕ → Bool
tells_written (Ok (Ticket u)) t = false
tells_written (Ok (Ticked o n)) t = names_ticket o t
tells_written (Ok (Completed u)) t = false
tells_written (Ok (Collected r)) t = false
tells_written (Ok (Stands σ)) t = false
tells_written (Err why) t = false

-- how a call leaves the image of the request at place i, which was reserved in a slot: it goes on where it stopped
pub record GoesOn (s : State) (a : Result Answer Refusal) (s' : State) (i slot : ℕ) : Type 0 where
  -- still reserved, it has as many blocks more as a feed writes if it was written, and else as many as before
  pub partly : (at s'.records i).stage ≡ Reserved slot → (entry_at s'.port slot).written ≡ (entry_at s.port slot).written + cond (tells_written a (at s.records i).ticket) s.port.rate 0
  -- it runs once it was written and a feed's blocks were the last
  pub wholly : (at s'.records i).stage ≡ Running slot → (tells_written a (at s.records i).ticket ≡ true) × ((entry_at s'.port slot).written ≡ (entry_at s.port slot).size) × ((entry_at s.port slot).size ≤ (entry_at s.port slot).written + s.port.rate)

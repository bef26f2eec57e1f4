-- The definitions stop where the code does, at the end of a line and of a count, and tell a begun image by its record: no run ever meets the difference.
use Rattle.std.specs.Prelude.{◌≡◌, ℕ, ◌<◌, true, ◌&&◌, length}
use Rattle.ports.specs.Meaning.{entry_at, half}
use Rattle.model.specs.declared.requests.Record.{Record}
use Rattle.model.specs.Records.{at, held_stage, occupant_stage, slot_of}
use Rattle.model.specs.States.{State, line, part}
use Rattle.model.specs.Moves.{is_reserved, begun}

-- each count of a record is below the end of a number of 32 bits
pub record Roomy (r : Record) : Type 0 where
  pub waited : r.waited < 4294967295
  pub written : r.written < 4294967295
  pub run : r.run < 4294967295

pub record Unstopped (s : State) : Type 0 where
  -- a line has room for the slot of each request that may free one
  pub lines : (i : ℕ) → i < 16 → occupant_stage (at s.records i).stage ≡ true → length (line s (part s.layout (at s.records i))) < 8
  pub counts : (i : ℕ) → i < 16 → held_stage (at s.records i).stage ≡ true → Roomy (at s.records i)
  -- a request that was written already and is still reserved is one whose slot the port holds half written
  pub begun_is : (i : ℕ) → i < 16 → begun (at s.records i) ≡ (is_reserved (at s.records i) && half (entry_at s.port (slot_of (at s.records i).stage)))

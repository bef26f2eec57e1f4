-- What holds between two rounds of readings.
use Rattle.std.specs.Prelude.{◌≡◌, ℕ, ◌<◌, List, length, slice_index_or}
use Rattle.delays.specs.declared.table.Row.{Row}
use Rattle.model.specs.States.{State}
use Rattle.claims.specs.Awaits.{Run, stay_in}

abbrev pub no_row : Row
no_row = record { delay = 0; write = 0; stay = 0 }

-- the stay in the row of an accelerator
abbrev pub stay_at : List Row → ℕ → ℕ
stay_at rows a = (slice_index_or rows a no_row).stay

-- the state of a run, and the rows of its delay table
pub record Serving (s : State) (rows : List Row) : Type 0 where
  pub run : Run s
  pub stays : (a : ℕ) → a < length s.layout.accelerators → stay_in s a ≡ stay_at rows a

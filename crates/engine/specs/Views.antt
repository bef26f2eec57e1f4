-- What the engine's structs stand for.
use Rattle.std.specs.Prelude.{◌≡◌, ℕ, Bool, List, map, Some, None, Option}
use Rattle.std.specs.Borrow.{Bor}
use Rattle.std.specs.Fn.{Shared, FnReturnsAt}
use Rattle.arrayvec.specs.ArrayVec.{ArrayVec}
use Rattle.model.specs.declared.requests.Record.{Record}
use Rattle.engine.specs.declared.lines.Lines.{Lines}

-- the slots that stand in a line, the next one first
abbrev pub standing : ArrayVec ℕ → List ℕ
standing line = line.items

abbrev pub rows_of : Lines → List (List ℕ)
rows_of ls = map standing ls.rows.items

-- the closure answers of each record what p says of it
abbrev pub Says : {F : Type 0} → Shared F (Bor Record × Unit {0}) Bool → F → (Record → Bool) → Type 0
Says g wanted p = (r : Record) (b : Bool) → FnReturnsAt g wanted r b → b ≡ p r

-- the number of the next ticket; where no ticket is left, the first that is none
abbrev pub next_number : Option ℕ → ℕ
next_number (Some ticket) = ticket
next_number None = 4294967296

-- The rows of the delay table, and what the call that fills them answers and leaves.
use Rattle.std.specs.Prelude.{ℕ, Bool, cond, List, ◌++◌, map, length, drop, Ok, Err, Result, nat_lt}
use Rattle.std.specs.List.{range_with_len}
use Rattle.plan.specs.Rules.{Layout}
use Rattle.delays.specs.declared.table.Refusal.{Refusal}
use Rattle.delays.specs.declared.table.Refusal.TheVariants.{TooFewRows}
use Rattle.delays.specs.declared.table.Row.{Row}
use Rattle.delays.specs.Delays.{delay, write_time, stay}

abbrev pub refusal_number : Refusal → ℕ
refusal_number TooFewRows = 40

abbrev pub row_of : Layout → ℕ → Bool → ℕ → Row
row_of l rate interrupts a = record { delay = delay l rate interrupts a; write = write_time l rate a; stay = stay l rate interrupts a }

-- a row for each accelerator, in order
abbrev pub rows_of : Layout → ℕ → Bool → List Row
rows_of l rate interrupts = map (row_of l rate interrupts) (range_with_len 0 (length l.accelerators))

abbrev pub table_answer : Layout → ℕ → Result (Unit {0}) Refusal
table_answer l rows = cond (nat_lt rows (length l.accelerators)) (Err TooFewRows) (Ok tt)

-- the rows in front, further rows as they stood; where there are too few, all as they stood
abbrev pub table_after : Layout → ℕ → Bool → List Row → List Row
table_after l rate interrupts rows =
    cond (nat_lt (length rows) (length l.accelerators)) rows (rows_of l rate interrupts ++ drop (length l.accelerators) rows)

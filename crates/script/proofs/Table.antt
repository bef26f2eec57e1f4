-- The rows of the table, one after the other.
use Rattle.std.proofs.Common.{◌≡◌, ℕ, ◌+◌, ◌<◌, ◌≤◌, Bool, List, ◌++◌, length, get_or, drop, take, ap, ◌∙◌, add-one, append_assoc, arith}
use Rattle.std.proofs.lemmas.Bool.{cond-false, le-ltb}
use Rattle.std.proofs.lemmas.List.{get_or-take, get_or_append_left, length-take}
use Rattle.std.proofs.lemmas.List.FromFn.{length-map-range_with_len, get_or-map-range_with_len}
use Rattle.plan.specs.Rules.{Layout}
use Rattle.delays.specs.declared.table.Row.{Row}
use Rattle.delays.specs.Rows.{row_of, rows_of, table_after}
use Rattle.script.specs.Transcripts.{row_line, row_lines}

pub row_more : (l : Layout) (rate : ℕ) (k : Bool) (a : ℕ) (r : Row) (before out new : List ℕ) → out ≡ before ++ row_lines l rate k a → r ≡ row_of l rate k a → new ≡ out ++ row_line a r → new ≡ before ++ row_lines l rate k (a + 1)
unfolding row_lines
row_more l rate k a r before out new so is more =
    let one : row_lines l rate k (a + 1) ≡ row_lines l rate k a ++ row_line a (row_of l rate k a) = ap (row_lines l rate k) (add-one a) in
    let joined = append_assoc before (row_lines l rate k a) (row_line a (row_of l rate k a)) in
    cc

-- a table that is long enough has the row of each accelerator in front
pub row_here : (l : Layout) (rate : ℕ) (k : Bool) (rows filled : List Row) (n a : ℕ) (d : Row) → filled ≡ table_after l rate k rows → n ≡ length l.accelerators → n ≤ length rows → a < length (take n filled) → get_or (take n filled) a d ≡ row_of l rate k a
row_here l rate k rows filled n a d is all enough here =
    let front = length-map-range_with_len (row_of l rate k) 0 (length l.accelerators) in
    let below : a < n = omega (arith, length-take n filled) in
    get_or-take n filled a d below
    ∙ ap (λ xs. get_or xs a d) (is ∙ cond-false _ _ _ (le-ltb (length rows) (length l.accelerators) (omega arith)))
    ∙ get_or_append_left (rows_of l rate k) (drop (length l.accelerators) rows) d a (omega (arith, front))
    ∙ get_or-map-range_with_len (row_of l rate k) 0 (length l.accelerators) a a d (omega arith) (omega arith)

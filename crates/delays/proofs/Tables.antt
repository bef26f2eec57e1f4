-- What a filled table has in the row of an accelerator.
use Rattle.std.proofs.Common.{◌≡◌, ℕ, ◌<◌, ◌≤◌, Bool, List, length, get_or, drop, ap, ◌∙◌, arith}
use Rattle.std.proofs.lemmas.List.FromFn.{length-map-range_with_len, get_or-map-range_with_len}
use Rattle.std.proofs.lemmas.List.{get_or_append_left}
use Rattle.std.proofs.lemmas.Bool.{cond-false, le-ltb}
use Rattle.plan.specs.Rules.{Layout}
use Rattle.delays.specs.declared.table.Row.{Row}
use Rattle.delays.specs.Rows.{row_of, rows_of, table_after}

-- the row of accelerator a in a table that is long enough
pub row_at : (l : Layout) (rate : ℕ) (k : Bool) (rows : List Row) (a : ℕ) (d : Row) → length l.accelerators ≤ length rows → a < length l.accelerators → get_or (table_after l rate k rows) a d ≡ row_of l rate k a
row_at l rate k rows a d enough here =
    let n = length l.accelerators in
    let front = rows_of l rate k in
    ap (λ xs. get_or xs a d) (cond-false _ _ _ (le-ltb (length rows) n enough))
    ∙ get_or_append_left front (drop n rows) d a (omega (arith, length-map-range_with_len (row_of l rate k) 0 n))
    ∙ get_or-map-range_with_len (row_of l rate k) 0 n a a d here (omega arith)

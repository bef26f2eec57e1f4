use Rattle.std.proofs.Common.{◌≡◌, ◌++◌, vec_items, map}
use Rattle.script.proofs.Numerals.{digit_at, below}
use Rattle.script.proofs.decimals.print_number.Given as goal

-- the digits so far, and those below place k
abbrev pub invariant-loop-k : goal.invariant-loop-k
invariant-loop-k l = vec_items l.out ++ map (digit_at l.n) (below l.k) ≡ vec_items l.initial.out ++ map (digit_at l.n) (below l.initial.k)

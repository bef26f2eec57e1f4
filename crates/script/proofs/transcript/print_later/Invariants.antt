use Rattle.std.proofs.Common.{◌≡◌, ◌++◌}
use Rattle.std.specs.Slice.Iter.{split_inclusive_rest}
use Rattle.script.specs.Lines.{lines_of}
use Rattle.script.specs.Transcripts.{later_lines}
use Rattle.script.proofs.transcript.print_later.Given as goal

-- the refusals so far, and those of the lines that are left
abbrev pub invariant-loop-line : goal.invariant-loop-line
invariant-loop-line l =
    l.out.items ++ later_lines (lines_of (split_inclusive_rest l._line-iterator)) ≡ l.initial.out.items ++ later_lines (lines_of l.lines)

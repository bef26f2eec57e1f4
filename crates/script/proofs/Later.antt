-- The lines that are refused one after the other.
use Rattle.std.proofs.Common.{◌≡◌, ℕ, List, ◌∷◌, ◌++◌, length, ap, ◌∙◌, append_assoc, append-nil}
use Rattle.script.specs.Lines.{lines_of}
use Rattle.script.specs.Transcripts.{no_line, later_lines}
use Rattle.script.proofs.Splits.{no_lines}

-- one line more is refused, and ts is left of t
pub refused : (n : ℕ) (t x ts out new start : List ℕ) → n ≡ 60 → lines_of t ≡ x ∷ lines_of ts → new ≡ out ++ no_line n → out ++ later_lines (lines_of t) ≡ start → new ++ later_lines (lines_of ts) ≡ start
unfolding later_lines
refused n t x ts out new start is line more so =
    let rest = append_assoc out (no_line 60) (later_lines (lines_of ts)) in
    cc

pub all_refused : (t out : List ℕ) → length t ≡ 0 → out ++ later_lines (lines_of t) ≡ out
unfolding later_lines
all_refused t out e = ap (λ ls. out ++ later_lines ls) (no_lines t e) ∙ append-nil out

-- The lines of a script.
use Rattle.std.specs.Prelude.{ℕ, cond, List, [], ◌∷◌, length, Some, None, Ok, Err, Option, Result, ◌==◌, nat_lt, slice_index}
use Rattle.text.specs.declared.numbers.Malformed.{Malformed}
use Rattle.text.specs.Numbers.{malformed}
use Rattle.text.specs.Results.{and_then}
use Rattle.text.specs.Lines.{line_at}
use Rattle.script.specs.declared.lines.Kind.{Kind}
use Rattle.script.specs.declared.lines.Kind.TheVariants.{Interruptible, Uninterruptible}
use Rattle.script.specs.declared.refusals.ScriptRefusal.{ScriptRefusal}
use Rattle.script.specs.declared.refusals.ScriptRefusal.TheVariants.{BadLine, TooLong}

-- a byte in front of the first line
abbrev pub in_front : ℕ → List (List ℕ) → List (List ℕ)
in_front b [] = (b ∷ []) ∷ []
in_front b (l ∷ ls) = (b ∷ l) ∷ ls

-- the lines of a text, each with its byte 10; the last may lack it
unfoldable pub lines_of : List ℕ → List (List ℕ)
lines_of [] = []
lines_of (b ∷ bs) = cond (b == 10) ((b ∷ []) ∷ lines_of bs) (in_front b (lines_of bs))

-- the letters i and u
abbrev pub letter_kind : ℕ → Option Kind
letter_kind c = cond (c == 105) (Some Interruptible) (cond (c == 117) (Some Uninterruptible) None)

-- a number of a script is at most 4,294,967,295
abbrev pub named : Option Kind → ℕ → Result (Kind × ℕ) Malformed
named None v = Err malformed
named (Some kind) v = cond (nat_lt 4294967295 v) (Err malformed) (Ok (kind, v))

-- line one: the letter of the port, and its rate
abbrev pub first_line : List ℕ → Result (Kind × ℕ) Malformed
first_line bs = and_then (line_at bs 10 1 0) (λ x. named (letter_kind x.0) (slice_index x.1 0))

-- the port and its rate, and the later lines
abbrev pub with_rest : Result (Kind × ℕ) Malformed → List (List ℕ) → Result ((Kind × ℕ) × List (List ℕ)) ScriptRefusal
with_rest (Err e) rest = Err BadLine
with_rest (Ok x) rest = Ok (x, rest)

-- line one is read, and the later lines are not
abbrev pub opened : List (List ℕ) → Result ((Kind × ℕ) × List (List ℕ)) ScriptRefusal
opened [] = Err BadLine
opened (first ∷ rest) = with_rest (first_line first) rest

-- a script is at most 65,536 bytes long
abbrev pub opening : List ℕ → Result ((Kind × ℕ) × List (List ℕ)) ScriptRefusal
opening script = cond (nat_lt 65536 (length script)) (Err TooLong) (opened (lines_of script))

-- What the runner prints for a plan text and a script.
use Rattle.std.specs.Prelude.{ℕ, zero, suc, Bool, true, false, List, [], ◌∷◌, ◌++◌, length, Some, None, Ok, Err, decimal, codes, Option, Result}
use Rattle.std.specs.List.{flat_map}
use Rattle.plan.specs.declared.faults.Fault.{Fault}
use Rattle.plan.specs.Faults.{fault_number, fault_line, fault_field}
use Rattle.plan.specs.Reading.{reading}
use Rattle.plan.specs.Rules.{Layout}
use Rattle.ports.specs.declared.answers.Refusal.{Refusal}
use Rattle.ports.specs.Calls.{why_rate, refusal_number}
use Rattle.delays.specs.declared.table.Row.{Row}
use Rattle.delays.specs.Rows.{row_of}
use Rattle.script.specs.declared.lines.Kind.{Kind}
use Rattle.script.specs.declared.lines.Kind.TheVariants.{Interruptible, Uninterruptible}
use Rattle.script.specs.declared.refusals.ScriptRefusal.{ScriptRefusal}
use Rattle.script.specs.declared.refusals.ScriptRefusal.TheVariants.{BadLine}
use Rattle.script.specs.Refusals.{script_refusal_number}
use Rattle.script.specs.Lines.{opening}

-- a space and a number
abbrev pub spaced : ℕ → List ℕ
spaced n = 32 ∷ decimal n

-- a line: a word, numbers, and byte 10
abbrev pub line_of : List ℕ → List ℕ → List ℕ
line_of word numbers = word ++ (flat_map spaced numbers ++ 10 ∷ [])

-- a refusal: `no` and its number
abbrev pub no_line : ℕ → List ℕ
no_line n = line_of (codes "no") (n ∷ [])

-- a plan that is refused: `plan`, number, line and field
abbrev pub plan_line : Fault → List ℕ
plan_line f = line_of (codes "plan") (fault_number f ∷ fault_line f ∷ fault_field f ∷ [])

-- the row of accelerator a: `a`, its number, delay, write time and stay
abbrev pub row_line : ℕ → Row → List ℕ
row_line a r = line_of (codes "a") (a ∷ r.delay ∷ r.write ∷ r.stay ∷ [])

-- the rows of the accelerators below n
unfoldable pub row_lines : Layout → ℕ → Bool → ℕ → List ℕ
row_lines l rate interrupts zero = []
row_lines l rate interrupts (suc n) = row_lines l rate interrupts n ++ row_line n (row_of l rate interrupts n)

-- the runner makes no calls yet: each further line is refused
unfoldable pub later_lines : List (List ℕ) → List ℕ
later_lines [] = []
later_lines (l ∷ ls) = no_line (script_refusal_number BadLine) ++ later_lines ls

abbrev pub can_interrupt : Kind → Bool
can_interrupt Interruptible = true
can_interrupt Uninterruptible = false

-- a rate that is refused ends the run; else the table and the rest of the script
abbrev pub on_rate : Option Refusal → Layout → ℕ → Bool → List (List ℕ) → List ℕ
on_rate (Some r) l rate interrupts rest = no_line (refusal_number r)
on_rate None l rate interrupts rest = row_lines l rate interrupts (length l.accelerators) ++ later_lines rest

-- a script that is not read ends the run; else the port is made
abbrev pub on_opening : Result ((Kind × ℕ) × List (List ℕ)) ScriptRefusal → Layout → List ℕ
on_opening (Err e) l = no_line (script_refusal_number e)
on_opening (Ok x) l = on_rate (why_rate x.0.1) l x.0.1 (can_interrupt x.0.0) x.1

abbrev pub on_script : Layout → List ℕ → List ℕ
on_script l script = on_opening (opening script) l

abbrev pub on_plan : Result Layout Fault → List ℕ → List ℕ
on_plan (Err f) script = plan_line f
on_plan (Ok l) script = on_script l script

abbrev pub transcript_of : List ℕ → List ℕ → List ℕ
transcript_of plan script = on_plan (reading plan) script

-- A port that was made from a rate.
use Rattle.std.proofs.Common.{◌≡◌, ℕ, Bool, List, ◌++◌, length, Some, None, Ok, Option, refl, append_assoc}
use Rattle.plan.specs.Rules.{Layout}
use Rattle.ports.specs.declared.answers.Refusal.{Refusal}
use Rattle.ports.specs.Meaning.{Meaning}
use Rattle.ports.specs.Calls.{judged, why_rate, new_port, making}
use Rattle.script.specs.Transcripts.{row_lines, later_lines, on_rate}

made_rate : (rate : ℕ) → (new_port rate).rate ≡ rate
unfolding new_port
made_rate rate = refl

-- the table on the port, and the later lines
judged_ran : (w : Option Refusal) (m made : Meaning) (l : Layout) (rate : ℕ) (k : Bool) (rest : List (List ℕ)) (before out after : List ℕ) → Ok m ≡ judged w made → made.rate ≡ rate
    → out ≡ before ++ row_lines l m.rate k (length l.accelerators) → after ≡ out ++ later_lines rest → after ≡ before ++ on_rate w l rate k rest
judged_ran (Some r) m made l rate k rest before out after is paced rows later = absurd (cc)
judged_ran None m made l rate k rest before out after is paced rows later =
    let joined = append_assoc before (row_lines l m.rate k (length l.accelerators)) (later_lines rest) in
    cc

pub ran : (l : Layout) (m : Meaning) (rate : ℕ) (k : Bool) (rest : List (List ℕ)) (before out after : List ℕ) → Ok m ≡ making rate
    → out ≡ before ++ row_lines l m.rate k (length l.accelerators) → after ≡ out ++ later_lines rest → after ≡ before ++ on_rate (why_rate rate) l rate k rest
ran l m rate k rest before out after made = judged_ran (why_rate rate) m (new_port rate) l rate k rest before out after made (made_rate rate)

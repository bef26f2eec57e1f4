-- Answers one after the other: the first refusal ends the reading.
use Rattle.std.specs.Prelude.{ℕ, List, ◌++◌, Ok, Err, Result}

-- what f makes of an accepted answer
abbrev pub and_then : {A B E : Type 0} → Result A E → (A → Result B E) → Result B E
and_then (Ok x) f = f x
and_then (Err e) f = Err e

-- items read up to a place, put after the items xs
abbrev pub onto : {A E : Type 0} → List A → Result (List A × ℕ) E → Result (List A × ℕ) E
onto xs (Ok y) = Ok (xs ++ y.0, y.1)
onto xs (Err e) = Err e

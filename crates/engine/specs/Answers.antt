-- The answers of the calls as one kind of answer.
use Rattle.std.specs.Prelude.{Ok, Err, Result}
use Rattle.model.specs.declared.calls.Answer.{Answer}
use Rattle.model.specs.declared.refusals.Refusal.{Refusal}

-- what a call that can be refused answered
abbrev pub told : {A : Type 0} → (A → Answer) → Result A Refusal → Result Answer Refusal
told says (Ok x) = Ok (says x)
told says (Err r) = Err r

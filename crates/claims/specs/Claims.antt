-- Claims: what a claim names, and when it is spent.
use Rattle.std.specs.Prelude.{◌≡◌, ℕ, Ok, Err, Result}
use Rattle.engine.specs.Answers.{told}
use Rattle.model.specs.declared.calls.Answer.{Answer}
use Rattle.model.specs.declared.calls.Answer.TheVariants.{Ticket}
use Rattle.model.specs.declared.refusals.Refusal.{Refusal}
use Rattle.model.specs.declared.requests.Report.{Report}
use Rattle.claims.specs.declared.Claim.{Claim}

-- a claim that names task 16, which no plan has, is spent
abbrev pub Spent : Claim → Type 0
Spent c = c.task ≡ 16

-- a claim is the answer of a request with its ticket
abbrev pub claimed : Result Claim Refusal → Result Answer Refusal
claimed r = told (λ (c : Claim). Ticket c.ticket) r

-- a claim that is handed over names the task that asked, and is not spent
pub record Names (task : ℕ) (c : Claim) : Type 0 where
  pub task_is : c.task ≡ task
  pub unspent : Spent c → ⊥

-- a claim after a collection: spent where it was accepted, as it was where it was refused
abbrev pub after : Claim → Result Report Refusal → Claim
after c (Ok r) = record { task = 16; ticket = c.ticket }
after c (Err why) = c

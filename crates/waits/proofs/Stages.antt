-- The tests of a stage, and a record before and after a move.
use Rattle.std.proofs.Common.{◌≡◌, ◌≤◌, true, false, ◌⊎◌, sym, refl, subst, arith}
use Rattle.std.proofs.lemmas.Bool.{both_ways}
use Rattle.waits.specs.Table.{Stage, Rec, Queued, Reserved, Waiting, Unended, held_stage, queued_stage, reserved_stage, running_stage, waiting_stage, occupant_stage, unended_stage}
use Rattle.waits.specs.Table.Stage.{empty, queued, reserved, running, ended}
use Rattle.waits.specs.Moves.{staged, fed, aged, Wrote}

pub no_true : {A : Type 0} → false ≡ true → A
no_true e = absurd (both_ways false refl e)

pub queued_waiting : (σ : Stage) → queued_stage σ ≡ true → waiting_stage σ ≡ true
queued_waiting σ e = grind arith

pub reserved_waiting : (σ : Stage) → reserved_stage σ ≡ true → waiting_stage σ ≡ true
reserved_waiting σ e = grind arith

pub reserved_occupant : (σ : Stage) → reserved_stage σ ≡ true → occupant_stage σ ≡ true
reserved_occupant σ e = grind arith

pub waiting_unended : (σ : Stage) → waiting_stage σ ≡ true → unended_stage σ ≡ true
waiting_unended σ e = grind arith

pub occupant_unended : (σ : Stage) → occupant_stage σ ≡ true → unended_stage σ ≡ true
occupant_unended σ e = grind arith

pub unended_held : (σ : Stage) → unended_stage σ ≡ true → held_stage σ ≡ true
unended_held σ e = grind arith

pub running_occupant : (σ : Stage) → running_stage σ ≡ true → occupant_stage σ ≡ true
running_occupant σ e = grind arith

pub waiting_cases : (σ : Stage) → waiting_stage σ ≡ true → (queued_stage σ ≡ true) ⊎ (reserved_stage σ ≡ true)
waiting_cases σ e = grind arith

pub occupant_cases : (σ : Stage) → occupant_stage σ ≡ true → (reserved_stage σ ≡ true) ⊎ (running_stage σ ≡ true)
occupant_cases σ e = grind arith

pub reserved_unended : (σ : Stage) → reserved_stage σ ≡ true → unended_stage σ ≡ true
reserved_unended σ e = waiting_unended σ (reserved_waiting σ e)

pub queued_unended : (σ : Stage) → queued_stage σ ≡ true → unended_stage σ ≡ true
queued_unended σ e = waiting_unended σ (queued_waiting σ e)

pub running_unended : (σ : Stage) → running_stage σ ≡ true → unended_stage σ ≡ true
running_unended σ e = occupant_unended σ (running_occupant σ e)

-- what stays of an unended record, and what only grows
pub record Later (q q' : Rec) : Type 0 where
  pub ticket : q'.ticket ≡ q.ticket
  pub part : q'.part ≡ q.part
  pub write : q'.write ≡ q.write
  pub run : q'.run ≡ q.run
  pub written : q.written ≤ q'.written
  pub ran : q.ran ≤ q'.ran
  pub alive : Unended q
  pub waits : Waiting q' → Waiting q
  pub queues : Queued q' → Queued q

pub later_aged : (q : Rec) → Unended (aged q) → Later q (aged q)
later_aged q u = record { ticket = refl; part = refl; write = refl; run = refl; written = omega arith; ran = omega arith; alive = u; waits = λ w. w; queues = λ w. w }

pub later_same : (q q' : Rec) → q' ≡ q → Unended q' → Later q q'
later_same q q' e u =
    subst (λ (x : Rec). Later q x) (sym e)
    (record { ticket = refl; part = refl; write = refl; run = refl; written = omega arith; ran = omega arith; alive = subst Unended e u; waits = λ w. w; queues = λ w. w })

pub later_grant : (q : Rec) → Queued q → Later q (staged q reserved)
later_grant q w = record { ticket = refl; part = refl; write = refl; run = refl; written = omega arith; ran = omega arith; alive = queued_unended _ w; waits = λ _. queued_waiting _ w; queues = λ _. w }

wrote_queues : (q : Rec) (σ : Stage) → Wrote q σ → queued_stage σ ≡ true → ⊥
wrote_queues q empty w e = w
wrote_queues q queued w e = w
wrote_queues q reserved w e = no_true e
wrote_queues q running w e = no_true e
wrote_queues q ended w e = no_true e

pub later_fed : (q : Rec) (σ : Stage) → Reserved q → Wrote q σ → Later q (fed q σ)
later_fed q σ r w = record { ticket = refl; part = refl; write = refl; run = refl; written = omega arith; ran = omega arith; alive = reserved_unended _ r; waits = λ _. reserved_waiting _ r; queues = λ e. absurd (wrote_queues q σ w e) }

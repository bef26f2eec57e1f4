-- How claims go on through the calls of a reading.
use Rattle.std.proofs.Common.{◌≡◌, ℕ, ◌+◌, Bool, true, false, cond, not, eqb, leb, Ok, Result, sym, refl, ap, ◌∙◌, subst, arith}
use Rattle.model.specs.declared.refusals.Refusal.{Refusal}
use Rattle.model.specs.declared.requests.Report.{Report}
use Rattle.model.specs.declared.requests.Stage.{Stage}
use Rattle.model.specs.declared.calls.Call.{Call}
use Rattle.model.specs.declared.calls.Call.TheVariants.{Tick}
use Rattle.model.specs.declared.calls.Answer.{Answer}
use Rattle.model.specs.Records.{at, held_stage, unended_stage, ended_stage}
use Rattle.model.specs.States.{State}
use Rattle.model.specs.Promises.{unended, names}
use Rattle.model.specs.Laws.{Performed}
use Rattle.model.proofs.Tickets.{holds_is, unended_is}
use Rattle.claims.specs.declared.Claim.{Claim}
use Rattle.claims.specs.Awaits.{Awaited, Onward, GivesBack}
use Rattle.claims.proofs.Awaiting.{onward, keeps_all, keeps_tick, held_now, over}
use Rattle.firmware.specs.Readings.{ended_in, GoesOn, Watched, Collected}

pub onward_then : {s s₁ s₂ : State} → Onward s s₁ → Onward s₁ s₂ → Onward s s₂
onward_then a b = record { run = b.run; layout = b.layout ∙ a.layout; stays = λ x. b.stays x ∙ a.stays x }

pub goes_then : {s s₁ s₂ : State} → GoesOn s s₁ → GoesOn s₁ s₂ → GoesOn s s₂
goes_then a b = record {
  keeps = λ c n x w. b.keeps c n x (a.keeps c n x w);
  goes_on = λ r. let o = a.goes_on r in onward_then o (b.goes_on o.run);
}

-- a call that names no ticket
pub goes_by : {s s' : State} {c : Call} {a : Result Answer Refusal} → Performed s c a s' → ((t : ℕ) → names c t ≡ 0) → GoesOn s s'
goes_by p none = record { keeps = keeps_all p none; goes_on = onward p }

-- ---- what the stage tells of a claim

stage_known : (b h e u v : Bool) → cond b false (cond h e false) ≡ true → (h ≡ true → u ≡ not v) → cond b false (cond h (cond e u false) false) ≡ not (cond b false v)
stage_known b h e u v x y = grind arith

not_ended : (σ : Stage) → held_stage σ ≡ true → unended_stage σ ≡ not (ended_stage σ)
not_ended σ h = grind arith

-- an awaited request is unended just while its stage is
pub unended_while : {s : State} {c : Claim} {n : ℕ} → Awaited s c n → unended s c.task c.ticket ≡ not (ended_in s c.task)
unended_while {s} {c} w =
    let r = at s.records c.task in
    unended_is s c.task c.ticket
    ∙ stage_known (leb s.layout.tasks c.task) (held_stage r.stage) (eqb r.ticket c.ticket) (unended_stage r.stage) (ended_stage r.stage)
    (sym (holds_is s c.task c.ticket) ∙ held_now w) (not_ended r.stage)

-- ---- watching a claim

-- the claim has so many ticks left
pub record Watching (s : State) (c : Claim) (left : ℕ) (s' : State) : Type 0 where
  pub awaited : Awaited s' c left
  pub others : GoesOn s s'

module _ {s s₁ s₂ : State} {c : Claim} {task left : ℕ} (named : c.task ≡ task) (h : Watching s c left s₁) (more : GoesOn s₁ s₂) where
  watched : Awaited s₂ c left
  watched = more.keeps c left tt h.awaited

  alive : unended s₂ c.task c.ticket ≡ not (ended_in s₂ task)
  alive = unended_while watched ∙ ap (λ (t : ℕ). not (ended_in s₂ t)) named

  pub watched_end : ended_in s₂ task ≡ true → Watched s c s₂
  watched_end e = record { over = alive ∙ ap not e; awaits = (left, watched); others = goes_then h.others more }

  pub watched_on : {s₃ : State} {a : Result Answer Refusal} (less : ℕ) → left ≡ less + 1 → ended_in s₂ task ≡ false → Performed s₂ Tick a s₃ → Watching s c less s₃
  watched_on less b e p = record {
    awaited = keeps_tick p c less (alive ∙ ap not e) (subst (Awaited s₂ c) b watched);
    others = goes_then (goes_then h.others more) (goes_by p (λ t. refl));
  }

pub watched_all : {s s' : State} {c : Claim} {left : ℕ} → left ≡ 0 → Watching s c left s' → Watched s c s'
watched_all {left = left} e h = record { over = over h.awaited e; awaits = (left, h.awaited); others = h.others }

-- ---- collecting it

module _ {s s₁ s₂ : State} {c : Claim} {r : Result Report Refusal} (w : Watched s c s₁) (back : GivesBack s₁ c s₂ r) where
  pub taken : (x : Report) × (r ≡ Ok x)
  taken = back.accepted w.awaits.0 w.awaits.1 w.over

  pub collected : {task : ℕ} → c.task ≡ task → Collected task s s₂
  collected named = record {
    keeps = λ d n other a. back.keeps d n (λ e. other (e ∙ named)) (w.others.keeps d n tt a);
    goes_on = λ x. let o = w.others.goes_on x in onward_then o (back.goes_on o.run);
  }

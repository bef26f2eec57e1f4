-- Counts that stop: a held record that has room counts each tick of its own.
use Rattle.std.proofs.Common.{◌≡◌, ℕ, ◌+◌, ◌<◌, true, cond, ap, ◌∙◌, arith}
use Rattle.model.specs.declared.requests.Stage.{Stage}
use Rattle.model.specs.declared.requests.Record.{Record}
use Rattle.model.specs.Records.{one, up, held_stage, waiting_stage, running_stage, aged}
use Rattle.model.specs.Stops.{Roomy}

pub up_is : (n : ℕ) → n < 4294967295 → up n ≡ n + 1
up_is n h = omega arith

-- what a tick makes of a record that has room and is not written
abbrev pub counted : Record → Record
counted r = record { accelerator = r.accelerator; ticket = r.ticket; stage = r.stage; waited = r.waited + one (waiting_stage r.stage); written = r.written; run = r.run + one (running_stage r.stage) }

waits_one : (σ : Stage) (n : ℕ) → (held_stage σ ≡ true → n < 4294967295) → cond (waiting_stage σ) (up n) n ≡ n + one (waiting_stage σ)
waits_one σ n h = grind arith

runs_one : (σ : Stage) (n : ℕ) → (held_stage σ ≡ true → n < 4294967295) → cond (running_stage σ) (up n) n ≡ n + one (running_stage σ)
runs_one σ n h = grind arith

pub aged_counted : (r : Record) → (held_stage r.stage ≡ true → Roomy r) → aged r ≡ counted r
aged_counted r h =
    let f : ℕ → ℕ → Record = λ w x. record { accelerator = r.accelerator; ticket = r.ticket; stage = r.stage; waited = w; written = r.written; run = x } in
    ap (λ (w : ℕ). f w (cond (running_stage r.stage) (up r.run) r.run)) (waits_one r.stage r.waited (λ e. (h e).waited))
    ∙ ap (f (r.waited + one (waiting_stage r.stage))) (runs_one r.stage r.run (λ e. (h e).run))

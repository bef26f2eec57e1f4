-- What a tick answers and leaves, with and without a request that is written.
use Rattle.std.proofs.Common.{◌≡◌, ℕ, ◌+◌, List, map, Some, None, Ok, count_by, Option, Result, ap, ◌∙◌, arith}
use Rattle.model.specs.declared.refusals.Refusal.{Refusal}
use Rattle.model.specs.declared.calls.Answer.{Answer}
use Rattle.model.specs.declared.calls.Answer.TheVariants.{Ticked}
use Rattle.model.specs.declared.requests.Record.{Record}
use Rattle.model.specs.Records.{at, one, ended_stage, aged}
use Rattle.model.specs.States.{State, moved}
use Rattle.model.specs.Moves.{expired, settle, choose, stage_fed, write, advance, ready}
use Rattle.model.specs.Calls.{ticket_at, flawed_now, tick_answer, tick_after}

-- s when the tick begins, r when the port chooses, t when the tick is over; n requests overran
module _ (s r t : State) (n : ℕ) (overran : n ≡ count_by (expired s.layout) s.records) (is-ready : r ≡ ready s) where
  told : State → Option ℕ → Result Answer Refusal
  told z o = Ok (Ticked (ticket_at z o) (count_by (expired s.layout) s.records + flawed_now z o))

  answers : (o : Option ℕ) → o ≡ choose r → (a : Result Answer Refusal) → a ≡ told r o → a ≡ tick_answer s
  unfolding told
  answers o chosen a e = e ∙ ap (told r) chosen ∙ ap (λ z. told z (choose z)) is-ready

  leaves : (o : Option ℕ) → o ≡ choose r → t ≡ settle (advance r o) → t ≡ tick_after s
  leaves o chosen e = e ∙ ap (λ x. settle (advance r x)) chosen ∙ ap (λ z. settle (advance z (choose z))) is-ready

  module _ (chosen : None ≡ choose r) where
    pub idle_answer : Ok (Ticked None n) ≡ tick_answer s
    unfolding told
    idle_answer = answers None chosen (Ok (Ticked None n)) (ap (λ (x : ℕ). Ok (Ticked None x)) (let z : n ≡ count_by (expired s.layout) s.records + 0 = omega arith in z))

    pub idle_after : (rs : List Record) → rs ≡ map aged r.records → t ≡ settle (moved r rs r.lines r.port) → t ≡ tick_after s
    idle_after rs e h = leaves None chosen (h ∙ ap (λ x. settle (moved r x r.lines r.port)) e)

  module _ (i : ℕ) (chosen : Some i ≡ choose r) where
    pub written_answer : (ticket k : ℕ) → ticket ≡ (at r.records i).ticket → k ≡ one (ended_stage (stage_fed r i)) → Ok (Ticked (Some ticket) (n + k)) ≡ tick_answer s
    unfolding told
    written_answer ticket k e h =
        answers (Some i) chosen (Ok (Ticked (Some ticket) (n + k)))
        (ap (λ x. Ok (Ticked (Some x) (n + k))) e
        ∙ ap (λ x. Ok (Ticked (Some (at r.records i).ticket) (x + k))) overran
        ∙ ap (λ x. Ok (Ticked (Some (at r.records i).ticket) (count_by (expired s.layout) s.records + x))) h)

    pub written_after : (u : State) → u ≡ write r i → t ≡ settle u → t ≡ tick_after s
    written_after u e h = leaves (Some i) chosen (h ∙ ap settle e)

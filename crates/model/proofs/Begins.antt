-- A reserved request is begun exactly if its slot is half written.
use Rattle.std.proofs.Common.{◌≡◌, ℕ, ◌+◌, ◌-◌, ◌*◌, ◌<◌, ◌≤◌, ◌&&◌, ltb, sym, refl, ap, ◌∙◌, ⊎_elim, mul-zero, mul-one, mul-add, arith}
use Rattle.std.proofs.lemmas.Bool.{cases_lt, lt-ltb, le-ltb, and_from, and_left}
use Rattle.plan.specs.Rules.{Layout}
use Rattle.ports.specs.Meaning.{Meaning, entry_at, half}
use Rattle.model.specs.declared.requests.Stage.{Stage}
use Rattle.model.specs.declared.requests.Stage.TheVariants.{Empty, Queued, Reserved, Running, Ended}
use Rattle.model.specs.declared.requests.Record.{Record}
use Rattle.model.specs.Records.{reserved_stage, slot_of}
use Rattle.model.specs.Moves.{begun}
use Rattle.model.proofs.Stores.{EntryFor, HeldFor}

partly : (rate v w z : ℕ) → 1 ≤ rate → w ≡ rate * v → w < z → ltb 0 v ≡ (ltb 0 w && ltb w z)
partly rate v w z r e b =
    ⊎_elim
    (λ c. let one_more : rate * v ≡ rate * (v - 1) + rate * 1 = ap (λ (n : ℕ). rate * n) (let x : v ≡ (v - 1) + 1 = omega arith in x) ∙ mul-add rate (v - 1) 1 in
    let some : 0 < w = omega (arith, e, one_more, mul-one rate) in
    lt-ltb 0 v c ∙ sym (and_from _ _ (lt-ltb 0 w some) (lt-ltb w z b)))
    (λ c. let none : w ≤ 0 = omega (arith, e, ap (λ (n : ℕ). rate * n) (let x : v ≡ 0 = omega arith in x), mul-zero rate) in
    le-ltb 0 v c ∙ sym (and_left _ _ (le-ltb 0 w none)))
    (cases_lt 0 v)

by_stage : (l : Layout) (rate : ℕ) (m : Meaning) (a v : ℕ) (σ : Stage) → 1 ≤ rate → EntryFor l rate m a v σ → (reserved_stage σ && ltb 0 v) ≡ (reserved_stage σ && half (entry_at m (slot_of σ)))
by_stage l rate m a v Empty r h = refl
by_stage l rate m a v Queued r h = refl
by_stage l rate m a v (Reserved t) r h = partly rate v (entry_at m t).written (entry_at m t).size r h.written h.short
by_stage l rate m a v (Running t) r h = refl
by_stage l rate m a v (Ended t o) r h = refl

pub begun_half : (l : Layout) (rate : ℕ) (m : Meaning) (q : Record) → 1 ≤ rate → HeldFor l rate m q → begun q ≡ (reserved_stage q.stage && half (entry_at m (slot_of q.stage)))
begun_half l rate m q r h = by_stage l rate m q.accelerator q.written q.stage r h

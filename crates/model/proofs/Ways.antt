-- Settling and expiring as grants and ends one after the other, so that a law is shown once for each move.
use Rattle.std.proofs.Common.{◌≡◌, ℕ, zero, suc, ◌<◌, ◌≤◌, true, List, [], ◌∷◌, length, Some, None, Option, sym, refl, ap, ◌∙◌, arith}
use Rattle.std.proofs.lemmas.List.{get_or-set_same, length-set}
use Rattle.std.proofs.lemmas.Bool.{and_parts}
use Rattle.plan.specs.Rules.{Layout}
use Rattle.model.specs.declared.requests.Outcome.{Outcome}
use Rattle.model.specs.declared.requests.Outcome.TheVariants.{Overrun}
use Rattle.model.specs.Records.{at, running_stage, lowest, on_found}
use Rattle.model.specs.Lowests.{Lowest, Found}
use Rattle.model.specs.States.{State, line}
use Rattle.model.specs.Moves.{queued_in, expired, grant, finish, fill, settle_below, settle, expire_up_to, expire}
use Rattle.model.proofs.Lowests.{found}

-- the lowest queued request of partition k takes the first slot in its line
pub record Grants (s : State) (k i slot : ℕ) (rest : List ℕ) : Type 0 where
  pub there : k < length s.lines
  pub first : line s k ≡ slot ∷ rest
  pub lowest : Lowest (queued_in s.layout k) s.records i

-- a running request ends
pub record Ends (s : State) (i : ℕ) : Type 0 where
  pub there : i < length s.records
  pub runs : running_stage (at s.records i).stage ≡ true

-- some grants and ends lead from one state to another
pub data Way : State → State → Type 0 where
  none : {s : State} → Way s s
  grants : {s s'' : State} (k i slot : ℕ) (rest : List ℕ) → Grants s k i slot rest → Way (grant s k i slot rest) s'' → Way s s''
  ends : {s s'' : State} (i : ℕ) (o : Outcome) → Ends s i → Way (finish s i o) s'' → Way s s''

-- what each move keeps, they all keep
pub keeps : (P : State → Type 0) → ((s : State) (k i slot : ℕ) (rest : List ℕ) → Grants s k i slot rest → P s → P (grant s k i slot rest)) → ((s : State) (i : ℕ) (o : Outcome) → Ends s i → P s → P (finish s i o)) → {s s' : State} → Way s s' → P s → P s'
keeps P g e Way.none p = p
keeps P g e (Way.grants {s} k i slot rest c w) p = keeps P g e w (g s k i slot rest c p)
keeps P g e (Way.ends {s} i o c w) p = keeps P g e w (e s i o c p)

pub then : {s s' s'' : State} → Way s s' → Way s' s'' → Way s s''
then Way.none v = v
then (Way.grants k i slot rest c w) v = Way.grants k i slot rest c (then w v)
then (Way.ends i o c w) v = Way.ends i o c (then w v)

-- what no move touches
pub record Framed (s s' : State) : Type 0 where
  pub layout : s'.layout ≡ s.layout
  pub interrupts : s'.interrupts ≡ s.interrupts
  pub next : s'.next ≡ s.next
  pub rows : length s'.lines ≡ length s.lines
  pub places : length s'.records ≡ length s.records

-- there is a line for each partition still
pub rows_on : (s s' : State) → length s.lines ≡ length s.layout.partitions → Framed s s' → length s'.lines ≡ length s'.layout.partitions
rows_on s s' e f = f.rows ∙ e ∙ sym (ap (λ (l : Layout). length l.partitions) f.layout)

pub framed : {s s' : State} → Way s s' → Framed s s'
framed {s} w =
    keeps (Framed s)
    (λ s₁ k i slot rest c f. record { layout = f.layout; interrupts = f.interrupts; next = f.next; rows = length-set _ _ _ ∙ f.rows; places = length-set _ _ _ ∙ f.places })
    (λ s₁ i o c f. record { layout = f.layout; interrupts = f.interrupts; next = f.next; rows = length-set _ _ _ ∙ f.rows; places = length-set _ _ _ ∙ f.places })
    w (record { layout = refl; interrupts = refl; next = refl; rows = refl; places = refl })

way_fill : (k : ℕ) (slots : List ℕ) (s : State) → k < length s.lines → line s k ≡ slots → Way s (fill k slots s)
unfolding fill
way_fill k [] s l e = Way.none
way_fill k (slot ∷ rest) s l e =
    let p = queued_in s.layout k in
    let P : Option ℕ → Type 0 = λ o. Way s (on_found o s (λ i. fill k rest (grant s k i slot rest))) in
    (elim (lowest p s.records) as (λ o. Found p s.records o → P o) [
      | None ↦ (λ f. Way.none)
      | Some i ↦ (λ f. Way.grants k i slot rest (record { there = l; first = e; lowest = f })
          (way_fill k rest (grant s k i slot rest) (omega (arith, length-set s.lines k rest)) (get_or-set_same s.lines k rest [] l)))
    ])
    (found p s.records)

pub way_settle_below : (n : ℕ) (s : State) → n ≤ length s.lines → Way s (settle_below n s)
unfolding settle_below
way_settle_below zero s l = Way.none
way_settle_below (suc k) s l =
    let w = way_settle_below k s (omega arith) in
    then w (way_fill k (line (settle_below k s) k) (settle_below k s) (omega (arith, (framed w).rows)) refl)

pub way_settle : (s : State) → length s.lines ≡ length s.layout.partitions → Way s (settle s)
way_settle s e = way_settle_below (length s.layout.partitions) s (omega arith)

way_expire_up_to : (n : ℕ) (s : State) → Way s (expire_up_to n s)
unfolding expire_up_to
way_expire_up_to zero s = Way.none
way_expire_up_to (suc n) s =
    let p = expired s.layout in
    let P : Option ℕ → Type 0 = λ o. Way s (on_found o s (λ i. expire_up_to n (finish s i Overrun))) in
    (elim (lowest p s.records) as (λ o. Found p s.records o → P o) [
      | None ↦ (λ f. Way.none)
      | Some i ↦ (λ f. Way.ends i Overrun (record { there = f.within; runs = (and_parts _ _ f.has).0 }) (way_expire_up_to n (finish s i Overrun)))
    ])
    (found p s.records)

pub way_expire : (s : State) → Way s (expire s)
way_expire s = way_expire_up_to (length s.records) s

-- what grants keep, settling keeps; and so for expiring
module _ (P : State → Type 0) (step : (s : State) (k i slot : ℕ) (rest : List ℕ) → Grants s k i slot rest → P s → P (grant s k i slot rest)) where
  keeps_fill : (k : ℕ) (slots : List ℕ) (s : State) → k < length s.lines → line s k ≡ slots → P s → P (fill k slots s)
  unfolding fill
  keeps_fill k [] s l e p = p
  keeps_fill k (slot ∷ rest) s l e p =
      let t = queued_in s.layout k in
      (elim (lowest t s.records) as (λ o. Found t s.records o → P (on_found o s (λ i. fill k rest (grant s k i slot rest)))) [
        | None ↦ (λ f. p)
        | Some i ↦ (λ f. keeps_fill k rest (grant s k i slot rest) (omega (arith, length-set s.lines k rest)) (get_or-set_same s.lines k rest [] l)
            (step s k i slot rest (record { there = l; first = e; lowest = f }) p))
      ])
      (found t s.records)

  keeps_below : (n : ℕ) (s : State) → n ≤ length s.lines → P s → P (settle_below n s)
  unfolding settle_below
  keeps_below zero s l p = p
  keeps_below (suc k) s l p =
      let s' = settle_below k s in
      keeps_fill k (line s' k) s' (omega (arith, (framed (way_settle_below k s (omega arith))).rows)) refl (keeps_below k s (omega arith) p)

  pub keeps_settle : (s : State) → length s.lines ≡ length s.layout.partitions → P s → P (settle s)
  keeps_settle s e p = keeps_below (length s.layout.partitions) s (omega arith) p

module _ (P : State → Type 0) (step : (s : State) (i : ℕ) → Lowest (expired s.layout) s.records i → P s → P (finish s i Overrun)) where
  keeps_up_to : (n : ℕ) (s : State) → P s → P (expire_up_to n s)
  unfolding expire_up_to
  keeps_up_to zero s p = p
  keeps_up_to (suc n) s p =
      let t = expired s.layout in
      (elim (lowest t s.records) as (λ o. Found t s.records o → P (on_found o s (λ i. expire_up_to n (finish s i Overrun)))) [
        | None ↦ (λ f. p)
        | Some i ↦ (λ f. keeps_up_to n (finish s i Overrun) (step s i f p))
      ])
      (found t s.records)

  pub keeps_expire : (s : State) → P s → P (expire s)
  keeps_expire s p = keeps_up_to (length s.records) s p

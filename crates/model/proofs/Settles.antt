-- Settling leaves no free slot beside a queued request, and expiring no run at its end.
use Rattle.std.proofs.Common.{◌≡◌, ℕ, zero, suc, ◌<◌, ◌≤◌, true, false, List, [], ◌∷◌, length, Some, None, count_by, sym, refl, ap, ◌∙◌, subst, ⊎_elim, arith}
use Rattle.std.proofs.lemmas.List.{get_or-set_same, get_or-set_other, length-set}
use Rattle.std.proofs.lemmas.List.Sums.{sum_by-set, get_or-le-sum_by, count_by-le-length}
use Rattle.std.proofs.lemmas.Bool.{cases_eq, both_ways, cases_Bool}
use Rattle.plan.specs.Rules.{Layout}
use Rattle.model.specs.declared.requests.Outcome.TheVariants.{Overrun}
use Rattle.model.specs.declared.requests.Stage.TheVariants.{Reserved, Ended}
use Rattle.model.specs.Records.{blank, at, one, staged, slot_of, lowest, on_found}
use Rattle.model.specs.Lowests.{NoneWith, Found}
use Rattle.model.specs.States.{State, line}
use Rattle.model.specs.Moves.{queued_in, expired, grant, finish, fill, settle_below, settle, expire_up_to, expire, ready}
use Rattle.model.specs.Grants.{Settled}
use Rattle.model.proofs.Stages.{no_true}
use Rattle.model.proofs.Tables.{at_set}
use Rattle.model.proofs.Lowests.{found}
use Rattle.model.proofs.Ways.{rows_on, Way, keeps, framed, way_settle_below, way_settle, way_expire}

-- settled, for partition k
abbrev pub SettledIn : State → ℕ → Type 0
SettledIn s k = (i : ℕ) → i < length s.records → queued_in s.layout k (at s.records i) ≡ true → line s k ≡ []

settled_fill : (k : ℕ) (slots : List ℕ) (s : State) → k < length s.lines → line s k ≡ slots → SettledIn (fill k slots s) k
unfolding fill
settled_fill k [] s c e = λ i b q. e
settled_fill k (slot ∷ rest) s c e =
    let p = queued_in s.layout k in
    (elim (lowest p s.records) as (λ o. Found p s.records o → SettledIn (on_found o s (λ i. fill k rest (grant s k i slot rest))) k) [
      | None ↦ (λ f i b q. absurd (both_ways _ (f i b) q))
      | Some i ↦ (λ f. settled_fill k rest (grant s k i slot rest) (omega (arith, length-set s.lines k rest)) (get_or-set_same s.lines k rest [] c))
    ])
    (found p s.records)

-- a grant elsewhere
other_grant : (s : State) (k i slot j : ℕ) (rest : List ℕ) → (j ≡ k → ⊥) → i < length s.records → SettledIn s j → SettledIn (grant s k i slot rest) j
other_grant s k i slot j rest ne c st x b q =
    let was : queued_in s.layout j (at s.records x) ≡ true =
    at_set (λ r. queued_in s.layout j r ≡ true → queued_in s.layout j (at s.records x) ≡ true) s.records i (staged (at s.records i) (Reserved slot)) x c (λ _ z. no_true z) (λ _ z. z) q in
    get_or-set_other s.lines k j rest [] ne ∙ st x (omega (arith, length-set s.records i (staged (at s.records i) (Reserved slot)))) was

other_fill : (k : ℕ) (slots : List ℕ) (s : State) (j : ℕ) → (j ≡ k → ⊥) → SettledIn s j → SettledIn (fill k slots s) j
unfolding fill
other_fill k [] s j ne st = st
other_fill k (slot ∷ rest) s j ne st =
    let p = queued_in s.layout k in
    (elim (lowest p s.records) as (λ o. Found p s.records o → SettledIn (on_found o s (λ i. fill k rest (grant s k i slot rest))) j) [
      | None ↦ (λ f. st)
      | Some i ↦ (λ f. other_fill k rest (grant s k i slot rest) j ne (other_grant s k i slot j rest ne f.within st))
    ])
    (found p s.records)

settled_below : (n : ℕ) (s : State) → n ≤ length s.lines → (j : ℕ) → j < n → SettledIn (settle_below n s) j
unfolding settle_below
settled_below zero s c j b = absurd (omega arith)
settled_below (suc k) s c j b =
    let s' = settle_below k s in
    ⊎_elim
    (λ e. subst (SettledIn (fill k (line s' k) s')) (sym e) (settled_fill k (line s' k) s' (omega (arith, (framed (way_settle_below k s (omega arith))).rows)) refl))
    (λ ne. other_fill k (line s' k) s' j ne (settled_below k s (omega arith) j (omega arith)))
    (cases_eq j k)

pub settled_settle : (s : State) → length s.lines ≡ length s.layout.partitions → Settled (settle s)
settled_settle s e k i b =
    settled_below (length s.layout.partitions) s (omega arith) k
    (omega (arith, ap (λ (l : Layout). length l.partitions) (framed (way_settle s e)).layout)) i

-- ---- expiring

abbrev pub NoneExpired : State → Type 0
NoneExpired s = NoneWith (expired s.layout) s.records

expired_none : (n : ℕ) (s : State) → count_by (expired s.layout) s.records ≤ n → NoneExpired (expire_up_to n s)
unfolding expire_up_to
expired_none zero s c =
    λ k b. ⊎_elim
    (λ e. absurd (omega (arith, get_or-le-sum_by (λ r. one (expired s.layout r)) s.records k blank b, ap one e)))
    (λ e. e)
    (cases_Bool (expired s.layout (at s.records k)))
expired_none (suc n) s c =
    let p = expired s.layout in
    (elim (lowest p s.records) as (λ o. Found p s.records o → NoneExpired (on_found o s (λ i. expire_up_to n (finish s i Overrun)))) [
      | None ↦ (λ f. f)
      | Some i ↦ (λ f.
          let q = staged (at s.records i) (Ended (slot_of (at s.records i).stage) Overrun) in
          expired_none n (finish s i Overrun) (omega (arith, sum_by-set (λ r. one (p r)) s.records i q blank f.within, ap one f.has)))
    ])
    (found p s.records)

expired_expire : (s : State) → NoneExpired (expire s)
expired_expire s = expired_none (length s.records) s (count_by-le-length (expired s.layout) s.records)

-- grants and ends make nothing run
expired_way : {s s' : State} → Way s s' → NoneExpired s → NoneExpired s'
expired_way =
    keeps NoneExpired
    (λ s k i slot rest g h j b.
    let q = staged (at s.records i) (Reserved slot) in
    at_set (λ r. expired s.layout r ≡ false) s.records i q j g.lowest.within (λ _. refl) (λ _. h j (omega (arith, length-set s.records i q))))
    (λ s i o e h j b.
    let q = staged (at s.records i) (Ended (slot_of (at s.records i).stage) o) in
    at_set (λ r. expired s.layout r ≡ false) s.records i q j e.there (λ _. refl) (λ _. h j (omega (arith, length-set s.records i q))))

module _ (s : State) (e : length s.lines ≡ length s.layout.partitions) where
  rows_expired : length (expire s).lines ≡ length (expire s).layout.partitions
  rows_expired = rows_on s (expire s) e (framed (way_expire s))

  pub settled_ready : Settled (ready s)
  settled_ready = settled_settle (expire s) rows_expired

  pub going_ready : NoneExpired (ready s)
  going_ready = expired_way (way_settle (expire s) rows_expired) (expired_expire s)

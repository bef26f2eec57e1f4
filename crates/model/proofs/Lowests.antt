-- The search for the lowest ticket finds it.
use Rattle.std.proofs.Common.{◌≡◌, ℕ, zero, suc, ◌<◌, ◌≤◌, Bool, true, false, ◌&&◌, ltb, List, length, Some, None, Option, sym, subst, ⊎_elim, arith}
use Rattle.std.proofs.lemmas.Bool.{cond_both, both_ways, and_parts, and_cases, ltb-true, ltb-false, cases_eq}
use Rattle.model.specs.declared.requests.Record.{Record}
use Rattle.model.specs.Records.{at, lower, lowest, lowest_below}
use Rattle.model.specs.Lowests.{Lowest, NoneWith, Found}

-- the same among the first n records
abbrev FoundBelow : (Record → Bool) → List Record → ℕ → Option ℕ → Type 0
FoundBelow p rs n None = (k : ℕ) → k < n → p (at rs k) ≡ false
FoundBelow p rs n (Some i) = (i < n) × (p (at rs i) ≡ true) × ((k : ℕ) → k < n → p (at rs k) ≡ true → (at rs i).ticket ≤ (at rs k).ticket)

module _ (p : Record → Bool) (rs : List Record) (n : ℕ) where
  more : (P : ℕ → Type 0) → ((k : ℕ) → k < n → P k) → P n → (k : ℕ) → k < suc n → P k
  more P h here k l = ⊎_elim (λ e. subst P (sym e) here) (λ ne. h k (omega arith)) (cases_eq k n)

  found_step : (o : Option ℕ) → FoundBelow p rs n o → FoundBelow p rs (suc n) (lower p rs n o)
  found_step None h =
      cond_both (p (at rs n)) (Some n) None (FoundBelow p rs (suc n))
      (λ e. (omega arith, e, more (λ k. p (at rs k) ≡ true → (at rs n).ticket ≤ (at rs k).ticket) (λ k l q. absurd (both_ways _ (h k l) q)) (λ q. omega arith)))
      (λ e. more (λ k. p (at rs k) ≡ false) h e)
  found_step (Some i) h =
      cond_both (p (at rs n) && ltb (at rs n).ticket (at rs i).ticket) (Some n) (Some i) (FoundBelow p rs (suc n))
      (λ e. let q = and_parts _ _ e in
      (omega arith, q.0, more (λ k. p (at rs k) ≡ true → (at rs n).ticket ≤ (at rs k).ticket) (λ k l z. omega (arith, ltb-true _ _ q.1, h.2 k l z)) (λ z. omega arith)))
      (λ e. (
        omega (arith, h.0),
        h.1,
        more (λ k. p (at rs k) ≡ true → (at rs i).ticket ≤ (at rs k).ticket) h.2
            (λ z. ⊎_elim (λ f. absurd (both_ways _ f z)) (λ f. omega (arith, ltb-false _ _ f)) (and_cases _ _ e)),
      ))

found_below : (p : Record → Bool) (rs : List Record) (n : ℕ) → FoundBelow p rs n (lowest_below p rs n)
unfolding lowest_below
found_below p rs zero = λ k l. absurd (omega arith)
found_below p rs (suc n) = found_step p rs n (lowest_below p rs n) (found_below p rs n)

found_all : (p : Record → Bool) (rs : List Record) (o : Option ℕ) → FoundBelow p rs (length rs) o → Found p rs o
found_all p rs None h = h
found_all p rs (Some i) h = record { within = h.0; has = h.1; least = h.2 }

pub found : (p : Record → Bool) (rs : List Record) → Found p rs (lowest p rs)
found p rs = found_all p rs (lowest p rs) (found_below p rs (length rs))

pub lowest_some : (p : Record → Bool) (rs : List Record) (i : ℕ) → lowest p rs ≡ Some i → Lowest p rs i
lowest_some p rs i e = subst (Found p rs) e (found p rs)

pub lowest_none : (p : Record → Bool) (rs : List Record) → lowest p rs ≡ None → NoneWith p rs
lowest_none p rs e = subst (Found p rs) e (found p rs)

-- Settling and expiring as loops run them: what each turn leaves to do, and the end.
use Rattle.std.proofs.Common.{◌≡◌, ℕ, zero, suc, ◌+◌, ◌-◌, ◌<◌, ◌≤◌, Bool, false, List, [], ◌∷◌, length, drop, Some, None, count_by, Option, sym, refl, ap, ◌∙◌, ⊎_elim, arith}
use Rattle.std.proofs.lemmas.List.{get_or_past, get_or-set_same, length-drop}
use Rattle.std.proofs.lemmas.List.Sums.{sum_by-cons, sum_by-set, count_by-le-length}
use Rattle.std.proofs.lemmas.Bool.{cases_lt}
use Rattle.model.specs.declared.requests.Outcome.TheVariants.{Overrun}
use Rattle.model.specs.declared.requests.Stage.TheVariants.{Ended}
use Rattle.model.specs.declared.requests.Record.{Record}
use Rattle.model.specs.Records.{blank, at, one, staged, slot_of, lowest, on_found}
use Rattle.model.specs.States.{State, line, first_of}
use Rattle.model.specs.Moves.{queued_in, expired, grant, finish, fill, settle_below, expire_up_to, expire}
use Rattle.model.proofs.Lowests.{lowest_some, lowest_none}

-- ---- a partition is filled: while its line has a first slot and a request is queued for it, grant

abbrev pub next_queued : State → ℕ → Option ℕ
next_queued s k = lowest (queued_in s.layout k) s.records

pub fill_empty : (k : ℕ) (slots : List ℕ) (s : State) → first_of slots ≡ None → fill k slots s ≡ s
unfolding fill
fill_empty k [] s e = refl
fill_empty k (slot ∷ rest) s e = grind arith

pub fill_none : (k : ℕ) (slots : List ℕ) (s : State) → next_queued s k ≡ None → fill k slots s ≡ s
unfolding fill
fill_none k [] s e = refl
fill_none k (slot ∷ rest) s e = ap (λ (o : Option ℕ). on_found o s (λ i. fill k rest (grant s k i slot rest))) e

fill_one : (k : ℕ) (slots : List ℕ) (s : State) (slot i : ℕ) → first_of slots ≡ Some slot → next_queued s k ≡ Some i → fill k slots s ≡ fill k (drop 1 slots) (grant s k i slot (drop 1 slots))
unfolding fill
fill_one k [] s slot i f e = grind arith
fill_one k (x ∷ rest) s slot i f e =
    let z : x ≡ slot = cc in
    ap (λ (o : Option ℕ). on_found o s (λ j. fill k rest (grant s k j x rest))) e ∙ ap (λ (n : ℕ). fill k rest (grant s k i n rest)) z

-- a line that has a first slot is there
there : (k : ℕ) (s : State) (slot : ℕ) → first_of (line s k) ≡ Some slot → k < length s.lines
there k s slot f =
    ⊎_elim (λ b. b)
    (λ b. let e = ap first_of (get_or_past s.lines k [] b) in let z : ◌≡◌ {A = ℕ} 0 1 = cc in absurd (omega arith))
    (cases_lt k (length s.lines))

-- the state after a grant has what is left of the line
pub fill_step : (k : ℕ) (s s' : State) (slot i : ℕ) → first_of (line s k) ≡ Some slot → next_queued s k ≡ Some i → s' ≡ grant s k i slot (drop 1 (line s k)) → fill k (line s' k) s' ≡ fill k (line s k) s
fill_step k s s' slot i f e g =
    ap (λ (t : State). fill k (line t k) t) g
    ∙ ap (λ (xs : List ℕ). fill k xs (grant s k i slot (drop 1 (line s k)))) (get_or-set_same s.lines k (drop 1 (line s k)) [] (there k s slot f))
    ∙ sym (fill_one k (line s k) s slot i f e)

shorter : (xs : List ℕ) (slot : ℕ) → first_of xs ≡ Some slot → length (drop 1 xs) < length xs
shorter [] slot f = grind arith
shorter (x ∷ xs) slot f = omega (arith, length-drop 1 (x ∷ xs))

pub fill_less : (k : ℕ) (s s' : State) (slot i : ℕ) → first_of (line s k) ≡ Some slot → s' ≡ grant s k i slot (drop 1 (line s k)) → length (line s' k) < length (line s k)
fill_less k s s' slot i f g =
    let e : line s' k ≡ drop 1 (line s k) = ap (λ (t : State). line t k) g ∙ get_or-set_same s.lines k (drop 1 (line s k)) [] (there k s slot f) in
    omega (arith, ap length e, shorter (line s k) slot f)

-- ---- settling goes through the partitions

pub settle_more : (k : ℕ) (s : State) → settle_below (k + 1) s ≡ fill k (line (settle_below k s) k) (settle_below k s)
unfolding settle_below
settle_more k s = ap (λ (n : ℕ). settle_below n s) (let z : k + 1 ≡ suc k = omega arith in z)

-- ---- expiring: while a run is at its end, end it

abbrev pub next_expired : State → Option ℕ
next_expired s = lowest (expired s.layout) s.records

abbrev pub expired_count : State → ℕ
expired_count s = count_by (expired s.layout) s.records

expire_none : (n : ℕ) (s : State) → next_expired s ≡ None → expire_up_to n s ≡ s
unfolding expire_up_to
expire_none zero s e = refl
expire_none (suc n) s e = ap (λ (o : Option ℕ). on_found o s (λ i. expire_up_to n (finish s i Overrun))) e

expire_one : (n : ℕ) (s : State) (i : ℕ) → next_expired s ≡ Some i → expire_up_to (suc n) s ≡ expire_up_to n (finish s i Overrun)
unfolding expire_up_to
expire_one n s i e = ap (λ (o : Option ℕ). on_found o s (λ j. expire_up_to n (finish s j Overrun))) e

fewer : (s : State) (i : ℕ) → next_expired s ≡ Some i → expired_count (finish s i Overrun) + 1 ≡ expired_count s
fewer s i e =
    let p = expired s.layout in
    let f = lowest_some p s.records i e in
    let q = staged (at s.records i) (Ended (slot_of (at s.records i).stage) Overrun) in
    omega (arith, sum_by-set (λ r. one (p r)) s.records i q blank f.within, ap one f.has)

none_counted : (p : Record → Bool) (rs : List Record) → ((k : ℕ) → k < length rs → p (at rs k) ≡ false) → count_by p rs ≡ 0
none_counted p [] h = refl
none_counted p (r ∷ rs) h =
    omega (arith, sum_by-cons (λ q. one (p q)) r rs, ap one (h 0 (omega arith)), none_counted p rs (λ k l. h (suc k) (omega arith)))

pub expire_less : (s s' : State) (i : ℕ) → next_expired s ≡ Some i → s' ≡ finish s i Overrun → expired_count s' < expired_count s
expire_less s s' i e g = omega (arith, fewer s i e, ap expired_count g)

-- from s₀ to s so many have ended, and what is left to expire gives the whole
module _ (s s₀ : State) (ended : ℕ) (sized : length s₀.records ≡ 16) (count : ended + expired_count s ≡ expired_count s₀) (rest : expire_up_to (16 - ended) s ≡ expire_up_to 16 s₀) where
  pub step_few : (i : ℕ) → next_expired s ≡ Some i → ended < 16
  step_few i e = omega (arith, count, fewer s i e, count_by-le-length (expired s₀.layout) s₀.records, sized)

  pub step_count : (s' : State) (i : ℕ) → next_expired s ≡ Some i → s' ≡ finish s i Overrun → ended + 1 + expired_count s' ≡ expired_count s₀
  step_count s' i e g = omega (arith, count, fewer s i e, ap expired_count g)

  pub step_rest : (s' : State) (i : ℕ) → next_expired s ≡ Some i → s' ≡ finish s i Overrun → expire_up_to (16 - (ended + 1)) s' ≡ expire_up_to 16 s₀
  step_rest s' i e g =
      let few = step_few i e in
      ap (expire_up_to (16 - (ended + 1))) g
      ∙ sym (expire_one (16 - (ended + 1)) s i e)
      ∙ ap (λ (n : ℕ). expire_up_to n s) (let z : suc (16 - (ended + 1)) ≡ 16 - ended = omega (arith, few) in z)
      ∙ rest

  pub end_count : next_expired s ≡ None → ended ≡ expired_count s₀
  end_count e = omega (arith, count, none_counted (expired s.layout) s.records (lowest_none _ _ e))

  pub end_few : next_expired s ≡ None → ended ≤ 16
  end_few e = omega (arith, end_count e, count_by-le-length (expired s₀.layout) s₀.records, sized)

  pub end_rest : next_expired s ≡ None → s ≡ expire s₀
  end_rest e = sym (expire_none (16 - ended) s e) ∙ rest ∙ ap (λ (n : ℕ). expire_up_to n s₀) (sym sized)

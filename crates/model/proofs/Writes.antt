-- Writing a chosen request: the port takes it, and what is stored stays right.
use Rattle.std.proofs.Common.{◌≡◌, ℕ, ◌+◌, ◌-◌, ◌*◌, ◌<◌, ◌≤◌, true, false, not, ◌&&◌, eqb, ltb, ◌⊎◌, List, map, set, Some, None, Ok, Option, sym, refl, ap, ◌∙◌, subst, subst₂, inl, inr, ⊎_elim, mul-zero, mul-one, mul-add, arith}
use Rattle.std.proofs.lemmas.List.{get_or-map, set-get_or, length-map}
use Rattle.std.proofs.lemmas.Bool.{cases_lt, cases_Bool, eqb-true, eqb-false, and_parts, and_from, and_left, and_right, both_ways, cond_both, ltb-true, lt-ltb}
use Rattle.ports.specs.Meaning.{Entry, Meaning, nothing, entry_at, half}
use Rattle.ports.specs.Calls.{with_entry, blanked, shut_after, other_half, chunk, struck, advanced, fed, fed_at, entry_after, fed_entry, feed_after}
use Rattle.ports.specs.CallLaws.{shut_is, feed_is, feed_tells, entry_same, no_other}
use Rattle.model.specs.declared.requests.Outcome.TheVariants.{Flaw}
use Rattle.model.specs.declared.requests.Stage.{Stage}
use Rattle.model.specs.declared.requests.Stage.TheVariants.{Reserved, Running, Ended}
use Rattle.model.specs.Records.{blank, at, reserved_stage, occupant_stage, slot_of, aged, fed_record, lowest}
use Rattle.model.specs.Lowests.{Lowest, NoneWith, Found}
use Rattle.model.specs.States.{State, moved, line, part}
use Rattle.model.specs.Moves.{joined, is_reserved, begun, or_else, choose, left_in, fed_stage, stage_fed, write, idle_on}
use Rattle.model.proofs.Lowests.{found}
use Rattle.model.proofs.Sames.{Chosen}
use Rattle.model.proofs.Balances.{written_as}
use Rattle.model.proofs.Placed.{Placed, alone, slot_low}
use Rattle.model.proofs.Stores.{Partly, Wholly, EntryFor, Stored, stored_one, stored_idle}
use Rattle.model.proofs.Views.{given, view, seen_reserved}
use Rattle.model.specs.Stops.{Roomy}
use Rattle.model.proofs.Stages.{no_true, reserved_occupant, reserved_is}
use Rattle.model.proofs.Counts.{up_is}
use Rattle.waits.specs.Law as law

half_parts : (e : Entry) → half e ≡ true → (0 < e.written) × (e.written < e.size)
half_parts e h =
    let p = and_parts (ltb 0 e.written) (ltb e.written e.size) h in
    (ltb-true _ _ p.0, ltb-true _ _ p.1)

-- ---- the choice

-- on a port that cannot be interrupted what is half written, and otherwise the lowest reserved ticket
abbrev pub Picked : State → ℕ → Type 0
Picked s i =
    ((s.interrupts ≡ false) × (begun (at s.records i) ≡ true))
    ⊎ (Lowest is_reserved s.records i × (s.interrupts ≡ false → NoneWith begun s.records))

abbrev pub Pick : State → Option ℕ → Type 0
Pick s None = NoneWith is_reserved s.records
Pick s (Some i) = Picked s i

pick_any : (s : State) (o : Option ℕ) → s.interrupts ≡ true → Found is_reserved s.records o → Pick s o
pick_any s None k f = f
pick_any s (Some i) k f = inr (f, λ e. absurd (both_ways _ e k))

pick_begun : (s : State) (o o' : Option ℕ) → s.interrupts ≡ false → Found begun s.records o → Found is_reserved s.records o' → Pick s (or_else o o')
pick_begun s (Some i) o' k f g = inl (k, f.has)
pick_begun s None None k f g = g
pick_begun s None (Some i) k f g = inr (g, λ _. f)

pub pick : (s : State) → Pick s (choose s)
pick s =
    cond_both s.interrupts _ _ (Pick s)
    (λ k. pick_any s (lowest is_reserved s.records) k (found is_reserved s.records))
    (λ k. pick_begun s (lowest begun s.records) (lowest is_reserved s.records) k (found begun s.records) (found is_reserved s.records))

-- ---- what a feed does

pub data Shape (s : State) (rate slot : ℕ) : Stage → Meaning → Type 0 where
  flawed : (b d : ℕ) → Shape s rate slot (Ended slot (Flaw b d)) (with_entry s.port slot (blanked (entry_at s.port slot)))
  filled : (n : ℕ) → n ≤ rate → (entry_at s.port slot).written + n ≡ (entry_at s.port slot).size → Shape s rate slot (Running slot) (with_entry s.port slot (advanced n (entry_at s.port slot)))
  partial : (n : ℕ) → n ≡ rate → (entry_at s.port slot).written + n < (entry_at s.port slot).size → Shape s rate slot (Reserved slot) (with_entry s.port slot (advanced n (entry_at s.port slot)))

shape_at : (s : State) (slot : ℕ) (o : Option ℕ) → (entry_at s.port slot).written < (entry_at s.port slot).size →
    Shape s s.port.rate slot
    (fed_stage slot (Ok (fed_at o (entry_at s.port slot).board (chunk s.port.rate (entry_at s.port slot)))) ((entry_after o (chunk s.port.rate (entry_at s.port slot)) (entry_at s.port slot)).size - (entry_after o (chunk s.port.rate (entry_at s.port slot)) (entry_at s.port slot)).written))
    (with_entry s.port slot (entry_after o (chunk s.port.rate (entry_at s.port slot)) (entry_at s.port slot)))
shape_at s slot (Some b) h = Shape.flawed b (entry_at s.port slot).board
shape_at s slot None h =
    let e = entry_at s.port slot in
    let n = chunk s.port.rate e in
    cond_both (eqb (e.size - (e.written + n)) 0) (Running slot) (Reserved slot) (λ σ. Shape s s.port.rate slot σ (with_entry s.port slot (advanced n e)))
    (λ z. Shape.filled n (omega arith) (let x : e.written + n ≡ e.size = omega (arith, eqb-true _ _ z) in x))
    (λ z. Shape.partial n (let x : n ≡ s.port.rate = omega (arith, eqb-false _ _ z) in x) (omega (arith, eqb-false _ _ z)))

module _ (rate : ℕ) (some : 0 < rate) (s : State) (b : Placed s) (st : Stored rate s) where
  abbrev pub slot_at : ℕ → ℕ
  slot_at i = slot_of (at s.records i).stage

  abbrev pub ReservedAt : ℕ → Type 0
  ReservedAt i = reserved_stage (at s.records i).stage ≡ true

  pub partly_at : (i : ℕ) → i < 16 → ReservedAt i → Partly s.layout rate (at s.records i).accelerator (at s.records i).written (entry_at s.port (slot_at i))
  partly_at i c r = subst (EntryFor s.layout rate s.port (at s.records i).accelerator (at s.records i).written) (reserved_is _ r) (st.each i c)

  -- what is half written was written before
  begun_more : (i : ℕ) → i < 16 → ReservedAt i → half (entry_at s.port (slot_at i)) ≡ true → 0 < (at s.records i).written
  begun_more i c r h =
      let p = partly_at i c r in
      let v = (at s.records i).written in
      ⊎_elim (λ z. z) (λ z. absurd (let e : v ≡ 0 = omega arith in omega (arith, (half_parts (entry_at s.port (slot_at i)) h).0, p.written, ap (λ (x : ℕ). rate * x) e, mul-zero rate))) (cases_lt 0 v)

  module _ (inv : law.Inv (given s.layout rate s.interrupts) (view rate s)) (i : ℕ) (ch : Chosen s i) (pk : Picked s i) (roomy : Roomy (at s.records i)) where
    few : i < 16
    few = omega (arith, ch.there, b.tickets.size)

    low : slot_at i ≤ 31
    low = slot_low s b i few (reserved_occupant _ ch.reserved)

    -- nothing else is half written on a port that cannot be interrupted
    pub alone_begun : s.interrupts ≡ false → (t : ℕ) → (t ≡ slot_at i → ⊥) → half (entry_at s.port t) ≡ false
    alone_begun k t ne =
        ⊎_elim
        (λ h. let x = st.halves t h in
        let j = x.0 in
        let its : slot_at j ≡ t = ap slot_of x.2 in
        let rj : ReservedAt j = ap reserved_stage x.2 in
        let hj : half (entry_at s.port (slot_at j)) ≡ true = ap (λ (y : ℕ). half (entry_at s.port y)) its ∙ h in
        ⊎_elim
        (λ p. let bi = and_parts _ _ p.1 in
        let same : i ≡ j = inv.sole k i j few x.1 (seen_reserved _ ∙ ch.reserved) (ltb-true _ _ bi.1) (seen_reserved _ ∙ rj) (begun_more j x.1 rj hj) in
        absurd (ne (sym its ∙ ap slot_at (sym same))))
        (λ p. absurd (both_ways _ (p.1 k j (omega (arith, x.1, b.tickets.size))) (and_from _ _ rj (lt-ltb _ _ (begun_more j x.1 rj hj)))))
        pk)
        (λ h. h)
        (cases_Bool (half (entry_at s.port t)))

    taken : (not s.interrupts && other_half s.port (slot_at i)) ≡ false
    taken =
        ⊎_elim
        (λ k. and_left (not s.interrupts) _ (ap not k))
        (λ k. and_right (not s.interrupts) _ (no_other s.port (slot_at i) (λ t _. alone_begun k t)))
        (cases_Bool s.interrupts)

    pub shape : Shape s rate (slot_at i) (stage_fed s i) (feed_after s.interrupts s.port (slot_at i))
    shape =
        let m = s.port in
        let t = slot_at i in
        let e = entry_at m t in
        let p = partly_at i few ch.reserved in
        let is = feed_is s.interrupts m t low p.short taken in
        let tells = feed_tells s.interrupts m t low p.short taken in
        let here : entry_at (with_entry m t (fed_entry m.rate e)) t ≡ fed_entry m.rate e = entry_same m t (fed_entry m.rate e) (omega (arith, low, st.entries)) in
        let left : left_in (feed_after s.interrupts m t) t ≡ (fed_entry m.rate e).size - (fed_entry m.rate e).written = ap (λ x. left_in x t) is ∙ ap (λ x. x.size - x.written) here in
        let stage : stage_fed s i ≡ fed_stage t (Ok (fed m.rate e)) ((fed_entry m.rate e).size - (fed_entry m.rate e).written) =
        ap (λ x. fed_stage t x (left_in (feed_after s.interrupts m t) t)) tells ∙ ap (fed_stage t (Ok (fed m.rate e))) left in
        subst₂ (λ (x : Stage) (y : Meaning). Shape s rate t x y) (sym stage) (sym is)
        (subst (λ (r : ℕ). Shape s r t (fed_stage t (Ok (fed m.rate e)) ((fed_entry m.rate e).size - (fed_entry m.rate e).written)) (with_entry m t (fed_entry m.rate e))) st.rate_is (shape_at s t (struck m.rate e) p.short))

    -- the others keep their slots while the tick passes
    others : (j : ℕ) → j < 16 → (j ≡ i → ⊥) → occupant_stage (at (map aged s.records) j).stage ≡ true → slot_of (at (map aged s.records) j).stage ≡ slot_at i → ⊥
    others j c ne o z =
        let it : at (map aged s.records) j ≡ aged (at s.records j) = get_or-map aged s.records j blank blank (omega (arith, b.tickets.size)) in
        ne (alone s b j i c few (sym (ap (λ r. occupant_stage r.stage) it) ∙ o) (reserved_occupant _ ch.reserved) (sym (ap (λ r. slot_of r.stage) it) ∙ z))

    was : (t : ℕ) → (at (map aged s.records) i).stage ≡ Reserved t → t ≡ slot_at i
    was t e =
        let it : at (map aged s.records) i ≡ aged (at s.records i) = get_or-map aged s.records i blank blank ch.there in
        sym (ap slot_of (sym (ap (λ r. r.stage) it) ∙ e))

    -- one record and one entry change, while the tick passes
    one_fed : (σ : Stage) (e : Entry) (ls : List (List ℕ)) → EntryFor s.layout rate (with_entry s.port (slot_at i) e) (at s.records i).accelerator ((at s.records i).written + 1) σ → (half e ≡ true → σ ≡ Reserved (slot_at i)) → Stored rate (moved s (set (map aged s.records) i (fed_record (at s.records i) σ)) ls (with_entry s.port (slot_at i) e))
    one_fed σ e ls mine hs =
        stored_one rate (idle_on s) i (slot_at i) (fed_record (at s.records i) σ) ls e (stored_idle rate s st b.tickets.size)
        (omega (arith, length-map s.records aged, ch.there)) (length-map s.records aged ∙ b.tickets.size) others low
        (subst (λ (v : ℕ). EntryFor s.layout rate (with_entry s.port (slot_at i) e) (at s.records i).accelerator v σ) (sym (up_is _ roomy.written)) mine) hs was

    blank_again : (e : Entry) → shut_after (with_entry s.port (slot_at i) (blanked e)) (slot_at i) ≡ with_entry s.port (slot_at i) (blanked e)
    blank_again e =
        let t = slot_at i in
        let m = with_entry s.port t (blanked e) in
        let here : entry_at m t ≡ blanked e = entry_same s.port t (blanked e) (omega (arith, low, st.entries)) in
        let again : blanked (entry_at m t) ≡ entry_at m t = ap blanked here ∙ sym here in
        shut_is m t low ∙ ap (with_entry m t) again ∙ ap (λ (es : List Entry). let x : Meaning = record { rate = m.rate; entries = es } in x) (set-get_or m.entries t nothing)

    stored_as : (σ : Stage) (m : Meaning) → Shape s rate (slot_at i) σ m → Stored rate (written_as s i σ m)
    stored_as σ m (Shape.flawed f d) =
        let t = slot_at i in
        let e = entry_at s.port t in
        let ls = set s.lines (part s.layout (at s.records i)) (joined (line s (part s.layout (at s.records i))) t) in
        subst (λ x. Stored rate (moved s (set (map aged s.records) i (fed_record (at s.records i) (Ended t (Flaw f d)))) ls x)) (sym (blank_again e))
        (one_fed (Ended t (Flaw f d)) (blanked e) ls tt (λ h. no_true h))
    stored_as σ m (Shape.filled n small full) =
        let t = slot_at i in
        let e = entry_at s.port t in
        let p = partly_at i few ch.reserved in
        let here : entry_at (with_entry s.port t (advanced n e)) t ≡ advanced n e = entry_same s.port t (advanced n e) (omega (arith, low, st.entries)) in
        let entry : Wholly s.layout (at s.records i).accelerator (advanced n e) = record { image = p.image; size = p.size; written = full } in
        one_fed (Running t) (advanced n e) s.lines (subst (Wholly s.layout (at s.records i).accelerator) (sym here) entry)
        (λ h. absurd (omega (arith, (half_parts (advanced n e) h).1, full)))
    stored_as σ m (Shape.partial n all short) =
        let t = slot_at i in
        let e = entry_at s.port t in
        let v = (at s.records i).written in
        let p = partly_at i few ch.reserved in
        let here : entry_at (with_entry s.port t (advanced n e)) t ≡ advanced n e = entry_same s.port t (advanced n e) (omega (arith, low, st.entries)) in
        let entry : Partly s.layout rate (at s.records i).accelerator (v + 1) (advanced n e) =
        record { image = p.image; size = p.size; written = (let x : e.written + n ≡ rate * (v + 1) = omega (arith, p.written, mul-add rate v 1, mul-one rate) in x); short = short } in
        one_fed (Reserved t) (advanced n e) s.lines (subst (Partly s.layout rate (at s.records i).accelerator (v + 1)) (sym here) entry) (λ _. refl)

    pub stored_write : Stored rate (write s i)
    stored_write = stored_as (stage_fed s i) (feed_after s.interrupts s.port (slot_at i)) shape

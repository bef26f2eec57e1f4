-- What the port holds for each request: so much of a reserved one, all of a running one, and nothing half written for anyone else.
use Rattle.std.proofs.Common.{◌≡◌, ℕ, ◌+◌, ◌*◌, ◌<◌, ◌≤◌, true, false, eqb, List, map, length, set, sym, refl, ap, ◌∙◌, subst, ⊎_elim, mul-zero, arith}
use Rattle.std.proofs.lemmas.List.{get_or-map, get_or-set_same, length-set}
use Rattle.std.proofs.lemmas.Bool.{cases_eq, eqb-true, and_parts, both_ways}
use Rattle.plan.specs.Rules.{Layout}
use Rattle.delays.specs.Delays.{partition_at, accelerator_at}
use Rattle.ports.specs.Meaning.{Entry, Meaning, entry_at, half}
use Rattle.ports.specs.Calls.{with_entry, opened, blanked}
use Rattle.ports.specs.CallLaws.{open_is, shut_is, entry_same, entry_other}
use Rattle.model.specs.declared.requests.Outcome.{Outcome}
use Rattle.model.specs.declared.requests.Stage.{Stage}
use Rattle.model.specs.declared.requests.Stage.TheVariants.{Empty, Queued, Reserved, Running, Ended}
use Rattle.model.specs.declared.requests.Record.{Record}
use Rattle.model.specs.Records.{blank, at, queued_stage, reserved_stage, occupant_stage, unended_stage, held_stage, slot_of, staged, aged, new}
use Rattle.model.specs.States.{State, moved, line, part}
use Rattle.model.specs.Moves.{joined, grant, free, finish, idle_on}
use Rattle.model.specs.Calls.{enter, empty}
use Rattle.model.proofs.Stages.{no_true, queued_held, running_occupant, free_not_reserved, over_not_reserved, running_not, queued_not}
use Rattle.model.proofs.Tables.{at_set}
use Rattle.model.proofs.Ways.{Grants, Ends}
use Rattle.model.proofs.Tickets.{Held}
use Rattle.model.proofs.Slots.{slot_few}
use Rattle.model.proofs.Placed.{Placed, alone, line_free, slot_low}

-- of accelerator a so much is written as v ticks write, and more is left
pub record Partly (l : Layout) (rate a v : ℕ) (e : Entry) : Type 0 where
  pub image : e.image ≡ a
  pub size : e.size ≡ (partition_at l (accelerator_at l a).partition).size
  pub written : e.written ≡ rate * v
  pub short : e.written < e.size

pub record Wholly (l : Layout) (a : ℕ) (e : Entry) : Type 0 where
  pub image : e.image ≡ a
  pub size : e.size ≡ (partition_at l (accelerator_at l a).partition).size
  pub written : e.written ≡ e.size

abbrev pub EntryFor : Layout → ℕ → Meaning → ℕ → ℕ → Stage → Type 0
EntryFor l rate m a v Empty = Unit {0}
EntryFor l rate m a v Queued = Unit {0}
EntryFor l rate m a v (Reserved t) = Partly l rate a v (entry_at m t)
EntryFor l rate m a v (Running t) = Wholly l a (entry_at m t)
EntryFor l rate m a v (Ended t o) = Unit {0}

abbrev pub HeldFor : Layout → ℕ → Meaning → Record → Type 0
HeldFor l rate m r = EntryFor l rate m r.accelerator r.written r.stage

-- the port holds what the records say, and nothing else is half written
pub record Stored (rate : ℕ) (s : State) : Type 0 where
  pub rate_is : s.port.rate ≡ rate
  pub entries : length s.port.entries ≡ 32
  pub each : (i : ℕ) → i < 16 → HeldFor s.layout rate s.port (at s.records i)
  pub halves : (t : ℕ) → half (entry_at s.port t) ≡ true → (i : ℕ) × (i < 16) × ((at s.records i).stage ≡ Reserved t)

-- an entry elsewhere does not matter
entry_elsewhere : (l : Layout) (rate : ℕ) (m : Meaning) (slot : ℕ) (e : Entry) (a v : ℕ) (σ : Stage) → (occupant_stage σ ≡ true → slot_of σ ≡ slot → ⊥) → EntryFor l rate m a v σ → EntryFor l rate (with_entry m slot e) a v σ
entry_elsewhere l rate m slot e a v Empty ne x = tt
entry_elsewhere l rate m slot e a v Queued ne x = tt
entry_elsewhere l rate m slot e a v (Reserved t) ne x = subst (Partly l rate a v) (sym (entry_other m slot t e (ne refl))) x
entry_elsewhere l rate m slot e a v (Running t) ne x = subst (Wholly l a) (sym (entry_other m slot t e (ne refl))) x
entry_elsewhere l rate m slot e a v (Ended t o) ne x = tt

-- one record and one entry change
pub stored_one : (rate : ℕ) (s : State) (i slot : ℕ) (q : Record) (ls : List (List ℕ)) (e : Entry) → Stored rate s → i < length s.records → length s.records ≡ 16
    → ((j : ℕ) → j < 16 → (j ≡ i → ⊥) → occupant_stage (at s.records j).stage ≡ true → slot_of (at s.records j).stage ≡ slot → ⊥)
    → slot ≤ 31
    → EntryFor s.layout rate (with_entry s.port slot e) q.accelerator q.written q.stage
    → (half e ≡ true → q.stage ≡ Reserved slot)
    → ((t : ℕ) → (at s.records i).stage ≡ Reserved t → t ≡ slot)
    → Stored rate (moved s (set s.records i q) ls (with_entry s.port slot e))
stored_one rate s i slot q ls e st b size others low mine halfs was =
    let m = s.port in
    record {
      rate_is = st.rate_is;
      entries = length-set m.entries slot e ∙ st.entries;
      each = λ j c. at_set (HeldFor s.layout rate (with_entry m slot e)) s.records i q j b (λ _. mine)
          (λ ne. entry_elsewhere s.layout rate m slot e _ _ (at s.records j).stage (others j c ne) (st.each j c));
      halves = λ t h.
          ⊎_elim
          (λ z. let here : entry_at (with_entry m slot e) t ≡ e = ap (entry_at (with_entry m slot e)) z ∙ entry_same m slot e (omega (arith, st.entries)) in
          let same : (at (set s.records i q) i).stage ≡ Reserved t = ap (λ r. r.stage) (get_or-set_same s.records i q blank b) ∙ halfs (sym (ap half here) ∙ h) ∙ ap Reserved (sym z) in
          (i, (let x : i < 16 = omega arith in x), same))
          (λ ne. let old = st.halves t (sym (ap half (entry_other m slot t e ne)) ∙ h) in
          let j = old.0 in (
            j,
            old.1,
            at_set (λ r. r.stage ≡ Reserved t) s.records i q j b
                (λ z. absurd (ne (was t (ap (λ (x : ℕ). (at s.records x).stage) (sym z) ∙ old.2)))) (λ _. old.2),
          ))
          (cases_eq t slot);
    }

-- a record that has no entry changes to one that has none
stored_none : (rate : ℕ) (s : State) (i n : ℕ) (q : Record) → Stored rate s → i < length s.records → EntryFor s.layout rate s.port q.accelerator q.written q.stage → reserved_stage (at s.records i).stage ≡ false → Stored rate (record { layout = s.layout; interrupts = s.interrupts; records = set s.records i q; lines = s.lines; next = n; port = s.port })
stored_none rate s i n q st b mine was =
    record {
      rate_is = st.rate_is;
      entries = st.entries;
      each = λ j c. at_set (HeldFor s.layout rate s.port) s.records i q j b (λ _. mine) (λ _. st.each j c);
      halves = λ t h.
          let old = st.halves t h in
          let j = old.0 in (
            j,
            old.1,
            at_set (λ r. r.stage ≡ Reserved t) s.records i q j b
                (λ z. absurd (both_ways _ was (ap (λ (x : ℕ). reserved_stage (at s.records x).stage) (sym z) ∙ ap reserved_stage old.2))) (λ _. old.2),
          );
    }

pub stored_enter : (rate : ℕ) (s : State) (i a : ℕ) → Stored rate s → i < length s.records → held_stage (at s.records i).stage ≡ false → Stored rate (enter s i a)
stored_enter rate s i a st b free = stored_none rate s i (s.next + 1) (new a s.next) st b tt (free_not_reserved _ free)

pub stored_empty : (rate : ℕ) (s : State) (i : ℕ) → Stored rate s → i < length s.records → unended_stage (at s.records i).stage ≡ false → Stored rate (empty s i)
stored_empty rate s i st b over = stored_none rate s i s.next blank st b tt (over_not_reserved _ over)

pub stored_idle : (rate : ℕ) (s : State) → Stored rate s → length s.records ≡ 16 → Stored rate (idle_on s)
stored_idle rate s st size =
    let it : (j : ℕ) → j < 16 → at (map aged s.records) j ≡ aged (at s.records j) = λ j c. get_or-map aged s.records j blank blank (omega (arith, size)) in
    record {
      rate_is = st.rate_is;
      entries = st.entries;
      each = λ j c. subst (HeldFor s.layout rate s.port) (sym (it j c)) (st.each j c);
      halves = λ t h. let old = st.halves t h in (old.0, old.1, ap (λ r. r.stage) (it old.0 old.1) ∙ old.2);
    }

module _ (rate : ℕ) (s : State) (b : Placed s) (st : Stored rate s) where
  image_low : (i : ℕ) → i < 16 → Held (at s.records i) → (at s.records i).accelerator ≤ 31
  image_low i c hd =
      let o = b.tickets.owned i c hd in
      let a = b.rules.accelerators _ o.there in
      omega (arith, o.there, (b.rules.counts.1 (omega (arith, a.1))).3)

  pub stored_grant : (k i slot : ℕ) (rest : List ℕ) → Grants s k i slot rest → (at s.records i).written ≡ 0 → Stored rate (grant s k i slot rest)
  stored_grant k i slot rest g fresh =
      let r = at s.records i in
      let q = and_parts (queued_stage r.stage) (eqb (part s.layout r) k) g.lowest.has in
      let mine : part s.layout r ≡ k = eqb-true _ _ q.1 in
      let few : i < 16 = omega (arith, g.lowest.within, b.tickets.size) in
      let f = line_free s b k slot rest g.there g.first in
      let low : slot ≤ 31 = omega (arith, slot_few s.layout k slot b.rules f.0) in
      let kept = b.rules.partitions k (omega (arith, g.there, b.rows)) in
      let z = (partition_at s.layout k).size in
      let e = opened (entry_at s.port slot) r.accelerator z in
      let is = open_is s.port slot r.accelerator z low (image_low i few (queued_held _ q.0)) kept.2.0 kept.2.1 in
      let here : entry_at (with_entry s.port slot e) slot ≡ e = entry_same s.port slot e (omega (arith, st.entries)) in
      let entry : Partly s.layout rate r.accelerator r.written e =
      record { image = refl; size = ap (λ (x : ℕ). (partition_at s.layout x).size) (sym mine); written = (let x : 0 ≡ rate * r.written = omega (arith, ap (λ (n : ℕ). rate * n) fresh, mul-zero rate) in x); short = omega (arith, kept.2.0) } in
      subst (λ m. Stored rate (moved s (set s.records i (staged r (Reserved slot))) (set s.lines k rest) m)) (sym is)
      (stored_one rate s i slot (staged r (Reserved slot)) (set s.lines k rest) e st g.lowest.within b.tickets.size
      (λ j c ne. f.1 j c) low (subst (Partly s.layout rate r.accelerator r.written) (sym here) entry) (λ _. refl)
      (λ t y. absurd (queued_not _ t q.0 y)))

  pub stored_finish : (i : ℕ) (o : Outcome) → Ends s i → Stored rate (finish s i o)
  stored_finish i o e =
      let r = at s.records i in
      let slot = slot_of r.stage in
      let few : i < 16 = omega (arith, e.there, b.tickets.size) in
      let occ = running_occupant _ e.runs in
      let low : slot ≤ 31 = slot_low s b i few occ in
      let ls = set s.lines (part s.layout r) (joined (line s (part s.layout r)) slot) in
      subst (λ m. Stored rate (moved s (set s.records i (staged r (Ended slot o))) ls m)) (sym (shut_is s.port slot low))
      (stored_one rate s i slot (staged r (Ended slot o)) ls (blanked (entry_at s.port slot)) st e.there b.tickets.size
      (λ j c ne oc z. ne (alone s b j i c few oc occ z)) low tt (λ h. no_true h)
      (λ t y. absurd (running_not _ t e.runs y)))

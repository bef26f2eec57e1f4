-- Each slot of the plan stands in its line or has an occupant, in every state and between the moves of a call.
use Rattle.std.proofs.Common.{◌≡◌, ℕ, ◌+◌, ◌<◌, ◌≤◌, Bool, true, ◌&&◌, eqb, List, [], ◌∷◌, length, get_or, replicate, Some, None, sum_by, count_by, Option, sym, refl, ap, ◌∙◌, subst, inl, inr, ⊎_elim, arith}
use Rattle.std.specs.List.{range_with_len}
use Rattle.std.proofs.lemmas.List.{get_or_past, length-set}
use Rattle.std.proofs.lemmas.List.Sums.{sum_by-cons, get_or-le-sum_by}
use Rattle.std.proofs.lemmas.Bool.{cases_eq, cases_lt, cases_Bool, eq-eqb, ne_eqb, cond-true, cond-false}
use Rattle.plan.specs.Rules.{Layout, Rules}
use Rattle.plan.specs.Slots.{first_slot, SlotIn}
use Rattle.delays.specs.Delays.{partition_at}
use Rattle.delays.proofs.Bounds.{tasks_within}
use Rattle.ports.specs.Meaning.{Meaning}
use Rattle.model.specs.declared.requests.Outcome.{Outcome}
use Rattle.model.specs.Records.{blank, at, one, occupant_stage, slot_of, new}
use Rattle.model.specs.States.{State, line, part, lines_from, start}
use Rattle.model.specs.Moves.{grant, finish, write, idle_on, advance}
use Rattle.model.specs.Calls.{enter, empty}
use Rattle.model.specs.Promises.{standing, has_slot, having, Shared}
use Rattle.model.proofs.Stages.{reserved_held, running_held, reserved_occupant, running_occupant, occupant_held, over_free, empty_free}
use Rattle.model.proofs.Tables.{sum_same, two_of}
use Rattle.model.proofs.Ways.{rows_on, Way, Grants, Ends, keeps}
use Rattle.model.proofs.Sames.{Chosen, Choice, same_way, same_write, same_aged, framed_advance}
use Rattle.model.proofs.Happens.{Accepts, Collects}
use Rattle.model.proofs.Tickets.{Held, Tickets, tickets_start, tickets_same, tickets_enter, tickets_empty}
use Rattle.model.proofs.Bases.{lines_length}
use Rattle.model.proofs.Slots.{lines_at, is, is_so, count_before, count_past, count_in, count_all, sum_ones, slot_unique, slot_few}
use Rattle.model.proofs.Balances.{load, load_none, load_here, balanced, balance_none, balanced_grant, balanced_finish, balanced_write, balanced_idle, load_zero}

blank_load : (l : Layout) (k : ℕ) (w : ℕ → ℕ) → sum_by (load l k w) (replicate 16 blank) ≡ 0
unfolding load
blank_load l k w = refl

-- what plan, records and lines keep in every state of a run, and between the moves of a call
pub record Placed (s : State) : Type 0 where
  pub rules : Rules s.layout
  pub rows : length s.lines ≡ length s.layout.partitions
  pub tickets : Tickets s.layout s.records s.next
  pub evens : (k : ℕ) (w : ℕ → ℕ) → balanced k w s ≡ sum_by w (get_or (lines_from 0 s.layout.partitions) k [])

pub placed_part : (s : State) → Placed s → (i : ℕ) → i < length s.records → Held (at s.records i) → part s.layout (at s.records i) < length s.lines
placed_part s b i c hd =
    let o = b.tickets.owned i (omega (arith, b.tickets.size)) hd in
    omega (arith, b.rows, (b.rules.accelerators _ o.there).0)

pub placed_grant : (s : State) (p i slot : ℕ) (rest : List ℕ) → Grants s p i slot rest → Placed s → Placed (grant s p i slot rest)
placed_grant s p i slot rest g b =
    record {
      rules = b.rules;
      rows = length-set _ _ _ ∙ b.rows;
      tickets = tickets_same _ b.tickets (same_way (Way.grants p i slot rest g (Way.none {s = grant s p i slot rest})));
      evens = λ k w. balanced_grant k w s p i slot rest g ∙ b.evens k w;
    }

module _ (s : State) (b : Placed s) where
  -- a weight over the slots of partition k
  even_at : (k : ℕ) (w : ℕ → ℕ) → k < length s.layout.partitions → balanced k w s ≡ sum_by w (range_with_len (first_slot s.layout k) (partition_at s.layout k).slots)
  even_at k w c =
      let ps = s.layout.partitions in
      b.evens k w
      ∙ ap (sum_by w) (lines_at 0 ps k c)
      ∙ ap (λ (x : ℕ). sum_by w (range_with_len x (partition_at s.layout k).slots)) (let z : 0 + first_slot s.layout k ≡ first_slot s.layout k = omega arith in z)

  -- the line and the occupants of a partition together are as many as its slots
  full_count : (k : ℕ) → k < length s.layout.partitions → length (line s k) + sum_by (load s.layout k (λ x. 1)) s.records ≡ (partition_at s.layout k).slots
  full_count k c = omega (arith, even_at k (λ x. 1) c, count_all (first_slot s.layout k) (partition_at s.layout k).slots, sum_ones (line s k))

  -- an occupant's line has room for its slot
  pub room : (i : ℕ) → i < length s.records → occupant_stage (at s.records i).stage ≡ true → length (line s (part s.layout (at s.records i))) < 8
  room i c o =
      let k = part s.layout (at s.records i) in
      let k-in : k < length s.layout.partitions = omega (arith, placed_part s b i c (occupant_held _ o), b.rows) in
      omega (arith, full_count k k-in, (b.rules.partitions k k-in).1.1, get_or-le-sum_by (load s.layout k (λ x. 1)) s.records i blank c, load_here s.layout k (λ x. 1) (at s.records i) o refl)

pub placed_finish : (s : State) (i : ℕ) (o : Outcome) → Ends s i → Placed s → Placed (finish s i o)
placed_finish s i o e b =
    record {
      rules = b.rules;
      rows = length-set _ _ _ ∙ b.rows;
      tickets = tickets_same _ b.tickets (same_way (Way.ends i o e (Way.none {s = finish s i o})));
      evens = λ k w. balanced_finish k w s i o e (placed_part s b i e.there (running_held _ e.runs)) (room s b i e.there (running_occupant _ e.runs)) ∙ b.evens k w;
    }

pub placed_write : (s : State) (i : ℕ) → Chosen s i → Placed s → Placed (write s i)
placed_write s i c b =
    let f = framed_advance s (Some i) in
    record {
      rules = subst Rules (sym f.layout) b.rules;
      rows = rows_on s (write s i) b.rows f;
      tickets = subst (λ (x : Layout). Tickets x (write s i).records (write s i).next) (sym f.layout) (subst (Tickets s.layout (write s i).records) (sym f.next) (tickets_same _ b.tickets (same_write s i c.there c.reserved)));
      evens = λ k w. balanced_write k w s i c (placed_part s b i c.there (reserved_held _ c.reserved)) (room s b i c.there (reserved_occupant _ c.reserved)) ∙ b.evens k w ∙ ap (λ (x : Layout). sum_by w (get_or (lines_from 0 x.partitions) k [])) (sym f.layout);
    }

pub placed_idle : (s : State) → Placed s → Placed (idle_on s)
placed_idle s b =
    record {
      rules = b.rules;
      rows = b.rows;
      tickets = tickets_same _ b.tickets (same_aged s.records);
      evens = λ k w. balanced_idle k w s ∙ b.evens k w;
    }

pub placed_way : {s s' : State} → Way s s' → Placed s → Placed s'
placed_way v = keeps Placed placed_grant placed_finish v

pub placed_advance : (s : State) (o : Option ℕ) → Choice s o → Placed s → Placed (advance s o)
placed_advance s None c b = placed_idle s b
placed_advance s (Some i) c b = placed_write s i c b

pub few_placed : (s : State) (task : ℕ) → Placed s → task < s.layout.tasks → task < 16
few_placed s task b c = omega (arith, tasks_within s.layout b.rules)

pub placed_enter : (s : State) (i a : ℕ) → Accepts s i a → Placed s → Placed (enter s i a)
placed_enter s i a c b =
    let few : i < 16 = few_placed s i b c.task_in in
    let lr : i < length s.records = omega (arith, b.tickets.size) in
    record {
      rules = b.rules;
      rows = b.rows;
      tickets = tickets_enter i a b.tickets few c.room c.accelerator_in c.owned;
      evens = λ k w. balance_none s.layout k w s.records s.lines i (new a s.next) lr (empty_free _ c.free) refl ∙ b.evens k w;
    }

pub placed_empty : (s : State) (i t : ℕ) → Collects s i t → Placed s → Placed (empty s i)
placed_empty s i t c b =
    let few : i < 16 = few_placed s i b c.task_in in
    let lr : i < length s.records = omega (arith, b.tickets.size) in
    record {
      rules = b.rules;
      rows = b.rows;
      tickets = tickets_empty i b.tickets few;
      evens = λ k w. balance_none s.layout k w s.records s.lines i blank lr (over_free _ c.ended) refl ∙ b.evens k w;
    }

pub placed_start : (l : Layout) (kd : Bool) (first : ℕ) (m : Meaning) → Rules l → first ≤ 4294967295 → Placed (start l kd first m)
placed_start l kd first m rules low = record {
  rules = rules;
  rows = lines_length 0 l.partitions;
  tickets = tickets_start l first low;
  evens = λ k w. let z : sum_by w (get_or (lines_from 0 l.partitions) k []) + sum_by (load l k w) (replicate 16 blank) ≡ sum_by w (get_or (lines_from 0 l.partitions) k []) = omega (arith, blank_load l k w) in z;
}

module _ (s : State) (b : Placed s) where
  -- what stands in a line or is occupied for a partition is one of its slots
  one_of : (k t : ℕ) → k < length s.layout.partitions → 0 < balanced k (is t) s → SlotIn s.layout t k
  one_of k t c d =
      let a = first_slot s.layout k in
      let n = (partition_at s.layout k).slots in
      ⊎_elim (λ z. absurd (omega (arith, even_at s b k (is t) c, count_before t a n z)))
      (λ z. ⊎_elim (λ y. record { there = c; from = z; below = y }) (λ y. absurd (omega (arith, even_at s b k (is t) c, count_past t a n y))) (cases_lt t (a + n)))
      (cases_lt t a)

  abbrev Occupant : ℕ → Type 0
  Occupant i = occupant_stage (at s.records i).stage ≡ true

  abbrev slot_at : ℕ → ℕ
  slot_at i = slot_of (at s.records i).stage

  pub own_slot : (i : ℕ) → i < 16 → Occupant i → SlotIn s.layout (slot_at i) (part s.layout (at s.records i))
  own_slot i c o =
      let k = part s.layout (at s.records i) in
      let t = slot_at i in
      let c' : i < length s.records = omega (arith, b.tickets.size) in
      let k-in : k < length s.layout.partitions = omega (arith, placed_part s b i c' (occupant_held _ o), b.rows) in
      let mine : load s.layout k (is t) (at s.records i) ≡ 1 = load_here s.layout k (is t) (at s.records i) o refl ∙ cond-true (eqb t t) 1 0 (eq-eqb t t refl) in
      one_of k t k-in (omega (arith, get_or-le-sum_by (load s.layout k (is t)) s.records i blank c', mine))

  -- no two have the same slot
  pub alone : (i j : ℕ) → i < 16 → j < 16 → Occupant i → Occupant j → slot_at i ≡ slot_at j → i ≡ j
  alone i j c d o q e =
      let l' = s.layout in
      let k = part l' (at s.records i) in
      let t = slot_at i in
      let si = own_slot i c o in
      let sj : SlotIn l' t (part l' (at s.records j)) = subst (λ (x : ℕ). SlotIn l' x (part l' (at s.records j))) (sym e) (own_slot j d q) in
      let same : part l' (at s.records j) ≡ k = slot_unique l' _ _ t sj si in
      let ones : (x : ℕ) → x ≡ t → is t x ≡ 1 = λ x z. cond-true (eqb x t) 1 0 (eq-eqb x t z) in
      let fi : load l' k (is t) (at s.records i) ≡ 1 = load_here l' k (is t) (at s.records i) o refl ∙ ones t refl in
      let fj : load l' k (is t) (at s.records j) ≡ 1 = load_here l' k (is t) (at s.records j) q same ∙ ones (slot_at j) (sym e) in
      let n = even_at s b k (is t) si.there in
      ⊎_elim (λ z. sym z)
      (λ ne. absurd (omega (arith, two_of (load l' k (is t)) blank s.records i j (omega (arith, b.tickets.size)) (omega (arith, b.tickets.size)) ne (load_none l' k (is t) blank refl), fi, fj, n, count_in t (first_slot l' k) (partition_at l' k).slots si.from si.below)))
      (cases_eq j i)

  -- a slot that stands first in a line has no occupant
  pub line_free : (k slot : ℕ) (rest : List ℕ) → k < length s.lines → line s k ≡ slot ∷ rest → (SlotIn s.layout slot k) × ((j : ℕ) → j < 16 → Occupant j → slot_at j ≡ slot → ⊥)
  line_free k slot rest c e =
      let l' = s.layout in
      let kc : k < length l'.partitions = omega (arith, b.rows) in
      let stands : sum_by (is slot) (line s k) ≡ 1 + sum_by (is slot) rest = ap (sum_by (is slot)) e ∙ sum_by-cons (is slot) slot rest ∙ ap (λ (n : ℕ). n + sum_by (is slot) rest) (is_so slot slot refl) in
      let so : SlotIn l' slot k = one_of k slot kc (omega (arith, stands)) in (
        so,
        λ j d o z.
            let mine : part l' (at s.records j) ≡ k = slot_unique l' _ _ slot (subst (λ (x : ℕ). SlotIn l' x (part l' (at s.records j))) z (own_slot j d o)) so in
            let fj : load l' k (is slot) (at s.records j) ≡ 1 = load_here l' k (is slot) (at s.records j) o mine ∙ is_so slot (slot_at j) z in
            omega (arith, stands, fj, get_or-le-sum_by (load l' k (is slot)) s.records j blank (omega (arith, b.tickets.size)), even_at s b k (is slot) kc, count_in slot (first_slot l' k) (partition_at l' k).slots so.from so.below),
      )

  pub slot_low : (i : ℕ) → i < 16 → Occupant i → slot_at i ≤ 31
  slot_low i c o = omega (arith, slot_few s.layout _ (slot_at i) b.rules (own_slot i c o))

  having_load : (k t : ℕ) → SlotIn s.layout t k → having s t ≡ sum_by (load s.layout k (is t)) s.records
  having_load k t so =
      let l' = s.layout in
      sum_same (λ q. one (has_slot t q)) (load l' k (is t)) blank blank s.records s.records refl
      (λ j c. let q = at s.records j in
      ⊎_elim
      (λ o. ⊎_elim
      (λ z. let mine : part l' q ≡ k = slot_unique l' _ _ t (subst (λ (x : ℕ). SlotIn l' x (part l' q)) z (own_slot j (omega (arith, b.tickets.size)) o)) so in
      ap (λ (x : Bool). one (x && eqb (slot_of q.stage) t)) o ∙ sym (load_here l' k (is t) q o mine))
      (λ ne. ap (λ (x : Bool). one (x && eqb (slot_of q.stage) t)) o
      ∙ cond-false (eqb (slot_of q.stage) t) 1 0 (ne_eqb _ _ ne)
      ∙ sym (load_zero l' k (is t) q (cond-false (eqb (slot_of q.stage) t) 1 0 (ne_eqb _ _ ne))))
      (cases_eq (slot_of q.stage) t))
      (λ o. ap (λ (x : Bool). one (x && eqb (slot_of q.stage) t)) o ∙ sym (load_none l' k (is t) q o))
      (cases_Bool (occupant_stage q.stage)))

  pub shared : Shared s
  shared = record {
    either = λ k t so.
        let n = even_at s b k (is t) so.there in
        let m = count_in t (first_slot s.layout k) (partition_at s.layout k).slots so.from so.below in
        ⊎_elim
        (λ z. inl ((let x : standing s k t ≡ 1 = omega (arith, n, m) in x), (let x : having s t ≡ 0 = omega (arith, n, m, having_load k t so) in x)))
        (λ z. inr ((let x : standing s k t ≡ 0 = omega arith in x), (let x : having s t ≡ 1 = omega (arith, n, m, having_load k t so) in x)))
        (cases_lt 0 (standing s k t));
    nowhere = λ k j t so ne.
        ⊎_elim
        (λ c. ⊎_elim (λ z. absurd (ne (slot_unique s.layout j k t (one_of j t c (omega arith)) so))) (λ z. omega arith) (cases_lt 0 (standing s j t)))
        (λ c. ap (count_by (λ x. eqb x t)) (get_or_past s.lines j [] (omega (arith, b.rows))))
        (cases_lt j (length s.layout.partitions));
  }

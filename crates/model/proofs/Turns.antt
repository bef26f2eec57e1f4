-- Slots change hands by ticket and in line: how the moves of a call do it, and so every call.
use Rattle.std.proofs.Common.{◌≡◌, ℕ, suc, ◌+◌, ◌<◌, true, false, eqb, List, [], ◌∷◌, ◌++◌, map, length, get_or, set, Some, None, Option, sym, refl, ap, ◌∙◌, subst, ⊎_elim, Result, arith}
use Rattle.std.proofs.lemmas.List.{append-nil, append_assoc, get_or_append_left, get_or_push, get_or-map, get_or-set_same, get_or-set_other, length-map, length_push, map_push}
use Rattle.std.proofs.lemmas.Bool.{cases_eq, cases_lt, eq-eqb, eqb-true, and_parts, and_from, both_ways, cases_Bool}
use Rattle.plan.specs.Rules.{Layout}
use Rattle.ports.specs.Calls.{feed_answer, feed_after}
use Rattle.model.specs.declared.requests.Outcome.{Outcome}
use Rattle.model.specs.declared.requests.Outcome.TheVariants.{Finished}
use Rattle.model.specs.declared.requests.Stage.{Stage}
use Rattle.model.specs.declared.requests.Stage.TheVariants.{Empty, Reserved, Ended}
use Rattle.model.specs.declared.requests.Record.{Record}
use Rattle.model.specs.declared.calls.Call.{Call}
use Rattle.model.specs.declared.refusals.Refusal.{Refusal}
use Rattle.model.specs.declared.calls.Answer.{Answer}
use Rattle.model.specs.Records.{blank, at, queued_stage, reserved_stage, slot_of, staged, aged, fed_record, new}
use Rattle.model.specs.States.{State, moved, line, part}
use Rattle.model.specs.Moves.{queued_in, joined, grant, finish, left_in, stage_fed, freed_by, write, idle_on, advance, ready, choose}
use Rattle.model.specs.Calls.{enter, empty}
use Rattle.model.specs.Grants.{slotted_stage, Got, its_slot, its_ticket, Turns}
use Rattle.model.proofs.Stages.{no_true, queued_held, reserved_occupant, running_occupant, occupant_held, queued_bare, free_bare, occupant_slotted}
use Rattle.model.proofs.Tables.{at_set}
use Rattle.model.proofs.Ways.{Way, Grants, Ends, keeps, way_settle}
use Rattle.model.proofs.Sames.{Choice, chosen, freed_records, freed_framed, way_ready, way_after}
use Rattle.model.proofs.Happens.{Happened}
use Rattle.model.proofs.Bases.{ends_run}
use Rattle.model.proofs.Balances.{FedTo, fed_to, joined_room}
use Rattle.model.proofs.Placed.{Placed, placed_part, placed_grant, placed_finish, placed_way, placed_advance, room, few_placed, placed_enter}

map_same : {A B : Type 0} (f g : A → B) (d : A) (xs : List A) → ((n : ℕ) → n < length xs → f (get_or xs n d) ≡ g (get_or xs n d)) → map f xs ≡ map g xs
map_same f g d [] h = refl
map_same f g d (x ∷ xs) h = ap (λ y. y ∷ map f xs) (h 0 (omega arith)) ∙ ap (λ ys. g x ∷ ys) (map_same f g d xs (λ n b. h (suc n) (omega arith)))

-- ---- a move that grants nothing in partition k

-- a record of partition k keeps its slot, and is queued only if it was
record KeepsTurn (l : Layout) (k : ℕ) (r q : Record) : Type 0 where
  ticket : q.ticket ≡ r.ticket
  accelerator : q.accelerator ≡ r.accelerator
  slotted : part l r ≡ k → slotted_stage q.stage ≡ slotted_stage r.stage
  slot : part l r ≡ k → slotted_stage r.stage ≡ true → slot_of q.stage ≡ slot_of r.stage
  queued : part l r ≡ k → queued_stage q.stage ≡ true → queued_stage r.stage ≡ true

keeps_itself : (l : Layout) (k : ℕ) (r : Record) → KeepsTurn l k r r
keeps_itself l k r = record { ticket = refl; accelerator = refl; slotted = λ _. refl; slot = λ _ _. refl; queued = λ _ e. e }

-- how the slots of k changed hands since state s₀, and that no request of k lost its slot on the way
record Turning (s₀ : State) (k : ℕ) (s : State) : Type 0 where
  turns : Turns s₀ s k
  stays : (j : ℕ) → j < 16 → part s.layout (at s.records j) ≡ k → slotted_stage (at s₀.records j).stage ≡ true → slotted_stage (at s.records j).stage ≡ true

module _ (s₀ : State) (k : ℕ) (s s' : State) (same : s'.layout ≡ s.layout) (each : (j : ℕ) → j < 16 → KeepsTurn s.layout k (at s.records j) (at s'.records j)) where
  part_same : (j : ℕ) → j < 16 → part s'.layout (at s'.records j) ≡ part s.layout (at s.records j)
  part_same j c = ap (λ (l : Layout). part l (at s'.records j)) same ∙ ap (λ (a : ℕ). part s.layout (record { accelerator = a; ticket = 0; stage = Empty; waited = 0; written = 0; run = 0 })) (each j c).accelerator

  got_back : (j : ℕ) → j < 16 → Got s₀ s' k j → Got s₀ s k j
  got_back j c g =
      let p : part s.layout (at s.records j) ≡ k = sym (part_same j c) ∙ g.mine in
      record { before = g.before; after = sym ((each j c).slotted p) ∙ g.after; mine = p }

  got_on : (j : ℕ) → j < 16 → Got s₀ s k j → Got s₀ s' k j
  got_on j c g = record { before = g.before; after = (each j c).slotted g.mine ∙ g.after; mine = part_same j c ∙ g.mine }

  queued_back : (j : ℕ) → j < 16 → queued_in s'.layout k (at s'.records j) ≡ true → queued_in s.layout k (at s.records j) ≡ true
  queued_back j c e =
      let q = and_parts (queued_stage (at s'.records j).stage) (eqb (part s'.layout (at s'.records j)) k) e in
      let p : part s.layout (at s.records j) ≡ k = sym (part_same j c) ∙ eqb-true _ _ q.1 in
      and_from _ _ ((each j c).queued p q.0) (eq-eqb _ _ p)

  carry : (extra : List ℕ) → line s' k ≡ line s k ++ extra → Turning s₀ k s → Turning s₀ k s'
  carry extra ln tn =
      let t = tn.turns in
      let low : (n : ℕ) → n < length t.granted → get_or t.granted n 0 < 16 = λ n b. (t.only n b).0 in
      let ticket : (n : ℕ) → n < length t.granted → its_ticket s' (get_or t.granted n 0) ≡ its_ticket s (get_or t.granted n 0) = λ n b. (each _ (low n b)).ticket in
      record {
        turns = record {
          granted = t.granted;
          freed = t.freed ++ extra;
          all = λ i c g. t.all i c (got_back i c g);
          only = λ n b. (low n b, got_on _ (low n b) (t.only n b).1);
          rising = λ m n lt b. let lm : m < length t.granted = omega arith in omega (arith, t.rising m n lt b, ticket m lm, ticket n b);
          ahead = λ n j b c e. omega (arith, t.ahead n j b c (queued_back j c e), ticket n b, (each j c).ticket);
          lines =
              sym (append_assoc (line s₀ k) t.freed extra)
              ∙ ap (λ (xs : List ℕ). xs ++ extra) t.lines
              ∙ append_assoc (map (its_slot s) t.granted) (line s k) extra
              ∙ ap (λ (xs : List ℕ). map (its_slot s) t.granted ++ xs) (sym ln)
              ∙ ap (λ (xs : List ℕ). xs ++ line s' k) (sym (map_same (its_slot s') (its_slot s) 0 t.granted (λ n b. let g = (t.only n b).1 in (each _ (low n b)).slot g.mine g.after)));
        };
        stays = λ j c p e. let p' : part s.layout (at s.records j) ≡ k = sym (part_same j c) ∙ p in (each j c).slotted p' ∙ tn.stays j c p' e;
      }

  -- where no slot is freed
  carry_on : line s' k ≡ line s k → Turning s₀ k s → Turning s₀ k s'
  carry_on ln tn = carry [] (ln ∙ sym (append-nil (line s k))) tn

-- ---- a grant

module _ (s₀ : State) (k : ℕ) (s : State) (b : Placed s) where
  -- where the request at place i takes the first slot in line
  turning_take : (i slot : ℕ) (rest : List ℕ) → Grants s k i slot rest → Turning s₀ k s → Turning s₀ k (grant s k i slot rest)
  turning_take i slot rest g tn =
      let t = tn.turns in
      let s' = grant s k i slot rest in
      let rs = s.records in
      let q = staged (at rs i) (Reserved slot) in
      let here = g.lowest.within in
      let own = and_parts (queued_stage (at rs i).stage) (eqb (part s.layout (at rs i)) k) g.lowest.has in
      let mine : part s.layout (at rs i) ≡ k = eqb-true _ _ own.1 in
      let low : i < 16 = omega (arith, b.tickets.size) in
      let end = length t.granted in
      let longer : length (t.granted ++ i ∷ []) ≡ end + 1 = length_push t.granted i in
      let old : (n : ℕ) → n < end → get_or (t.granted ++ i ∷ []) n 0 ≡ get_or t.granted n 0 = λ n c. get_or_append_left t.granted (i ∷ []) 0 n c in
      let last : get_or (t.granted ++ i ∷ []) end 0 ≡ i = get_or_push t.granted i 0 end refl in
      let bare = queued_bare (at rs i).stage own.0 in
      let other : (n : ℕ) → n < end → get_or t.granted n 0 ≡ i → ⊥ = λ n c e. both_ways _ bare (ap (λ (x : ℕ). slotted_stage (at rs x).stage) (sym e) ∙ (t.only n c).1.after) in
      let at_other : (j : ℕ) → (j ≡ i → ⊥) → at (set rs i q) j ≡ at rs j = λ j ne. get_or-set_other rs i j q blank ne in
      let at_own : at (set rs i q) i ≡ q = get_or-set_same rs i q blank here in
      let its : (j : ℕ) → its_ticket s' j ≡ its_ticket s j = λ j. at_set (λ r. r.ticket ≡ (at rs j).ticket) rs i q j here (λ e. ap (λ (x : ℕ). (at rs x).ticket) (sym e)) (λ _. refl) in
      let place : (n : ℕ) → n < length (t.granted ++ i ∷ []) → (n < end → ⊥) → get_or (t.granted ++ i ∷ []) n 0 ≡ i = λ n c d. ap (λ (x : ℕ). get_or (t.granted ++ i ∷ []) x 0) (let z : n ≡ end = omega (arith, longer) in z) ∙ last in
      let was : (j : ℕ) → j < 16 → Got s₀ s' k j → (j ≡ i → ⊥) → Got s₀ s k j = λ j c x ne. record { before = x.before; after = sym (ap (λ r. slotted_stage r.stage) (at_other j ne)) ∙ x.after; mine = sym (ap (part s.layout) (at_other j ne)) ∙ x.mine } in
      let on : (j : ℕ) → Got s₀ s k j → (j ≡ i → ⊥) → Got s₀ s' k j = λ j x ne. record { before = x.before; after = ap (λ r. slotted_stage r.stage) (at_other j ne) ∙ x.after; mine = ap (part s.layout) (at_other j ne) ∙ x.mine } in
      let fresh : slotted_stage (at s₀.records i).stage ≡ false = ⊎_elim (λ e. absurd (both_ways _ bare (tn.stays i low mine e))) (λ e. e) (cases_Bool (slotted_stage (at s₀.records i).stage)) in
      let got : Got s₀ s' k i = record { before = fresh; after = ap (λ r. slotted_stage r.stage) at_own; mine = ap (part s.layout) at_own ∙ mine } in
      let least : (j : ℕ) → j < 16 → (j ≡ i → ⊥) → queued_in s.layout k (at rs j) ≡ true → its_ticket s i < its_ticket s j =
      λ j c ne e. let a = g.lowest.least j (omega (arith, b.tickets.size)) e in
      let ap' : (at rs i).ticket ≡ (at rs j).ticket → ⊥ = λ z. ne (sym (b.tickets.apart i j low c (queued_held _ own.0) (queued_held _ (and_parts (queued_stage (at rs j).stage) (eqb (part s.layout (at rs j)) k) e).0) z)) in
      let z : its_ticket s i < its_ticket s j = omega arith in z in
      record {
        turns = record {
          granted = t.granted ++ i ∷ [];
          freed = t.freed;
          all = λ j c x. ⊎_elim
              (λ e. (end, omega (arith, longer), last ∙ sym e))
              (λ ne. let o = t.all j c (was j c x ne) in (o.0, omega (arith, longer, o.1), old o.0 o.1 ∙ o.2))
              (cases_eq j i);
          only = λ n c. ⊎_elim
              (λ d. let o = t.only n d in subst (λ (x : ℕ). (x < 16) × Got s₀ s' k x) (sym (old n d)) (o.0, on _ o.1 (other n d)))
              (λ d. subst (λ (x : ℕ). (x < 16) × Got s₀ s' k x) (sym (place n c (λ z. omega arith))) (low, got))
              (cases_lt n end);
          rising = λ m n lt c. ⊎_elim
              (λ d. let m-low : m < end = omega arith in
              omega (arith, t.rising m n lt d, its (get_or t.granted m 0), its (get_or t.granted n 0), ap (its_ticket s') (old m m-low), ap (its_ticket s') (old n d)))
              (λ d. let m-low : m < end = omega (arith, longer) in
              omega (arith, t.ahead m i m-low low g.lowest.has, its (get_or t.granted m 0), its i, ap (its_ticket s') (old m m-low), ap (its_ticket s') (place n c (λ z. omega arith))))
              (cases_lt n end);
          ahead = λ n j c d e.
              let ne : j ≡ i → ⊥ = λ z. no_true (sym (ap (λ (x : ℕ). queued_in s.layout k (at (set rs i q) x)) z ∙ ap (queued_in s.layout k) at_own) ∙ e) in
              let e' : queued_in s.layout k (at rs j) ≡ true = sym (ap (queued_in s.layout k) (at_other j ne)) ∙ e in
              ⊎_elim
              (λ z. omega (arith, t.ahead n j z d e', its (get_or t.granted n 0), its j, ap (its_ticket s') (old n z)))
              (λ z. omega (arith, least j d ne e', its i, its j, ap (its_ticket s') (place n c (λ y. omega arith))))
              (cases_lt n end);
          lines =
              t.lines
              ∙ ap (λ (xs : List ℕ). map (its_slot s) t.granted ++ xs) g.first
              ∙ sym (append_assoc (map (its_slot s) t.granted) (slot ∷ []) rest)
              ∙ ap (λ (xs : List ℕ). (xs ++ slot ∷ []) ++ rest) (sym (map_same (its_slot s') (its_slot s) 0 t.granted (λ n c. ap (λ r. slot_of r.stage) (at_other _ (other n c)))))
              ∙ ap (λ (x : ℕ). (map (its_slot s') t.granted ++ x ∷ []) ++ rest) (sym (ap (λ r. slot_of r.stage) at_own))
              ∙ ap (λ (xs : List ℕ). xs ++ rest) (sym (map_push (its_slot s') t.granted i))
              ∙ ap (λ (xs : List ℕ). map (its_slot s') (t.granted ++ i ∷ []) ++ xs) (sym (get_or-set_same s.lines k rest [] g.there));
        };
        stays = λ j c p e. at_set (λ r. part s.layout r ≡ k → slotted_stage r.stage ≡ true) rs i q j here (λ _ _. refl) (λ _ p'. tn.stays j c p' e) p;
      }

  -- a grant in any partition
  turning_grant : (p i slot : ℕ) (rest : List ℕ) → Grants s p i slot rest → Turning s₀ k s → Turning s₀ k (grant s p i slot rest)
  turning_grant p i slot rest g tn =
      ⊎_elim
      (λ e. subst (λ (x : ℕ). Grants s x i slot rest → Turning s₀ k (grant s x i slot rest)) (sym e) (λ g'. turning_take i slot rest g' tn) g)
      (λ ne.
      let r = at s.records i in
      let mine : part s.layout r ≡ p = eqb-true _ _ (and_parts (queued_stage r.stage) (eqb (part s.layout r) p) g.lowest.has).1 in
      let away : part s.layout r ≡ k → ⊥ = λ z. ne (sym mine ∙ z) in
      carry_on s₀ k s (grant s p i slot rest) refl
      (λ j c. at_set (KeepsTurn s.layout k (at s.records j)) s.records i (staged r (Reserved slot)) j g.lowest.within
      (λ e. subst (λ (x : ℕ). KeepsTurn s.layout k (at s.records x) (staged r (Reserved slot))) (sym e)
      (record { ticket = refl; accelerator = refl; slotted = λ z. absurd (away z); slot = λ z. absurd (away z); queued = λ z. absurd (away z) }))
      (λ _. keeps_itself s.layout k (at s.records j)))
      (get_or-set_other s.lines p k rest [] (λ z. ne (sym z))) tn)
      (cases_eq p k)

  -- ---- an end

  -- the line of k after a slot joined the line of p
  joined_line : (p slot : ℕ) → p < length s.lines → length (line s p) < 8 → (extra : List ℕ) × (get_or (set s.lines p (joined (line s p) slot)) k [] ≡ line s k ++ extra)
  joined_line p slot c rm =
      ⊎_elim
      (λ e. (slot ∷ [], subst (λ (x : ℕ). get_or (set s.lines p (joined (line s p) slot)) x [] ≡ line s x ++ slot ∷ []) e (get_or-set_same s.lines p (joined (line s p) slot) [] c ∙ joined_room (line s p) slot rm)))
      (λ ne. ([], get_or-set_other s.lines p k (joined (line s p) slot) [] (λ z. ne (sym z)) ∙ sym (append-nil (line s k))))
      (cases_eq p k)

  turning_finish : (i : ℕ) (o : Outcome) → Ends s i → Turning s₀ k s → Turning s₀ k (finish s i o)
  turning_finish i o e tn =
      let r = at s.records i in
      let occ = running_occupant r.stage e.runs in
      let x = joined_line (part s.layout r) (slot_of r.stage) (placed_part s b i e.there (occupant_held _ occ)) (room s b i e.there occ) in
      carry s₀ k s (finish s i o) refl
      (λ j c. at_set (KeepsTurn s.layout k (at s.records j)) s.records i (staged r (Ended (slot_of r.stage) o)) j e.there
      (λ z. subst (λ (y : ℕ). KeepsTurn s.layout k (at s.records y) (staged r (Ended (slot_of r.stage) o))) (sym z)
      (record { ticket = refl; accelerator = refl; slotted = λ _. sym (occupant_slotted _ occ); slot = λ _ _. refl; queued = λ _ y. no_true y }))
      (λ _. keeps_itself s.layout k (at s.records j)))
      x.0 x.1 tn

  -- ---- the tick itself

  aged_keeps : (j : ℕ) → j < 16 → KeepsTurn s.layout k (at s.records j) (at (map aged s.records) j)
  aged_keeps j c =
      subst (KeepsTurn s.layout k (at s.records j)) (sym (get_or-map aged s.records j blank blank (omega (arith, b.tickets.size))))
      (record { ticket = refl; accelerator = refl; slotted = λ _. refl; slot = λ _ _. refl; queued = λ _ e. e })

  fed_keeps : (r : Record) (σ : Stage) → reserved_stage r.stage ≡ true → FedTo (slot_of r.stage) σ → KeepsTurn s.layout k r (fed_record r σ)
  fed_keeps r σ e FedTo.reserved = record { ticket = refl; accelerator = refl; slotted = λ _. sym (occupant_slotted _ (reserved_occupant _ e)); slot = λ _ _. refl; queued = λ _ y. no_true y }
  fed_keeps r σ e FedTo.running = record { ticket = refl; accelerator = refl; slotted = λ _. sym (occupant_slotted _ (reserved_occupant _ e)); slot = λ _ _. refl; queued = λ _ y. no_true y }
  fed_keeps r σ e (FedTo.ended o) = record { ticket = refl; accelerator = refl; slotted = λ _. sym (occupant_slotted _ (reserved_occupant _ e)); slot = λ _ _. refl; queued = λ _ y. no_true y }

  fed_line : (σ : Stage) (p slot : ℕ) (m : State) → FedTo slot σ → m.lines ≡ s.lines → p < length s.lines → length (line s p) < 8 → (extra : List ℕ) × (line (freed_by σ p m) k ≡ line s k ++ extra)
  fed_line σ p slot m FedTo.reserved e c rm = ([], ap (λ (x : List (List ℕ)). get_or x k []) e ∙ sym (append-nil (line s k)))
  fed_line σ p slot m FedTo.running e c rm = ([], ap (λ (x : List (List ℕ)). get_or x k []) e ∙ sym (append-nil (line s k)))
  fed_line σ p slot m (FedTo.ended o) e c rm =
      let x = joined_line p slot c rm in
      (x.0, ap (λ (ls : List (List ℕ)). get_or (set ls p (joined (get_or ls p []) slot)) k []) e ∙ x.1)

  turning_advance : (o : Option ℕ) → Choice s o → Turning s₀ k s → Turning s₀ k (advance s o)
  turning_advance None ch tn = carry_on s₀ k s (idle_on s) refl aged_keeps refl tn
  turning_advance (Some i) ch tn =
      let rs = s.records in
      let r = at rs i in
      let slot = slot_of r.stage in
      let σ = stage_fed s i in
      let to : FedTo slot σ = fed_to slot (feed_answer s.interrupts s.port slot) (left_in (feed_after s.interrupts s.port slot) slot) in
      let occ = reserved_occupant r.stage ch.reserved in
      let m : State = moved s (set (map aged rs) i (fed_record r σ)) s.lines (feed_after s.interrupts s.port slot) in
      let x = fed_line σ (part s.layout r) slot m to refl (placed_part s b i ch.there (occupant_held _ occ)) (room s b i ch.there occ) in
      carry s₀ k s (write s i) (freed_framed σ (part s.layout r) m).layout
      (λ j c. subst (λ (qs : List Record). KeepsTurn s.layout k (at rs j) (at qs j)) (sym (freed_records σ (part s.layout r) m))
      (at_set (KeepsTurn s.layout k (at rs j)) (map aged rs) i (fed_record r σ) j (omega (arith, length-map rs aged, ch.there))
      (λ z. subst (λ (y : ℕ). KeepsTurn s.layout k (at rs y) (fed_record r σ)) (sym z) (fed_keeps r σ ch.reserved to))
      (λ _. aged_keeps j c)))
      x.0 x.1 tn

-- ---- the calls

record PlacedTurning (s₀ : State) (k : ℕ) (s : State) : Type 0 where
  placed : Placed s
  turning : Turning s₀ k s

turning_way : (s₀ : State) (k : ℕ) {s s' : State} → Way s s' → Placed s → Turning s₀ k s → Turning s₀ k s'
turning_way s₀ k w b tn =
    (keeps (PlacedTurning s₀ k)
    (λ s p i slot rest g x. record { placed = placed_grant s p i slot rest g x.placed; turning = turning_grant s₀ k s x.placed p i slot rest g x.turning })
    (λ s i o e x. record { placed = placed_finish s i o e x.placed; turning = turning_finish s₀ k s x.placed i o e x.turning })
    w (record { placed = b; turning = tn })).turning

-- where no one got a slot and the line is as it was
turns_none : (s s' : State) (k : ℕ) → line s' k ≡ line s k → ((i : ℕ) → i < 16 → Got s s' k i → ⊥) → Turns s s' k
turns_none s s' k ln none = record {
  granted = [];
  freed = [];
  all = λ i c g. absurd (none i c g);
  only = λ n c. absurd (omega arith);
  rising = λ m n lt c. absurd (omega arith);
  ahead = λ n j c. absurd (omega arith);
  lines = append-nil (line s k) ∙ sym ln;
}

turning_still : (s : State) (k : ℕ) → Turning s k s
turning_still s k = record { turns = turns_none s s k refl (λ i c g. both_ways _ g.before g.after); stays = λ j c p e. e }

pub turns_step : (s : State) (c : Call) (a : Result Answer Refusal) (s' : State) → Placed s → Happened s c a s' → (k : ℕ) → Turns s s' k
turns_step s c a s' b (Happened.refused _ r q) k = (turning_still s k).turns
turns_step s c a s' b (Happened.entered task i x) k =
    let lr : task < length s.records = omega (arith, b.tickets.size, few_placed s task b x.task_in) in
    let s₁ = enter s task i in
    let r = new i s.next in
    let none : (j : ℕ) → j < 16 → Got s s₁ k j → ⊥ = λ j d g. at_set (λ q. slotted_stage q.stage ≡ true → ⊥) s.records task r j lr (λ _ e. no_true e) (λ _ e. both_ways _ g.before e) g.after in
    let start : Turning s k s₁ = record {
      turns = turns_none s s₁ k refl none;
      stays = λ j d p e. at_set (λ q. slotted_stage q.stage ≡ true) s.records task r j lr (λ z. absurd (both_ways _ (free_bare _ x.free) (ap (λ (y : ℕ). slotted_stage (at s.records y).stage) (sym z) ∙ e))) (λ _. e);
    } in
    (turning_way s k (way_settle s₁ b.rows) (placed_enter s task i x b) start).turns
turns_step s c a s' b Happened.ticked k =
    let r = ready s in
    let w = way_ready s b.rows in
    let at_ready = placed_way w b in
    (turning_way s k (way_after s b.rows) (placed_advance r (choose r) (chosen r) at_ready)
    (turning_advance s k r at_ready (choose r) (chosen r) (turning_way s k w b (turning_still s k)))).turns
turns_step s c a s' b (Happened.completed slot i f) k =
    let e = ends_run s slot i f in
    let p' = placed_finish s i Finished e b in
    (turning_way s k (way_settle (finish s i Finished) p'.rows) p' (turning_finish s k s b i Finished e (turning_still s k))).turns
turns_step s c a s' b (Happened.collected task t x) k =
    let lr : task < length s.records = omega (arith, b.tickets.size, few_placed s task b x.task_in) in
    turns_none s (empty s task) k refl
    (λ j d g. at_set (λ q. slotted_stage q.stage ≡ true → ⊥) s.records task blank j lr (λ _ e. no_true e) (λ _ e. both_ways _ g.before e) g.after)
turns_step s c a s' b (Happened.asked task) k = (turning_still s k).turns

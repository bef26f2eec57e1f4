-- Each move of the scheduler is a move that the law of the waits knows, and keeps what every state keeps.
use Rattle.std.proofs.Common.{◌≡◌, ℕ, suc, ◌+◌, ◌<◌, ◌≤◌, Bool, true, false, cond, eqb, ltb, List, [], map, length, get_or, set, sym, refl, ap, ◌∙◌, subst, inl, inr, ⊎_elim, mul-one, mul-add, arith}
use Rattle.std.proofs.lemmas.List.{get_or-set_same, get_or-set_other, length-map, length_push}
use Rattle.std.proofs.lemmas.Bool.{cases_eq, cases_lt, eq-eqb, ne_eqb, eqb-true, eqb-false, and_parts, and_from, and_cases, both_ways, cond_both, ltb-true, ltb-false}
use Rattle.plan.specs.Rules.{Layout}
use Rattle.delays.specs.Delays.{partition_at, accelerator_at, rounded_up, write_time}
use Rattle.ports.specs.Meaning.{Meaning}
use Rattle.ports.specs.Calls.{feed_after}
use Rattle.model.specs.declared.requests.Outcome.{Outcome}
use Rattle.model.specs.declared.requests.Outcome.TheVariants.{Flaw}
use Rattle.model.specs.declared.requests.Stage.{Stage}
use Rattle.model.specs.declared.requests.Stage.TheVariants.{Queued, Reserved, Running, Ended}
use Rattle.model.specs.declared.requests.Record.{Record}
use Rattle.model.specs.Records.{blank, at, one, queued_stage, reserved_stage, running_stage, occupant_stage, held_stage, slot_of, staged, aged, fed_record, new}
use Rattle.model.specs.Lowests.{NoneWith}
use Rattle.model.specs.States.{State, line, part, run_limit}
use Rattle.model.specs.Moves.{joined, is_reserved, grant, finish, stage_fed, write, idle_on}
use Rattle.model.specs.Calls.{enter, empty}
use Rattle.model.proofs.Ways.{Grants, Ends}
use Rattle.model.proofs.Sames.{Chosen}
use Rattle.model.proofs.Happens.{Accepts, Collects}
use Rattle.model.proofs.Balances.{joined_room, written_as}
use Rattle.model.proofs.Placed.{placed_part, room, placed_grant, placed_finish, placed_write, placed_idle, few_placed, placed_enter, placed_empty}
use Rattle.model.proofs.Stores.{stored_grant, stored_finish, stored_enter, stored_empty, stored_idle}
use Rattle.model.proofs.Views.{stage_seen, seen, given, view, fits, round_below, round_above, seen_queued, seen_reserved, seen_running, seen_waiting, seen_unended, seen_occupant}
use Rattle.model.proofs.Writes.{Picked, Shape, shape, stored_write, partly_at}
use Rattle.model.specs.Stops.{Roomy}
use Rattle.model.proofs.Counts.{up_is, aged_counted}
use Rattle.model.proofs.Invariants.{Invariant, roomy}
use Rattle.model.proofs.Settles.{NoneExpired}
use Rattle.model.specs.Grants.{Settled}
use Rattle.model.proofs.Stages.{queued_held, reserved_held, reserved_occupant, running_occupant, occupant_held, running_unended, free_over}
use Rattle.waits.specs.Table as waits
use Rattle.waits.specs.Table.{occ}
use Rattle.waits.specs.Moves as moves
use Rattle.waits.specs.Law as law
use Rattle.waits.proofs.Laws as laws
use Rattle.waits.proofs.Lists.{seen_set, seen_map, seen_tick}

-- what a record occupies, as the law counts it
occ_here : (l : Layout) (rate k : ℕ) (r : Record) → occupant_stage r.stage ≡ true → part l r ≡ k → occ k (seen l rate r) ≡ 1
unfolding occ
occ_here l rate k r o e =
    ap (λ (b : Bool). cond b (one (eqb (part l r) k)) 0) (seen_occupant r.stage ∙ o) ∙ ap one (eq-eqb (part l r) k e)

occ_other : (l : Layout) (rate k : ℕ) (r : Record) → (part l r ≡ k → ⊥) → occ k (seen l rate r) ≡ 0
unfolding occ
occ_other l rate k r ne =
    ap (λ (b : Bool). cond (waits.occupant_stage (stage_seen r.stage)) (one b) 0) (ne_eqb (part l r) k ne)
    ∙ cond_both (waits.occupant_stage (stage_seen r.stage)) 0 0 (λ n. n ≡ 0) (λ _. refl) (λ _. refl)

occ_none : (l : Layout) (rate k : ℕ) (r : Record) → occupant_stage r.stage ≡ false → occ k (seen l rate r) ≡ 0
unfolding occ
occ_none l rate k r o = ap (λ (b : Bool). cond b (one (eqb (part l r) k)) 0) (seen_occupant r.stage ∙ o)

seen_aged : (l : Layout) (rate : ℕ) (r : Record) → (held_stage r.stage ≡ true → Roomy r) → seen l rate (aged r) ≡ moves.aged (seen l rate r)
seen_aged l rate r h =
    let f : Bool → Bool → waits.Rec = λ x y. record { ticket = r.ticket; part = part l r; write = write_time l rate r.accelerator; run = run_limit l r; waited = r.waited + one x; written = r.written; ran = r.run + one y; stage = stage_seen r.stage } in
    ap (seen l rate) (aged_counted r h) ∙ ap (λ x. f x (running_stage r.stage)) (sym (seen_waiting r.stage)) ∙ ap (f (waits.waiting_stage (stage_seen r.stage))) (sym (seen_running r.stage))

seen_fed : (l : Layout) (rate : ℕ) (r : Record) (σ : Stage) → Roomy r → seen l rate (fed_record r σ) ≡ moves.fed (seen l rate r) (stage_seen σ)
seen_fed l rate r σ h =
    let f : ℕ → waits.Rec = λ v. record { ticket = r.ticket; part = part l r; write = write_time l rate r.accelerator; run = run_limit l r; waited = r.waited; written = v; ran = r.run; stage = stage_seen σ } in
    ap f (up_is r.written h.written)

module _ (rate : ℕ) (s : State) (md : Invariant rate s) where
  abbrev l : Layout
  l = s.layout

  abbrev g : waits.Given
  g = given l rate s.interrupts

  abbrev sixteen : length s.records ≡ 16
  sixteen = md.placed.tickets.size

  -- a slot goes to the end of the line of the partition of the record at i
  line_longer : (i slot k : ℕ) → i < length s.records → occupant_stage (at s.records i).stage ≡ true → length (get_or (set s.lines (part l (at s.records i)) (joined (line s (part l (at s.records i))) slot)) k []) ≡ length (line s k) + occ k (seen l rate (at s.records i))
  line_longer i slot k c o =
      let p = part l (at s.records i) in
      let ls = joined (line s p) slot in
      ⊎_elim
      (λ z. let it : length (get_or (set s.lines p ls) k []) ≡ length (line s p) + 1 =
      ap (λ (x : ℕ). length (get_or (set s.lines p ls) x [])) z ∙ ap length (get_or-set_same s.lines p ls [] (placed_part s md.placed i c (occupant_held _ o))) ∙ ap length (joined_room (line s p) slot (room s md.placed i c o)) ∙ length_push (line s p) slot in
      let was : length (line s k) ≡ length (line s p) = ap (λ (x : ℕ). length (line s x)) z in
      omega (arith, it, was, occ_here l rate k (at s.records i) o (sym z)))
      (λ ne. omega (arith, ap length (get_or-set_other s.lines p k ls [] ne), occ_other l rate k (at s.records i) (λ z. ne (sym z))))
      (cases_eq k p)

  grants_move : (k i slot : ℕ) (rest : List ℕ) → Grants s k i slot rest → moves.Grant g (view rate s) i (view rate (grant s k i slot rest))
  grants_move k i slot rest gr =
      let r = at s.records i in
      let q = and_parts (queued_stage r.stage) (eqb (part l r) k) gr.lowest.has in
      let mine : part l r ≡ k = eqb-true _ _ q.1 in
      let few : i < 16 = omega (arith, gr.lowest.within, sixteen) in
      let now : at (set s.records i (staged r (Reserved slot))) i ≡ staged r (Reserved slot) = get_or-set_same s.records i (staged r (Reserved slot)) blank gr.lowest.within in
      record {
        was = seen_queued r.stage ∙ q.0;
        lowest = λ j c z e. gr.lowest.least j (omega (arith, sixteen)) (and_from _ _ (sym (seen_queued (at s.records j).stage) ∙ z) (eq-eqb _ _ (e ∙ mine)));
        table = seen_set (seen l rate) blank 16 s.records i (staged r (Reserved slot)) sixteen few;
        line = λ k'. ⊎_elim
            (λ z. let before : length (line s k') ≡ suc (length rest) = ap (λ (x : ℕ). length (line s x)) z ∙ ap length gr.first in
            let after : length (get_or (set s.lines k rest) k' []) ≡ length rest = ap (λ (x : ℕ). length (get_or (set s.lines k rest) x [])) z ∙ ap length (get_or-set_same s.lines k rest [] gr.there) in
            let o : occ k' (seen l rate (at (set s.records i (staged r (Reserved slot))) i)) ≡ 1 = ap (λ x. occ k' (seen l rate x)) now ∙ occ_here l rate k' (staged r (Reserved slot)) refl (mine ∙ sym z) in
            omega (arith, before, after, o))
            (λ ne. let o : occ k' (seen l rate (at (set s.records i (staged r (Reserved slot))) i)) ≡ 0 = ap (λ x. occ k' (seen l rate x)) now ∙ occ_other l rate k' (staged r (Reserved slot)) (λ z. ne (sym z ∙ mine)) in
            omega (arith, ap length (get_or-set_other s.lines k k' rest [] ne), o))
            (cases_eq k' k);
        next = refl;
      }

  ends_move : (i : ℕ) (o : Outcome) → Ends s i → moves.Finish g (view rate s) i (view rate (finish s i o))
  ends_move i o e =
      let r = at s.records i in
      let few : i < 16 = omega (arith, e.there, sixteen) in
      record {
        was = seen_unended r.stage ∙ running_unended _ e.runs;
        table = seen_set (seen l rate) blank 16 s.records i (staged r (Ended (slot_of r.stage) o)) sixteen few;
        line = λ k. line_longer i (slot_of r.stage) k e.there (running_occupant _ e.runs);
        next = refl;
      }

  pub invariant_grant : (k i slot : ℕ) (rest : List ℕ) → Grants s k i slot rest → Invariant rate (grant s k i slot rest)
  invariant_grant k i slot rest gr =
      let few : i < 16 = omega (arith, gr.lowest.within, sixteen) in
      let q = and_parts (queued_stage (at s.records i).stage) (eqb (part l (at s.records i)) k) gr.lowest.has in
      record {
        some = md.some;
        placed = placed_grant s k i slot rest gr md.placed;
        stored = stored_grant rate s md.placed md.stored k i slot rest gr ((md.inv.counts i few).queued (seen_queued _ ∙ q.0)).0;
        inv = laws.keeps g _ _ md.inv (moves.Move.grants i (grants_move k i slot rest gr));
      }

  pub invariant_finish : (i : ℕ) (o : Outcome) → Ends s i → Invariant rate (finish s i o)
  invariant_finish i o e =
      record {
        some = md.some;
        placed = placed_finish s i o e md.placed;
        stored = stored_finish rate s md.placed md.stored i o e;
        inv = laws.keeps g _ _ md.inv (moves.Move.finishes i (ends_move i o e));
      }

  pub invariant_enter : (i a : ℕ) → Accepts s i a → Invariant rate (enter s i a)
  invariant_enter i a c =
      let b = md.placed in
      let few = few_placed s i b c.task_in in
      let lr : i < length s.records = omega (arith, sixteen) in
      record {
        some = md.some;
        placed = placed_enter s i a c b;
        stored = stored_enter rate s i a md.stored lr c.free;
        inv = laws.keeps g _ _ md.inv (moves.Move.accepts i (accelerator_at l a).partition (write_time l rate a) (accelerator_at l a).run (record {
          free = seen_unended _ ∙ free_over _ c.free;
          fits = fits l b.rules rate md.some s.interrupts a i s.next 0 0 0 Queued c.accelerator_in c.owned;
          table = seen_set (seen l rate) blank 16 s.records i (new a s.next) sixteen few;
          line = λ k. refl;
          next = omega arith;
        }));
      }

  pub invariant_empty : (i t : ℕ) → Collects s i t → Invariant rate (empty s i)
  invariant_empty i t c =
      let b = md.placed in
      let few = few_placed s i b c.task_in in
      let lr : i < length s.records = omega (arith, sixteen) in
      record {
        some = md.some;
        placed = placed_empty s i t c b;
        stored = stored_empty rate s i md.stored lr c.ended;
        inv = laws.keeps g _ _ md.inv (moves.Move.clears i (seen l rate blank) (record {
          was = seen_unended _ ∙ c.ended;
          blank = refl;
          table = seen_set (seen l rate) blank 16 s.records i blank sixteen few;
          line = λ k. refl;
          next = refl;
        }));
      }

  -- ---- the tick itself

  module _ (settled : Settled s) (going : NoneExpired s) where
    ready_seen : moves.Settled g (view rate s)
    ready_seen = record {
      full = λ j c z.
          let r = at s.records j in
          let lr : j < length s.records = omega (arith, sixteen) in
          let q : queued_stage r.stage ≡ true = sym (seen_queued r.stage) ∙ z in
          let p : part l r < length l.partitions = omega (arith, placed_part s md.placed j lr (queued_held _ q), md.placed.rows) in
          ap length (settled (part l r) j p lr (and_from _ _ q (eq-eqb (part l r) (part l r) refl)));
      going = λ j c z.
          let r = at s.records j in
          let q : running_stage r.stage ≡ true = sym (seen_running r.stage) ∙ z in
          let most : r.run ≤ run_limit l r = ((md.inv.counts j c).running z).1 in
          ⊎_elim (λ f. absurd (both_ways _ f q)) (λ f. let ne : r.run ≡ run_limit l r → ⊥ = eqb-false _ _ f in let x : r.run < run_limit l r = omega arith in x)
          (and_cases (running_stage r.stage) (eqb r.run (run_limit l r)) (going j (omega (arith, sixteen))));
    }

    aged_seen : (j : ℕ) → j < 16 → seen l rate (aged (at s.records j)) ≡ moves.aged (seen l rate (at s.records j))
    aged_seen j c = seen_aged l rate (at s.records j) (roomy s rate md j c)

    pub invariant_idle : NoneWith is_reserved s.records → Invariant rate (idle_on s)
    invariant_idle absent =
        record {
          some = md.some;
          placed = placed_idle s md.placed;
          stored = stored_idle rate s md.stored sixteen;
          inv = laws.keeps g _ _ md.inv (moves.Move.idles (record {
            settled = ready_seen;
            none = λ j c z. both_ways _ (absent j (omega (arith, sixteen))) (sym (seen_reserved _) ∙ z);
            table = seen_map (seen l rate) blank 16 aged s.records sixteen aged_seen;
            line = λ k. refl;
            next = refl;
          }));
        }

    module _ (i : ℕ) (ch : Chosen s i) (pk : Picked s i) where
      abbrev r : Record
      r = at s.records i

      few : i < 16
      few = omega (arith, ch.there, sixteen)

      fresh : Roomy r
      fresh = roomy s rate md i few (reserved_held _ ch.reserved)

      chosen_seen : moves.Chosen g (view rate s) i
      chosen_seen =
          ⊎_elim
          (λ p. inl (p.0, ltb-true _ _ (and_parts (reserved_stage r.stage) (ltb 0 r.written) p.1).1))
          (λ p. inr (
            (λ j c z. p.0.least j (omega (arith, sixteen)) (sym (seen_reserved _) ∙ z)),
            (λ k j c z.
                let rj : reserved_stage (at s.records j).stage ≡ true = sym (seen_reserved _) ∙ z in
                let v = (at s.records j).written in
                ⊎_elim (λ f. absurd (both_ways _ f rj)) (λ f. let x : v ≡ 0 = omega (arith, ltb-false _ _ f) in x) (and_cases (reserved_stage (at s.records j).stage) (ltb 0 v) (p.1 k j (omega (arith, sixteen))))),
          ))
          pk

      -- an occupant stays one
      stays : (σ : Stage) → occupant_stage σ ≡ true → occupant_stage r.stage ≡ true → (k : ℕ) → length (line s k) + occ k (seen l rate (fed_record r σ)) ≡ length (line s k) + occ k (seen l rate r)
      stays σ e o k =
          ⊎_elim
          (λ z. omega (arith, occ_here l rate k (fed_record r σ) e z, occ_here l rate k r o z))
          (λ ne. omega (arith, occ_other l rate k (fed_record r σ) ne, occ_other l rate k r ne))
          (cases_eq (part l r) k)

      write_move : (σ : Stage) (s' : State) → moves.Wrote (seen l rate r) (stage_seen σ) → ((k : ℕ) → length (line s' k) + occ k (seen l rate (fed_record r σ)) ≡ length (line s k) + occ k (seen l rate r)) → moves.Write g (view rate s) i (stage_seen σ) (record { tab = λ j. seen l rate (at (set (map aged s.records) i (fed_record r σ)) j); line = λ k. length (line s' k); next = s.next })
      write_move σ s' w ln =
          let now : at (set (map aged s.records) i (fed_record r σ)) i ≡ fed_record r σ = get_or-set_same (map aged s.records) i (fed_record r σ) blank (omega (arith, length-map s.records aged, ch.there)) in
          record {
            settled = ready_seen;
            was = seen_reserved _ ∙ ch.reserved;
            chosen = chosen_seen;
            wrote = w;
            table = subst (λ q. moves.Changed 16 moves.aged (view rate s).tab i q (λ j. seen l rate (at (set (map aged s.records) i (fed_record r σ)) j))) (seen_fed l rate r σ fresh)
                (seen_tick (seen l rate) blank 16 aged s.records i (fed_record r σ) sixteen few aged_seen);
            line = λ k. subst (λ x. length (line s' k) + occ k (seen l rate x) ≡ length (line s k) + occ k (seen l rate r)) (sym now) (ln k);
            next = refl;
          }

      inv_as : (σ : Stage) (m : Meaning) → Shape s rate (slot_of r.stage) σ m → law.Inv (given (written_as s i σ m).layout rate (written_as s i σ m).interrupts) (view rate (written_as s i σ m))
      inv_as σ m (Shape.flawed f d) =
          let t = slot_of r.stage in
          let o = reserved_occupant _ ch.reserved in
          let s' = written_as s i (Ended t (Flaw f d)) m in
          laws.keeps g _ _ md.inv (moves.Move.writes i waits.Stage.ended
          (write_move (Ended t (Flaw f d)) s' tt (λ k. omega (arith, line_longer i t k ch.there o, occ_none l rate k (fed_record r (Ended t (Flaw f d))) refl))))
      inv_as σ m (Shape.filled n small full) =
          let t = slot_of r.stage in
          let o = reserved_occupant _ ch.reserved in
          let p = partly_at rate md.some s md.placed md.stored i few ch.reserved in
          let v = r.written in
          let z = (partition_at l (part l r)).size in
          let under : v < rounded_up z rate = round_below z rate md.some v (omega (arith, p.written, p.short, p.size)) in
          let over : v + 1 < rounded_up z rate → ⊥ = λ h. omega (arith, round_above z rate md.some (v + 1) h, mul-add rate v 1, mul-one rate, p.written, p.size, full, small) in
          let w : v + 1 ≡ rounded_up z rate = ⊎_elim (λ h. absurd (over h)) (λ h. let x : v + 1 ≡ rounded_up z rate = omega arith in x) (cases_lt (v + 1) (rounded_up z rate)) in
          laws.keeps g _ _ md.inv (moves.Move.writes i waits.Stage.running
          (write_move (Running t) (written_as s i (Running t) m) w (λ k. stays (Running t) refl o k)))
      inv_as σ m (Shape.partial n all short) =
          let t = slot_of r.stage in
          let o = reserved_occupant _ ch.reserved in
          let p = partly_at rate md.some s md.placed md.stored i few ch.reserved in
          let v = r.written in
          let z = (partition_at l (part l r)).size in
          let w : v + 1 < rounded_up z rate = round_below z rate md.some (v + 1) (omega (arith, mul-add rate v 1, mul-one rate, p.written, p.size, short, all)) in
          laws.keeps g _ _ md.inv (moves.Move.writes i waits.Stage.reserved
          (write_move (Reserved t) (written_as s i (Reserved t) m) w (λ k. stays (Reserved t) refl o k)))

      pub invariant_write : Invariant rate (write s i)
      invariant_write =
          record {
            some = md.some;
            placed = placed_write s i ch md.placed;
            stored = stored_write rate md.some s md.placed md.stored md.inv i ch pk fresh;
            inv = inv_as (stage_fed s i) (feed_after s.interrupts s.port (slot_of r.stage)) (shape rate md.some s md.placed md.stored md.inv i ch pk fresh);
          }

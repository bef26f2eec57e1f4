-- Moves that leave each record with its ticket and its accelerator, and held if it was.
use Rattle.std.proofs.Common.{◌≡◌, ℕ, ◌<◌, true, List, map, length, set, Some, None, Option, Result, sym, refl, ◌∙◌, subst, arith}
use Rattle.std.proofs.lemmas.List.{get_or-map, length-map, length-set}
use Rattle.std.proofs.lemmas.Bool.{and_parts, cond_both}
use Rattle.ports.specs.declared.answers.Refusal.{Refusal}
use Rattle.ports.specs.declared.answers.Fed.{Fed}
use Rattle.ports.specs.Calls.{feed_answer, feed_after}
use Rattle.model.specs.declared.requests.Stage.{Stage}
use Rattle.model.specs.declared.requests.Stage.TheVariants.{Empty, Queued, Reserved, Running, Ended}
use Rattle.model.specs.declared.requests.Record.{Record}
use Rattle.model.specs.Records.{blank, at, held_stage, reserved_stage, slot_of, staged, aged, fed_record, lowest}
use Rattle.model.specs.Lowests.{Found}
use Rattle.model.specs.States.{State, moved, part}
use Rattle.model.specs.Moves.{is_reserved, begun, or_else, expire, choose, left_in, stage_fed, freed_by, fed_stage, write, advance, ready}
use Rattle.model.specs.Calls.{tick_after}
use Rattle.model.proofs.Stages.{queued_held, reserved_held, running_held}
use Rattle.model.proofs.Tables.{at_set}
use Rattle.model.proofs.Lowests.{found}
use Rattle.model.proofs.Ways.{Way, keeps, then, Framed, framed, way_settle, way_expire, rows_on}

pub record Alike (r q : Record) : Type 0 where
  pub held : held_stage q.stage ≡ held_stage r.stage
  pub ticket : q.ticket ≡ r.ticket
  pub accelerator : q.accelerator ≡ r.accelerator

pub record Same (rs qs : List Record) : Type 0 where
  pub size : length qs ≡ length rs
  pub each : (j : ℕ) → j < length rs → Alike (at rs j) (at qs j)

alike_refl : (r : Record) → Alike r r
alike_refl r = record { held = refl; ticket = refl; accelerator = refl }

pub same_refl : (rs : List Record) → Same rs rs
same_refl rs = record { size = refl; each = λ j l. alike_refl (at rs j) }

same_then : (rs qs ps : List Record) → Same rs qs → Same qs ps → Same rs ps
same_then rs qs ps a b =
    record {
      size = b.size ∙ a.size;
      each = λ j l.
          let x = a.each j l in
          let y = b.each j (omega (arith, a.size)) in
          record { held = y.held ∙ x.held; ticket = y.ticket ∙ x.ticket; accelerator = y.accelerator ∙ x.accelerator };
    }

same_set : (rs : List Record) (i : ℕ) (q : Record) → i < length rs → Alike (at rs i) q → Same rs (set rs i q)
same_set rs i q l a =
    record {
      size = length-set rs i q;
      each = λ j b. at_set (Alike (at rs j)) rs i q j l (λ e. subst (λ (x : ℕ). Alike (at rs x) q) (sym e) a) (λ ne. alike_refl (at rs j));
    }

pub same_aged : (rs : List Record) → Same rs (map aged rs)
same_aged rs =
    record {
      size = length-map rs aged;
      each = λ j b. subst (Alike (at rs j)) (sym (get_or-map aged rs j blank blank b)) (record { held = refl; ticket = refl; accelerator = refl });
    }

-- the moves
same_staged : (rs : List Record) (i : ℕ) (σ : Stage) → i < length rs → held_stage (at rs i).stage ≡ true → held_stage σ ≡ true → Same rs (set rs i (staged (at rs i) σ))
same_staged rs i σ l h e =
    same_set rs i (staged (at rs i) σ) l (record { held = e ∙ sym h; ticket = refl; accelerator = refl })

-- a fed request is reserved, running or ended, in the slot that it had
fed_held : (slot : ℕ) (told : Result Fed Refusal) (left : ℕ) → held_stage (fed_stage slot told left) ≡ true
fed_held slot told left = grind arith

abbrev slot_at : State → ℕ → ℕ
slot_at s i = slot_of (at s.records i).stage

stage_fed_held : (s : State) (i : ℕ) → held_stage (stage_fed s i) ≡ true
stage_fed_held s i = fed_held (slot_at s i) (feed_answer s.interrupts s.port (slot_at s i)) (left_in (feed_after s.interrupts s.port (slot_at s i)) (slot_at s i))

-- freeing a slot leaves the records, the layout and the ticket to come
pub freed_records : (σ : Stage) (k : ℕ) (s : State) → (freed_by σ k s).records ≡ s.records
freed_records σ k s = grind arith

pub freed_framed : (σ : Stage) (k : ℕ) (s : State) → Framed s (freed_by σ k s)
freed_framed Empty k s = framed Way.none
freed_framed Queued k s = framed Way.none
freed_framed (Reserved x) k s = framed Way.none
freed_framed (Running x) k s = framed Way.none
freed_framed (Ended x o) k s = record { layout = refl; interrupts = refl; next = refl; rows = length-set _ _ _; places = refl }

pub same_way : {s s' : State} → Way s s' → Same s.records s'.records
same_way {s} w =
    keeps (λ x. Same s.records x.records)
    (λ x k i slot rest c f. same_then _ _ _ f (same_staged x.records i (Reserved slot) c.lowest.within (queued_held _ (and_parts _ _ c.lowest.has).0) refl))
    (λ x i o c f. same_then _ _ _ f (same_staged x.records i (Ended (slot_of (at x.records i).stage) o) c.there (running_held _ c.runs) refl))
    w (same_refl s.records)

pub same_write : (s : State) (i : ℕ) → i < length s.records → reserved_stage (at s.records i).stage ≡ true → Same s.records (write s i).records
same_write s i l e =
    let rs = s.records in
    let σ = stage_fed s i in
    let there : i < length (map aged rs) = omega (arith, length-map rs aged) in
    let was : Alike (at (map aged rs) i) (fed_record (at rs i) σ) =
    subst (λ r. Alike r (fed_record (at rs i) σ)) (sym (get_or-map aged rs i blank blank l))
    (record { held = stage_fed_held s i ∙ sym (reserved_held _ e); ticket = refl; accelerator = refl }) in
    subst (Same rs) (sym (freed_records σ (part s.layout (at rs i)) _))
    (same_then _ _ _ (same_aged rs) (same_set (map aged rs) i (fed_record (at rs i) σ) there was))

-- the chosen one is reserved
pub record Chosen (s : State) (i : ℕ) : Type 0 where
  pub there : i < length s.records
  pub reserved : reserved_stage (at s.records i).stage ≡ true

abbrev pub Choice : State → Option ℕ → Type 0
Choice s None = Unit {0}
Choice s (Some i) = Chosen s i

reserved_choice : (s : State) (o : Option ℕ) → Found is_reserved s.records o → Choice s o
reserved_choice s None f = tt
reserved_choice s (Some i) f = record { there = f.within; reserved = f.has }

begun_choice : (s : State) (o o' : Option ℕ) → Found begun s.records o → Choice s o' → Choice s (or_else o o')
begun_choice s None o' f c = c
begun_choice s (Some i) o' f c = record { there = f.within; reserved = (and_parts _ _ f.has).0 }

pub chosen : (s : State) → Choice s (choose s)
chosen s =
    let r : Choice s (lowest is_reserved s.records) = reserved_choice s (lowest is_reserved s.records) (found is_reserved s.records) in
    cond_both s.interrupts _ _ (Choice s) (λ _. r)
    (λ _. begun_choice s (lowest begun s.records) (lowest is_reserved s.records) (found begun s.records) r)

same_advance : (s : State) (o : Option ℕ) → Choice s o → Same s.records (advance s o).records
same_advance s None c = same_aged s.records
same_advance s (Some i) c = same_write s i c.there c.reserved

pub framed_advance : (s : State) (o : Option ℕ) → Framed s (advance s o)
framed_advance s None = record { layout = refl; interrupts = refl; next = refl; rows = refl; places = length-map s.records aged }
framed_advance s (Some i) =
    let σ = stage_fed s i in
    let m = moved s (set (map aged s.records) i (fed_record (at s.records i) σ)) s.lines (feed_after s.interrupts s.port (slot_of (at s.records i).stage)) in
    let f = freed_framed σ (part s.layout (at s.records i)) m in
    record { layout = f.layout; interrupts = f.interrupts; next = f.next; rows = f.rows; places = f.places ∙ (length-set (map aged s.records) i (fed_record (at s.records i) σ) ∙ length-map s.records aged) }

then_framed : (s s' s'' : State) → Framed s s' → Framed s' s'' → Framed s s''
then_framed s s' s'' a b = record { layout = b.layout ∙ a.layout; interrupts = b.interrupts ∙ a.interrupts; next = b.next ∙ a.next; rows = b.rows ∙ a.rows; places = b.places ∙ a.places }

-- a tick: a way, an advance, a way
module _ (s : State) (e : length s.lines ≡ length s.layout.partitions) where
  pub way_ready : Way s (ready s)
  way_ready = then (way_expire s) (way_settle (expire s) (rows_on s (expire s) e (framed (way_expire s))))

  abbrev pub midway : State
  midway = advance (ready s) (choose (ready s))

  pub framed_midway : Framed s midway
  framed_midway = then_framed _ _ _ (framed way_ready) (framed_advance (ready s) (choose (ready s)))

  same_midway : Same s.records midway.records
  same_midway = same_then _ _ _ (same_way way_ready) (same_advance (ready s) (choose (ready s)) (chosen (ready s)))

  pub way_after : Way midway (tick_after s)
  way_after = way_settle midway (rows_on s midway e framed_midway)

  pub framed_tick : Framed s (tick_after s)
  framed_tick = then_framed _ _ _ framed_midway (framed way_after)

  pub same_tick : Same s.records (tick_after s).records
  same_tick = same_then _ _ _ same_midway (same_way way_after)

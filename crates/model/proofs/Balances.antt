-- What a partition's line gives, its occupants take: a weight of slots, over line and occupants together, stays the same.
use Rattle.std.proofs.Common.{◌≡◌, ℕ, ◌+◌, ◌<◌, Bool, true, false, cond, eqb, List, [], ◌∷◌, ◌++◌, map, length, get_or, set, Ok, Err, sum_by, Result, sym, refl, ap, ◌∙◌, subst, ⊎_elim, arith}
use Rattle.std.proofs.lemmas.List.{get_or-set_same, get_or-set_other, get_or-map, length-map, length_push, take_all}
use Rattle.std.proofs.lemmas.List.Sums.{sum_by-cons, sum_by-set, sum_by_push}
use Rattle.std.proofs.lemmas.Bool.{cases_eq, eq-eqb, ne_eqb, eqb-true, and_parts, cond_both}
use Rattle.plan.specs.Rules.{Layout}
use Rattle.ports.specs.declared.answers.Refusal.{Refusal}
use Rattle.ports.specs.declared.answers.Fed.{Fed}
use Rattle.ports.specs.declared.answers.Fed.TheVariants.{Wrote, Flawed}
use Rattle.ports.specs.Meaning.{Meaning}
use Rattle.ports.specs.Calls.{feed_answer, feed_after}
use Rattle.model.specs.declared.requests.Outcome.{Outcome}
use Rattle.model.specs.declared.requests.Outcome.TheVariants.{Flaw}
use Rattle.model.specs.declared.requests.Stage.{Stage}
use Rattle.model.specs.declared.requests.Stage.TheVariants.{Reserved, Running, Ended}
use Rattle.model.specs.declared.requests.Record.{Record}
use Rattle.model.specs.Records.{blank, at, reserved_stage, occupant_stage, slot_of, staged, aged, fed_record}
use Rattle.model.specs.States.{State, moved, line, part}
use Rattle.model.specs.Moves.{joined, grant, finish, left_in, fed_stage, stage_fed, freed_by, write, idle_on}
use Rattle.model.proofs.Stages.{queued_free, reserved_occupant, running_occupant}
use Rattle.model.proofs.Tables.{sum_same}
use Rattle.model.proofs.Ways.{Grants, Ends}
use Rattle.model.proofs.Sames.{Chosen}

-- what a record takes of partition k
unfoldable pub load : Layout → ℕ → (ℕ → ℕ) → Record → ℕ
load l k w r = cond (occupant_stage r.stage) (cond (eqb (part l r) k) (w (slot_of r.stage)) 0) 0

pub load_none : (l : Layout) (k : ℕ) (w : ℕ → ℕ) (r : Record) → occupant_stage r.stage ≡ false → load l k w r ≡ 0
unfolding load
load_none l k w r e = ap (λ (b : Bool). cond b (cond (eqb (part l r) k) (w (slot_of r.stage)) 0) 0) e

pub load_here : (l : Layout) (k : ℕ) (w : ℕ → ℕ) (r : Record) → occupant_stage r.stage ≡ true → part l r ≡ k → load l k w r ≡ w (slot_of r.stage)
unfolding load
load_here l k w r e p =
    ap (λ (b : Bool). cond b (cond (eqb (part l r) k) (w (slot_of r.stage)) 0) 0) e
    ∙ ap (λ (b : Bool). cond b (w (slot_of r.stage)) 0) (eq-eqb (part l r) k p)

load_other : (l : Layout) (k : ℕ) (w : ℕ → ℕ) (r : Record) → (part l r ≡ k → ⊥) → load l k w r ≡ 0
unfolding load
load_other l k w r ne =
    ap (λ (b : Bool). cond (occupant_stage r.stage) (cond b (w (slot_of r.stage)) 0) 0) (ne_eqb (part l r) k ne)
    ∙ cond_both (occupant_stage r.stage) 0 0 (λ n. n ≡ 0) (λ _. refl) (λ _. refl)

pub load_zero : (l : Layout) (k : ℕ) (w : ℕ → ℕ) (r : Record) → w (slot_of r.stage) ≡ 0 → load l k w r ≡ 0
unfolding load
load_zero l k w r e =
    ap (λ (n : ℕ). cond (occupant_stage r.stage) (cond (eqb (part l r) k) n 0) 0) e
    ∙ cond_both (occupant_stage r.stage) _ 0 (λ n. n ≡ 0) (λ _. cond_both (eqb (part l r) k) 0 0 (λ n. n ≡ 0) (λ _. refl) (λ _. refl)) (λ _. refl)

load_aged : (l : Layout) (k : ℕ) (w : ℕ → ℕ) (r : Record) → load l k w (aged r) ≡ load l k w r
unfolding load
load_aged l k w r = refl

-- what stands in the line of k and what the occupants of k take
abbrev pub balance : Layout → ℕ → (ℕ → ℕ) → List Record → List (List ℕ) → ℕ
balance l k w rs ls = sum_by w (get_or ls k []) + sum_by (load l k w) rs

pub joined_room : (xs : List ℕ) (slot : ℕ) → length xs < 8 → joined xs slot ≡ xs ++ slot ∷ []
joined_room xs slot room = take_all 8 (xs ++ slot ∷ []) (omega (arith, length_push xs slot))

module _ (l : Layout) (k : ℕ) (w : ℕ → ℕ) where
  -- a record that takes nothing is written over one that takes nothing
  pub balance_none : (rs : List Record) (ls : List (List ℕ)) (i : ℕ) (q : Record) → i < length rs → occupant_stage (at rs i).stage ≡ false → occupant_stage q.stage ≡ false → balance l k w (set rs i q) ls ≡ balance l k w rs ls
  balance_none rs ls i q b e f =
      omega (arith, sum_by-set (load l k w) rs i q blank b, load_none l k w (at rs i) e, load_none l k w q f)

  -- a slot leaves the front of a line, and a record of that partition takes it
  balance_take : (rs : List Record) (ls : List (List ℕ)) (p i slot : ℕ) (rest : List ℕ) (q : Record) → i < length rs → p < length ls → get_or ls p [] ≡ slot ∷ rest → occupant_stage (at rs i).stage ≡ false → q.stage ≡ Reserved slot → part l q ≡ p → balance l k w (set rs i q) (set ls p rest) ≡ balance l k w rs ls
  balance_take rs ls p i slot rest q b c e was now mine =
      let sums = sum_by-set (load l k w) rs i q blank b in
      let zero-was = load_none l k w (at rs i) was in
      ⊎_elim
      (λ z. let here : load l k w q ≡ w slot = load_here l k w q (ap occupant_stage now) (mine ∙ sym z) ∙ ap (λ σ. w (slot_of σ)) now in
      let before : sum_by w (get_or ls k []) ≡ w slot + sum_by w rest = ap (λ (x : ℕ). sum_by w (get_or ls x [])) z ∙ ap (sum_by w) e ∙ sum_by-cons w slot rest in
      let after : sum_by w (get_or (set ls p rest) k []) ≡ sum_by w rest = ap (λ (x : ℕ). sum_by w (get_or (set ls p rest) x [])) z ∙ ap (sum_by w) (get_or-set_same ls p rest [] c) in
      omega (arith, sums, zero-was, here, before, after))
      (λ ne. let there : load l k w q ≡ 0 = load_other l k w q (λ x. ne (sym x ∙ mine)) in
      let same : sum_by w (get_or (set ls p rest) k []) ≡ sum_by w (get_or ls k []) = ap (sum_by w) (get_or-set_other ls p k rest [] ne) in
      omega (arith, sums, zero-was, there, same))
      (cases_eq k p)

  -- an occupant gives its slot to the end of the line of its partition
  balance_give : (rs : List Record) (ls : List (List ℕ)) (i slot : ℕ) (q : Record) → i < length rs → part l (at rs i) < length ls → occupant_stage (at rs i).stage ≡ true → slot_of (at rs i).stage ≡ slot → occupant_stage q.stage ≡ false → length (get_or ls (part l (at rs i)) []) < 8 → balance l k w (set rs i q) (set ls (part l (at rs i)) (joined (get_or ls (part l (at rs i)) []) slot)) ≡ balance l k w rs ls
  balance_give rs ls i slot q b c was its now room =
      let p = part l (at rs i) in
      let new_line : List ℕ = joined (get_or ls p []) slot in
      let sums = sum_by-set (load l k w) rs i q blank b in
      let zero-now = load_none l k w q now in
      ⊎_elim
      (λ z. let here : load l k w (at rs i) ≡ w slot = load_here l k w (at rs i) was (sym z) ∙ ap w its in
      let after : sum_by w (get_or (set ls p new_line) k []) ≡ sum_by w (get_or ls k []) + w slot =
      ap (λ (x : ℕ). sum_by w (get_or (set ls p new_line) x [])) z ∙ ap (sum_by w) (get_or-set_same ls p new_line [] c) ∙ ap (sum_by w) (joined_room (get_or ls p []) slot room) ∙ sum_by_push w (get_or ls p []) slot ∙ ap (λ (x : ℕ). sum_by w (get_or ls x []) + w slot) (sym z) in
      omega (arith, sums, zero-now, here, after))
      (λ ne. let there : load l k w (at rs i) ≡ 0 = load_other l k w (at rs i) (λ x. ne (sym x)) in
      let same : sum_by w (get_or (set ls p new_line) k []) ≡ sum_by w (get_or ls k []) = ap (sum_by w) (get_or-set_other ls p k new_line [] ne) in
      omega (arith, sums, zero-now, there, same))
      (cases_eq k p)

  -- an occupant stays in its slot
  balance_stay : (rs : List Record) (ls : List (List ℕ)) (i : ℕ) (q : Record) → i < length rs → load l k w q ≡ load l k w (at rs i) → balance l k w (set rs i q) ls ≡ balance l k w rs ls
  balance_stay rs ls i q b e = omega (arith, sum_by-set (load l k w) rs i q blank b)

  balance_aged : (rs : List Record) (ls : List (List ℕ)) → balance l k w (map aged rs) ls ≡ balance l k w rs ls
  balance_aged rs ls =
      ap (λ (n : ℕ). sum_by w (get_or ls k []) + n)
      (sum_same (load l k w) (load l k w) blank blank (map aged rs) rs (length-map rs aged)
      (λ j b. ap (load l k w) (get_or-map aged rs j blank blank (omega (arith, length-map rs aged))) ∙ load_aged l k w (at rs j)))

-- the stages that a fed request can have
pub data FedTo (slot : ℕ) : Stage → Type 0 where
  reserved : FedTo slot (Reserved slot)
  running : FedTo slot (Running slot)
  ended : (o : Outcome) → FedTo slot (Ended slot o)

pub fed_to : (slot : ℕ) (told : Result Fed Refusal) (left : ℕ) → FedTo slot (fed_stage slot told left)
fed_to slot (Ok (Flawed b d)) left = FedTo.ended (Flaw b d)
fed_to slot (Ok (Wrote n)) left = cond_both (eqb left 0) (Running slot) (Reserved slot) (FedTo slot) (λ _. FedTo.running) (λ _. FedTo.reserved)
fed_to slot (Err why) left = FedTo.reserved

-- what writing leaves, if the fed request is then at stage σ
abbrev pub written_as : State → ℕ → Stage → Meaning → State
written_as s i σ m =
    freed_by σ (part s.layout (at s.records i)) (moved s (set (map aged s.records) i (fed_record (at s.records i) σ)) s.lines m)

module _ (k : ℕ) (w : ℕ → ℕ) where
  abbrev pub balanced : State → ℕ
  balanced s = balance s.layout k w s.records s.lines

  pub balanced_grant : (s : State) (p i slot : ℕ) (rest : List ℕ) → Grants s p i slot rest → balanced (grant s p i slot rest) ≡ balanced s
  balanced_grant s p i slot rest g =
      let q = and_parts _ _ g.lowest.has in
      balance_take s.layout k w s.records s.lines p i slot rest (staged (at s.records i) (Reserved slot)) g.lowest.within g.there g.first (queued_free _ q.0) refl (eqb-true _ _ q.1)

  pub balanced_finish : (s : State) (i : ℕ) (o : Outcome) → Ends s i → part s.layout (at s.records i) < length s.lines → length (line s (part s.layout (at s.records i))) < 8 → balanced (finish s i o) ≡ balanced s
  balanced_finish s i o e c room =
      balance_give s.layout k w s.records s.lines i (slot_of (at s.records i).stage) (staged (at s.records i) (Ended (slot_of (at s.records i).stage) o)) e.there c (running_occupant _ e.runs) refl refl room

  written_at : (s : State) (i : ℕ) (m : Meaning) (slot : ℕ) (σ : Stage) → FedTo slot σ → i < length s.records → reserved_stage (at s.records i).stage ≡ true → slot_of (at s.records i).stage ≡ slot → part s.layout (at s.records i) < length s.lines → length (line s (part s.layout (at s.records i))) < 8 → balanced (written_as s i σ m) ≡ balanced s
  unfolding load
  written_at s i m slot σ f b e its c room =
      let rs = s.records in
      let gs = map aged rs in
      let la : i < length gs = omega (arith, length-map rs aged) in
      let it : at gs i ≡ aged (at rs i) = get_or-map aged rs i blank blank b in
      let occ : occupant_stage (at gs i).stage ≡ true = ap (λ r. occupant_stage r.stage) it ∙ reserved_occupant _ e in
      let its' : slot_of (at gs i).stage ≡ slot = ap (λ r. slot_of r.stage) it ∙ its in
      let pa : part s.layout (at gs i) ≡ part s.layout (at rs i) = ap (part s.layout) it in
      (go σ f gs la occ its' pa) ∙ balance_aged s.layout k w rs s.lines
    where
      stays : (σ : Stage) → occupant_stage σ ≡ true → slot_of σ ≡ slot → (gs : List Record) → occupant_stage (at gs i).stage ≡ true → slot_of (at gs i).stage ≡ slot → part s.layout (at gs i) ≡ part s.layout (at s.records i) → load s.layout k w (fed_record (at s.records i) σ) ≡ load s.layout k w (at gs i)
      stays σ o z gs occ its' pa =
          ap (λ (b : Bool). cond b (cond (eqb (part s.layout (at s.records i)) k) (w (slot_of σ)) 0) 0) (o ∙ sym occ)
          ∙ ap (λ (x : ℕ). cond (occupant_stage (at gs i).stage) (cond (eqb (part s.layout (at s.records i)) k) (w x) 0) 0) (z ∙ sym its')
          ∙ ap (λ (x : ℕ). cond (occupant_stage (at gs i).stage) (cond (eqb x k) (w (slot_of (at gs i).stage)) 0) 0) (sym pa)

      go : (σ : Stage) → FedTo slot σ → (gs : List Record) → i < length gs → occupant_stage (at gs i).stage ≡ true → slot_of (at gs i).stage ≡ slot → part s.layout (at gs i) ≡ part s.layout (at s.records i) → balanced (freed_by σ (part s.layout (at s.records i)) (moved s (set gs i (fed_record (at s.records i) σ)) s.lines m)) ≡ balance s.layout k w gs s.lines
      go σ FedTo.reserved gs la occ its' pa = balance_stay s.layout k w gs s.lines i _ la (stays (Reserved slot) refl refl gs occ its' pa)
      go σ FedTo.running gs la occ its' pa = balance_stay s.layout k w gs s.lines i _ la (stays (Running slot) refl refl gs occ its' pa)
      go σ (FedTo.ended o) gs la occ its' pa =
          subst (λ (p : ℕ). balance s.layout k w (set gs i (fed_record (at s.records i) (Ended slot o))) (set s.lines p (joined (get_or s.lines p []) slot)) ≡ balance s.layout k w gs s.lines) pa
          (balance_give s.layout k w gs s.lines i slot (fed_record (at s.records i) (Ended slot o)) la (subst (λ (x : ℕ). x < length s.lines) (sym pa) c) occ its' refl (subst (λ (x : ℕ). length (line s x) < 8) (sym pa) room))

  pub balanced_write : (s : State) (i : ℕ) → Chosen s i → part s.layout (at s.records i) < length s.lines → length (line s (part s.layout (at s.records i))) < 8 → balanced (write s i) ≡ balanced s
  balanced_write s i c d room =
      let slot = slot_of (at s.records i).stage in
      written_at s i (feed_after s.interrupts s.port slot) slot (stage_fed s i) (fed_to slot (feed_answer s.interrupts s.port slot) (left_in (feed_after s.interrupts s.port slot) slot)) c.there c.reserved refl d room

  pub balanced_idle : (s : State) → balanced (idle_on s) ≡ balanced s
  balanced_idle s = balance_aged s.layout k w s.records s.lines

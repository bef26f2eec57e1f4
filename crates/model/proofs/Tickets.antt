-- Tickets: whose they are, that no two are the same, and that each one given is collected or held.
use Rattle.std.proofs.Common.{◌≡◌, ℕ, ◌+◌, ◌<◌, ◌≤◌, Bool, true, false, cond, not, eqb, leb, List, [], ◌∷◌, length, set, replicate, Some, None, sum_by, sym, refl, ap, ◌∙◌, subst, subst₂, ⊎_elim, Ok, arith}
use Rattle.std.proofs.lemmas.List.{get_or-replicate, length-set}
use Rattle.std.proofs.lemmas.List.Sums.{sum_by-set}
use Rattle.std.proofs.lemmas.Bool.{cases_eq, eq-eqb, ne_eqb, cond-true, cond-false}
use Rattle.plan.specs.Rules.{Layout}
use Rattle.delays.specs.Delays.{accelerator_at}
use Rattle.model.specs.declared.requests.Report.{Report}
use Rattle.model.specs.declared.requests.Record.{Record}
use Rattle.model.specs.declared.refusals.Refusal.TheVariants.{NoTask, NoRequest, OtherTicket, Unended}
use Rattle.model.specs.declared.calls.Call.TheVariants.{Request, Collect}
use Rattle.model.specs.declared.calls.Answer.TheVariants.{Ticket, Collected}
use Rattle.model.specs.Records.{blank, at, held_stage, unended_stage, one, new}
use Rattle.model.specs.States.{State}
use Rattle.ports.specs.Calls.{judged}
use Rattle.model.specs.Calls.{report}
use Rattle.model.specs.Runs.{Event, Trace}
use Rattle.model.specs.Promises.{too_early, collectable, holds, unended, gives, collects, given, collected, Since, Told}
use Rattle.model.proofs.Stages.{no_true}
use Rattle.model.proofs.Tables.{at_set, sum_same}
use Rattle.model.proofs.Sames.{Alike, Same}
use Rattle.model.proofs.Traces.{told_inv, none_told, collect_inj, report_inj, ticket_report}

abbrev pub Held : Record → Type 0
Held r = held_stage r.stage ≡ true

pub record Owned (l : Layout) (i : ℕ) (r : Record) : Type 0 where
  pub there : r.accelerator < length l.accelerators
  pub mine : (accelerator_at l r.accelerator).owner ≡ i

-- a record belongs to the owner of its accelerator, its ticket is below the next one, and no two have the same
pub record Tickets (l : Layout) (rs : List Record) (n : ℕ) : Type 0 where
  pub size : length rs ≡ 16
  pub room : n ≤ 4294967296
  pub owned : (i : ℕ) → i < 16 → Held (at rs i) → Owned l i (at rs i)
  pub below : (i : ℕ) → i < 16 → Held (at rs i) → (at rs i).ticket < n
  pub apart : (i j : ℕ) → i < 16 → j < 16 → Held (at rs i) → Held (at rs j) → (at rs i).ticket ≡ (at rs j).ticket → i ≡ j

pub tickets_start : (l : Layout) (n : ℕ) → n ≤ 4294967295 → Tickets l (replicate 16 blank) n
tickets_start l n e =
    let z : (i : ℕ) → i < 16 → at (replicate 16 blank) i ≡ blank = λ i b. get_or-replicate 16 i blank blank b in
    let no : (i : ℕ) → i < 16 → Held (at (replicate 16 blank) i) → ⊥ = λ i b h. no_true (sym (ap (λ r. held_stage r.stage) (z i b)) ∙ h) in
    record { size = refl; room = omega arith; owned = λ i b h. absurd (no i b h); below = λ i b h. absurd (no i b h); apart = λ i j b c h k e. absurd (no i b h) }

pub tickets_same : {l : Layout} {rs : List Record} (qs : List Record) {n : ℕ} → Tickets l rs n → Same rs qs → Tickets l qs n
tickets_same {l} {rs} qs {n} t s =
    let lk : (i : ℕ) → i < 16 → Alike (at rs i) (at qs i) = λ i b. s.each i (omega (arith, t.size)) in
    let was : (i : ℕ) → i < 16 → Held (at qs i) → Held (at rs i) = λ i b h. sym (lk i b).held ∙ h in
    record {
      size = s.size ∙ t.size;
      room = t.room;
      owned = λ i b h.
          let o = t.owned i b (was i b h) in
          record { there = omega (arith, o.there, (lk i b).accelerator); mine = ap (λ (a : ℕ). (accelerator_at l a).owner) (lk i b).accelerator ∙ o.mine };
      below = λ i b h. omega (arith, t.below i b (was i b h), (lk i b).ticket);
      apart = λ i j b c h k e. t.apart i j b c (was i b h) (was j c k) (sym (lk i b).ticket ∙ e ∙ (lk j c).ticket);
    }

pub tickets_enter : {l : Layout} {rs : List Record} {n : ℕ} (i a : ℕ) → Tickets l rs n → i < 16 → n ≤ 4294967295 → a < length l.accelerators → (accelerator_at l a).owner ≡ i → Tickets l (set rs i (new a n)) (n + 1)
tickets_enter {l} {rs} {n} i a t b room there mine =
    let lr : i < length rs = omega (arith, t.size) in
    record {
      size = length-set rs i (new a n) ∙ t.size;
      room = omega arith;
      owned = λ j c. at_set (λ r. Held r → Owned l j r) rs i (new a n) j lr (λ e _. record { there = there; mine = mine ∙ sym e }) (λ ne. t.owned j c);
      below = λ j c. at_set (λ r. Held r → r.ticket < n + 1) rs i (new a n) j lr (λ e _. omega arith) (λ ne h. omega (arith, t.below j c h));
      apart = λ j k c d.
          at_set (λ r. Held r → Held (at (set rs i (new a n)) k) → r.ticket ≡ (at (set rs i (new a n)) k).ticket → j ≡ k) rs i (new a n) j lr
          (λ e _. at_set (λ q. Held q → n ≡ q.ticket → j ≡ k) rs i (new a n) k lr (λ f _ _. e ∙ sym f) (λ ne h z. absurd (omega (arith, t.below k d h))))
          (λ ne h. at_set (λ q. Held q → (at rs j).ticket ≡ q.ticket → j ≡ k) rs i (new a n) k lr (λ f _ z. absurd (omega (arith, t.below j c h))) (λ nf h' z. t.apart j k c d h h' z));
    }

pub tickets_empty : {l : Layout} {rs : List Record} {n : ℕ} (i : ℕ) → Tickets l rs n → i < 16 → Tickets l (set rs i blank) n
tickets_empty {l} {rs} {n} i t b =
    let lr : i < length rs = omega (arith, t.size) in
    record {
      size = length-set rs i blank ∙ t.size;
      room = t.room;
      owned = λ j c. at_set (λ r. Held r → Owned l j r) rs i blank j lr (λ e h. no_true h) (λ ne. t.owned j c);
      below = λ j c. at_set (λ r. Held r → r.ticket < n) rs i blank j lr (λ e h. no_true h) (λ ne. t.below j c);
      apart = λ j k c d.
          at_set (λ r. Held r → Held (at (set rs i blank) k) → r.ticket ≡ (at (set rs i blank) k).ticket → j ≡ k) rs i blank j lr
          (λ e h. no_true h)
          (λ ne h. at_set (λ q. Held q → (at rs j).ticket ≡ q.ticket → j ≡ k) rs i blank k lr (λ f h'. no_true h') (λ nf h' z. t.apart j k c d h h' z));
    }

-- ---- given, collected, held

-- 1 where the record holds ticket t
abbrev pub holds1 : ℕ → Record → ℕ
holds1 t r = one (cond (held_stage r.stage) (eqb r.ticket t) false)

pub record Tally (h : Trace) (rs : List Record) (n : ℕ) : Type 0 where
  pub unborn : (t : ℕ) → n ≤ t → given h t ≡ 0
  pub kept : (t : ℕ) → given h t ≡ collected h t + sum_by (holds1 t) rs
  pub once : (t : ℕ) → given h t ≤ 1
  pub own : (i : ℕ) → i < 16 → Held (at rs i) → (later : Trace) × Since i (at rs i).accelerator (at rs i).ticket later h
  pub told : (i t : ℕ) (r : Report) → Told i t r h → (later : Trace) × Since i r.accelerator t later h

-- what was accepted before an event was accepted before it still
before : {task a t : ℕ} {h : Trace} (e : Event) → (later : Trace) × Since task a t later h → (later : Trace) × Since task a t later (e ∷ h)
before e o = (e ∷ o.0, Since.there e o.1)

holds1_free : (u : ℕ) (r : Record) → held_stage r.stage ≡ false → holds1 u r ≡ 0
holds1_free u r e = ap (λ (b : Bool). one (cond b (eqb r.ticket u) false)) e

holds1_held : (u : ℕ) (r : Record) → Held r → holds1 u r ≡ one (eqb r.ticket u)
holds1_held u r e = ap (λ (b : Bool). one (cond b (eqb r.ticket u) false)) e

one_same : (t : ℕ) → one (eqb t t) ≡ 1
one_same t = cond-true (eqb t t) 1 0 (eq-eqb t t refl)

one_other : (t u : ℕ) → (t ≡ u → ⊥) → one (eqb t u) ≡ 0
one_other t u ne = cond-false (eqb t u) 1 0 (ne_eqb t u ne)

pub tally_start : (n : ℕ) → Tally [] (replicate 16 blank) n
tally_start n =
    let z : (i : ℕ) → i < 16 → at (replicate 16 blank) i ≡ blank = λ i b. get_or-replicate 16 i blank blank b in
    record { unborn = λ t b. refl; kept = λ t. refl; once = λ t. omega arith; own = λ i b h. no_true (sym (ap (λ r. held_stage r.stage) (z i b)) ∙ h); told = λ i t r x. absurd (none_told x) }

-- a move gives and collects nothing
pub tally_same : {h : Trace} {rs : List Record} {n : ℕ} (qs : List Record) → length rs ≡ 16 → Tally h rs n → Same rs qs → Tally h qs n
tally_same {h} {rs} {n} qs size t s =
    let lk : (i : ℕ) → i < 16 → Alike (at rs i) (at qs i) = λ i b. s.each i (omega (arith, size)) in
    let sums : (u : ℕ) → sum_by (holds1 u) qs ≡ sum_by (holds1 u) rs =
    λ u. sum_same (holds1 u) (holds1 u) blank blank qs rs s.size
    (λ k b. let a = s.each k (omega (arith, s.size)) in
    ap (λ (x : Bool). one (cond x (eqb (at qs k).ticket u) false)) a.held ∙ ap (λ (x : ℕ). one (cond (held_stage (at rs k).stage) (eqb x u) false)) a.ticket) in
    record {
      unborn = t.unborn;
      kept = λ u. omega (arith, t.kept u, sums u);
      once = t.once;
      own = λ i b hd.
          let o = t.own i b (sym (lk i b).held ∙ hd) in
          let P : ℕ → ℕ → Type 0 = λ a u. Since i a u o.0 h in
          (o.0, subst (λ (a : ℕ). P a (at qs i).ticket) (sym (lk i b).accelerator) (subst (λ (u : ℕ). P (at rs i).accelerator u) (sym (lk i b).ticket) o.1));
      told = t.told;
    }

-- nor does an event that is neither an accepted request nor an accepted collect
pub tally_quiet : {h : Trace} {rs : List Record} {n : ℕ} (e : Event) → Tally h rs n → ((t : ℕ) → gives e.answer t ≡ 0) → ((t : ℕ) → collects e.call e.answer t ≡ 0) → Tally (e ∷ h) rs n
tally_quiet {h} {rs} {n} e t g c =
    record {
      unborn = λ u b. omega (arith, t.unborn u b, g u);
      kept = λ u. omega (arith, t.kept u, g u, c u);
      once = λ u. omega (arith, t.once u, g u);
      own = λ i b hd. before e (t.own i b hd);
      told = λ i u r x. ⊎_elim
          (λ z. absurd (omega (arith, c u, ap (λ y. collects y e.answer u) z.0, ap (λ y. collects (Collect i u) y u) z.1, one_same u)))
          (λ y. before e (t.told i u r y))
          (told_inv e h x);
    }

pub tally_enter : {l : Layout} {h : Trace} {rs : List Record} {n : ℕ} (s : State) (i a : ℕ) → Tickets l rs n → Tally h rs n → i < 16 → held_stage (at rs i).stage ≡ false → Tally (record { before = s; call = Request i a; answer = Ok (Ticket n) } ∷ h) (set rs i (new a n)) (n + 1)
tally_enter {l} {h} {rs} {n} s i a ts t b free =
    let lr : i < length rs = omega (arith, ts.size) in
    let was : given h n ≡ 0 = t.unborn n (omega arith) in
    let sums : (u : ℕ) → sum_by (holds1 u) (set rs i (new a n)) ≡ sum_by (holds1 u) rs + one (eqb n u) =
    λ u. omega (arith, sum_by-set (holds1 u) rs i (new a n) blank lr, holds1_free u (at rs i) free) in
    record {
      unborn = λ u c. omega (arith, t.unborn u (omega arith), one_other n u (λ z. omega arith));
      kept = λ u. omega (arith, t.kept u, sums u);
      once = λ u. ⊎_elim (λ z. omega (arith, subst (λ (x : ℕ). given h x ≡ 0) z was, ap (λ (x : ℕ). one (eqb n x)) (sym z), one_same n)) (λ ne. omega (arith, one_other n u ne, t.once u)) (cases_eq n u);
      own = λ j c.
          let e : Event = record { before = s; call = Request i a; answer = Ok (Ticket n) } in
          at_set (λ r. Held r → (later : Trace) × Since j r.accelerator r.ticket later (e ∷ h)) rs i (new a n) j lr
          (λ z _. ([], subst (λ (x : ℕ). Since x a n [] (e ∷ h)) (sym z) (Since.here s)))
          (λ ne hd. before e (t.own j c hd));
      told = λ j u r x.
          let e : Event = record { before = s; call = Request i a; answer = Ok (Ticket n) } in
          ⊎_elim (λ z. ticket_report n r z.1) (λ y. before e (t.told j u r y)) (told_inv e h x);
    }

pub tally_collect : {l : Layout} {h : Trace} {rs : List Record} {n : ℕ} (s : State) (i u : ℕ) (r : Report) → Tickets l rs n → Tally h rs n → i < 16 → Held (at rs i) → (at rs i).ticket ≡ u → r.accelerator ≡ (at rs i).accelerator → Tally (record { before = s; call = Collect i u; answer = Ok (Collected r) } ∷ h) (set rs i blank) n
tally_collect {l} {h} {rs} {n} s i u r ts t b hd named image =
    let lr : i < length rs = omega (arith, ts.size) in
    let sums : (v : ℕ) → sum_by (holds1 v) (set rs i blank) + one (eqb u v) ≡ sum_by (holds1 v) rs =
    λ v. omega (arith, sum_by-set (holds1 v) rs i blank blank lr, holds1_held v (at rs i) hd, ap (λ (x : ℕ). one (eqb x v)) named) in
    let e : Event = record { before = s; call = Collect i u; answer = Ok (Collected r) } in
    record {
      unborn = λ v c. omega (arith, t.unborn v c);
      kept = λ v. omega (arith, t.kept v, sums v);
      once = λ v. omega (arith, t.once v);
      own = λ j c. at_set (λ q. Held q → (later : Trace) × Since j q.accelerator q.ticket later (e ∷ h)) rs i blank j lr (λ z hd'. no_true hd') (λ ne hd'. before e (t.own j c hd'));
      told = λ j v q x. ⊎_elim
          (λ z. let same = collect_inj i u j v z.0 in
          let o = t.own i b hd in
          let mine : Since i r.accelerator u o.0 h = subst₂ (λ (y w : ℕ). Since i y w o.0 h) (sym image) named o.1 in
          let its : Since j r.accelerator v o.0 h = subst₂ (λ (k w : ℕ). Since k r.accelerator w o.0 h) same.0 same.1 mine in
          before e (o.0, subst (λ (y : ℕ). Since j y v o.0 h) (ap (λ y. y.accelerator) (report_inj r q z.1)) its))
          (λ y. before e (t.told j v q y))
          (told_inv e h x);
    }

-- ---- what collect would answer, by the record

holds_by : (b c d e : Bool) (r : Report) → collectable (judged (cond b (Some NoTask) (cond (not c) (Some NoRequest) (cond (not d) (Some OtherTicket) (cond e (Some Unended) None)))) (Collected r)) ≡ cond b false (cond c d false)
holds_by b c d e r = grind arith

unended_by : (b c d e : Bool) (r : Report) → too_early (judged (cond b (Some NoTask) (cond (not c) (Some NoRequest) (cond (not d) (Some OtherTicket) (cond e (Some Unended) None)))) (Collected r)) ≡ cond b false (cond c (cond d e false) false)
unended_by b c d e r = grind arith

pub holds_is : (s : State) (i t : ℕ) → holds s i t ≡ cond (leb s.layout.tasks i) false (cond (held_stage (at s.records i).stage) (eqb (at s.records i).ticket t) false)
holds_is s i t = holds_by (leb s.layout.tasks i) (held_stage (at s.records i).stage) (eqb (at s.records i).ticket t) (unended_stage (at s.records i).stage) (report (at s.records i))

pub unended_is : (s : State) (i t : ℕ) → unended s i t ≡ cond (leb s.layout.tasks i) false (cond (held_stage (at s.records i).stage) (cond (eqb (at s.records i).ticket t) (unended_stage (at s.records i).stage) false) false)
unended_is s i t = unended_by (leb s.layout.tasks i) (held_stage (at s.records i).stage) (eqb (at s.records i).ticket t) (unended_stage (at s.records i).stage) (report (at s.records i))

-- The invariants hold at the start, each move keeps them, and they bound the waits.
use Rattle.std.proofs.Common.{◌≡◌, ℕ, ◌+◌, ◌*◌, ◌/◌, ◌<◌, ◌≤◌, Bool, true, false, sym, refl, ap, ◌∙◌, mul_comm, le-div_iff_mul-le, arith}
use native.Mathlib.Nat.{add-mul-div_left}
use Rattle.waits.specs.Table.{Stage, Given, State, Held, one, held_stage, queued_stage, reserved_stage, running_stage, waiting_stage, occupant_stage, unended_stage, occ}
use Rattle.waits.specs.Moves.{Move, Moves, Start, Reached}
use Rattle.waits.specs.Moves.Move.{accepts, grants, finishes, clears, idles, writes}
use Rattle.waits.specs.Moves.Moves.{still, more}
use Rattle.waits.specs.Law.{Inv, Law, delay}
use Rattle.waits.proofs.Psis.{psi_bound}
use Rattle.waits.proofs.Totals.{total_same, total_zero}
use Rattle.waits.proofs.Stages.{no_true}
use Rattle.waits.proofs.Potential.{occ_not}
use Rattle.waits.proofs.Ends.{finish, clear}
use Rattle.waits.proofs.Grants.{grant}
use Rattle.waits.proofs.Accepts.{accept}
use Rattle.waits.proofs.Advances.{idle, write}

pub start : (g : Given) (s : State) → Start g s → Inv g s
start g s m = record {
  below = λ j b u. no (unended_stage) refl j b u;
  apart = λ x y bx by u. no (unended_stage) refl x bx u;
  fits = λ j b u. no (unended_stage) refl j b u;
  slots = λ k. omega (arith, m.line k, total_zero g.places, total_same g.places (λ j. occ k (s.tab j)) (λ j. 0) (λ j b. occ_not k (s.tab j) (ap occupant_stage (m.table j b))));
  order = λ x y bx by q. no (queued_stage) refl x bx q;
  counts = λ j b. record { capped = no held_stage refl j b; queued = no queued_stage refl j b; reserved = no reserved_stage refl j b; running = no running_stage refl j b };
  first = λ x y bx by r. no reserved_stage refl x bx r;
  sole = λ st x y bx by r. no reserved_stage refl x bx r;
  waits = λ x b w. no waiting_stage refl x b w;
  delayed = λ st x a b bx ba bb w. no waiting_stage refl x bx w;
  few = λ x b h. no held_stage refl x b h;
}
  where
    no : {A : Type 0} (f : Stage → Bool) → f Stage.empty ≡ false → (j : ℕ) → j < g.places → f (s.tab j).stage ≡ true → A
    no f e j b u = no_true (sym e ∙ sym (ap f (m.table j b)) ∙ u)

pub keeps : (g : Given) (s s' : State) → Inv g s → Move g s s' → Inv g s'
keeps g s s' i (accepts p k w r m) = accept g s s' i p k w r m
keeps g s s' i (grants p m) = grant g s s' i p m
keeps g s s' i (finishes p m) = finish g s s' i p m
keeps g s s' i (clears p q' m) = clear g s s' i p q' m
keeps g s s' i (idles m) = idle g s s' i m
keeps g s s' i (writes p σ m) = write g s s' i p σ m

pub on : (g : Given) (s s' : State) → Inv g s → Moves g s s' → Inv g s'
on g s s' i still = i
on g s s'' i (more {s'} ms m) = keeps g s' s'' (on g s s' i ms) m

pub reached : (g : Given) (s : State) → Reached g s → Inv g s
reached g s r = on g r.from s (start g r.from r.start) r.moves

divided : (n w a c : ℕ) → 0 < n → n * w ≤ a + n * c → w ≤ a / n + c
divided n w a c p h =
    let d : w ≤ (a + n * c) / n = (le-div_iff_mul-le p).1 (omega (arith, mul_comm n w)) in
    omega (arith, d, add-mul-div_left a c p)

waits : (g : Given) (s : State) → Inv g s → (i : ℕ) → i < g.places → Held (s.tab i) → 0 < g.slots (s.tab i).part → (s.tab i).waited ≤ delay g i (s.tab i).part
waits g s v i b h p = divided _ _ _ _ p (v.few i b h _ (omega arith))

one_tick : (σ : Stage) → unended_stage σ ≡ true → one (waiting_stage σ) + one (running_stage σ) ≡ 1
one_tick Stage.empty e = no_true e
one_tick Stage.queued e = refl
one_tick Stage.reserved e = refl
one_tick Stage.running e = refl
one_tick Stage.ended e = no_true e

pub law : Law
law = record {
  keeps = keeps;
  on = on;
  holds = reached;
  bound = psi_bound;
  waits = waits;
  stays = λ g s v i b h p. omega (arith, waits g s v i b h p, (v.counts i b).capped h);
  ages = λ q u. omega (arith, one_tick q.stage u);
  writes = λ q σ. omega arith;
}

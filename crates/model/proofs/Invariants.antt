-- What every state keeps, between the moves of a call too, and how far the counts of its requests can go.
use Rattle.std.proofs.Common.{◌≡◌, ℕ, ◌<◌, ◌≤◌, Bool, true, ◌∙◌, arith}
use Rattle.plan.specs.Rules.{Layout}
use Rattle.delays.specs.Delays.{partition_at, accelerator_at, write_time, delay}
use Rattle.delays.proofs.Bounds.{tasks_within, write_within, delay_within}
use Rattle.model.specs.Records.{at}
use Rattle.model.specs.States.{State, part}
use Rattle.model.proofs.Tickets.{Held}
use Rattle.model.proofs.Placed.{Placed}
use Rattle.model.proofs.Stores.{Stored}
use Rattle.model.specs.Stops.{Roomy}
use Rattle.model.proofs.Views.{seen, given, view, delay_is, seen_held}
use Rattle.waits.specs.Table as waits
use Rattle.waits.specs.Law as law
use Rattle.waits.proofs.Laws as laws

pub record Invariant (rate : ℕ) (s : State) : Type 0 where
  pub some : 0 < rate
  pub placed : Placed s
  pub stored : Stored rate s
  pub inv : law.Inv (given s.layout rate s.interrupts) (view rate s)

-- the counts w, v and x of a request for accelerator a are within its delay, its write time and its run
pub record Capped (l : Layout) (rate : ℕ) (kd : Bool) (a w v x : ℕ) : Type 0 where
  pub waited : w ≤ delay l rate kd a
  pub written : v ≤ write_time l rate a
  pub run : x ≤ (accelerator_at l a).run

pub capped : (s : State) (rate : ℕ) → Invariant rate s → (i : ℕ) → i < 16 → Held (at s.records i) → Capped s.layout rate s.interrupts (at s.records i).accelerator (at s.records i).waited (at s.records i).written (at s.records i).run
capped s rate md i c hd =
    let l = s.layout in
    let r = at s.records i in
    let b = md.placed in
    let o = b.tickets.owned i c hd in
    let hs : waits.held_stage (seen l rate r).stage ≡ true = seen_held r.stage ∙ hd in
    let p : 1 ≤ (partition_at l (part l r)).slots = (b.rules.partitions _ (b.rules.accelerators _ o.there).0).1.0 in
    let cap = (md.inv.counts i c).capped hs in
    record {
      waited = omega (arith, (laws.law).waits (given l rate s.interrupts) (view rate s) md.inv i c hs p, delay_is l b.rules rate md.some s.interrupts r.accelerator i o.there o.mine (tasks_within l b.rules));
      written = cap.0;
      run = cap.1;
    }

-- no count of a held record is near its stop
pub roomy : (s : State) (rate : ℕ) → Invariant rate s → (i : ℕ) → i < 16 → Held (at s.records i) → Roomy (at s.records i)
roomy s rate md i c hd =
    let r = at s.records i in
    let x = capped s rate md i c hd in
    let rules = md.placed.rules in
    let its = rules.accelerators r.accelerator (md.placed.tickets.owned i c hd).there in
    record {
      waited = omega (arith, x.waited, delay_within s.layout rules rate md.some s.interrupts r.accelerator);
      written = omega (arith, x.written, write_within s.layout rules rate md.some (accelerator_at s.layout r.accelerator));
      run = omega (arith, x.run, its.3.1);
    }

-- Two tasks, one slot, write time 1 and run 1: the second request waits 2 ticks, its delay.
use Rattle.std.proofs.Common.{◌≡◌, ℕ, zero, suc, ◌+◌, ◌*◌, ◌<◌, true, cond, eqb, sym, refl, inr, arith}
use Rattle.waits.specs.Total.{total}
use Rattle.waits.specs.Table.{Rec, Given, State, Fits, Reserved, Running, one, occ}
use Rattle.waits.specs.Table.Stage.{empty, reserved, running}
use Rattle.waits.specs.Moves.{Changed, same, new, staged, fed, aged, Accept, Grant, Settled, Write, Idle, Start}
use Rattle.waits.specs.Moves.Move.{accepts, grants, idles, writes}
use Rattle.waits.specs.Moves.Moves.{still, more}
use Rattle.waits.specs.Sharp.{Sharp}
use Rattle.waits.proofs.Stages.{no_true}

abbrev two : Rec → Rec → ℕ → Rec
two a b zero = a
two a b (suc j) = b

abbrev at : (ℕ → Rec) → (ℕ → ℕ) → ℕ → State
at t l n = record { tab = t; line = l; next = n }

abbrev g : Given
g = record { places = 2; slots = λ k. one (eqb 0 k); stops = true; hold = λ k. 0; heaviest = λ k n j. n * 1 + cond (eqb 0 k) 1 0; uses = λ k j. one (eqb 0 k) }

change_0 : (f : Rec → Rec) (a a' b : Rec) → Changed 2 f (two a b) 0 a' (two a' (f b))
change_0 f a a' b = record { here = omega arith; now = refl; rest = rest }
  where
    rest : (j : ℕ) → j < 2 → (j ≡ 0 → ⊥) → two a' (f b) j ≡ f (two a b j)
    rest zero l ne = absurd (ne refl)
    rest (suc j) l ne = refl

change_1 : (f : Rec → Rec) (a b b' : Rec) → Changed 2 f (two a b) 1 b' (two (f a) b')
change_1 f a b b' = record { here = omega arith; now = refl; rest = rest }
  where
    rest : (j : ℕ) → j < 2 → (j ≡ 1 → ⊥) → two (f a) b' j ≡ f (two a b j)
    rest zero l ne = refl
    rest (suc j) l ne = absurd (ne (omega arith))

fits : (t j : ℕ) → Fits g j (new t 0 1 1)
fits t j = record { some = omega arith; weight = λ k n. omega arith; counted = omega arith; short = λ e. no_true (sym e) }

abbrev none : Rec
none = record { ticket = 0; part = 0; write = 0; run = 0; waited = 0; written = 0; ran = 0; stage = empty }

abbrev a1 : Rec
a1 = new 0 0 1 1

abbrev a2 : Rec
a2 = staged a1 reserved

abbrev a4 : Rec
a4 = fed a2 running

abbrev b3 : Rec
b3 = new 1 0 1 1

abbrev s0 : State
s0 = at (two none none) (λ k. one (eqb 0 k)) 0

abbrev s1 : State
s1 = at (two a1 none) (λ k. one (eqb 0 k)) 1

abbrev s2 : State
s2 = at (two a2 none) (λ k. 0) 1

abbrev s3 : State
s3 = at (two a2 b3) (λ k. 0) 2

abbrev s4 : State
s4 = at (two a4 (aged b3)) (λ k. 0) 2

abbrev s5 : State
s5 = at (two (aged a4) (aged (aged b3))) (λ k. 0) 2

begins : Start g s0
begins = record { table = empties; line = λ k. refl }
  where
    empties : (j : ℕ) → j < 2 → (two none none j).stage ≡ empty
    empties zero b = refl
    empties (suc j) b = refl

first : Accept g s0 0 0 1 1 s1
first = record { free = refl; fits = fits 0 0; table = change_0 same none a1 none; line = λ k. refl; next = omega arith }

granted : Grant g s1 0 s2
unfolding occ
granted = record { was = refl; lowest = λ j b q e. omega arith; table = change_0 same a1 a2 none; line = λ k. omega arith; next = refl }

second : Accept g s2 1 0 1 1 s3
second = record { free = refl; fits = fits 1 1; table = change_1 same a2 none b3; line = λ k. refl; next = omega arith }

ready : Settled g s3
ready = record { full = λ j b q. refl; going = go }
  where
    go : (j : ℕ) → j < 2 → Running (two a2 b3 j) → (two a2 b3 j).ran < (two a2 b3 j).run
    go zero b r = no_true r
    go (suc j) b r = no_true r

written : Write g s3 0 running s4
unfolding occ
written = record { settled = ready; was = refl; chosen = inr (λ j b r. omega arith, λ e. no_true (sym e)); wrote = refl; table = change_0 aged a2 a4 b3; line = λ k. refl; next = refl }

runs : Idle g s4 s5
runs = record { settled = record { full = λ j b q. refl; going = go }; none = free; table = ages; line = λ k. refl; next = refl }
  where
    go : (j : ℕ) → j < 2 → Running (two a4 (aged b3) j) → (two a4 (aged b3) j).ran < (two a4 (aged b3) j).run
    go zero b r = omega arith
    go (suc j) b r = no_true r

    free : (j : ℕ) → j < 2 → Reserved (two a4 (aged b3) j) → ⊥
    free zero b r = no_true r
    free (suc j) b r = no_true r

    ages : (j : ℕ) → j < 2 → two (aged a4) (aged (aged b3)) j ≡ aged (two a4 (aged b3) j)
    ages zero b = refl
    ages (suc j) b = refl

pub sharp : Sharp
unfolding total
sharp = record {
  given = g;
  state = s5;
  place = 1;
  reached = record { from = s0; start = begins; moves = more (more (more (more (more still (accepts 0 0 1 1 first)) (grants 0 granted)) (accepts 1 0 1 1 second)) (writes 0 running written)) (idles runs) };
  within = omega arith;
  waiting = refl;
  longest = refl;
  some = omega arith;
}

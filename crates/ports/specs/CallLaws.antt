-- Each call that is accepted, and what it leaves at its own slot and at the others.
use Rattle.std.specs.Prelude.{◌≡◌, ℕ, ◌<◌, ◌≤◌, Bool, true, false, not, ◌&&◌, ◌≢◌, List, length, None, Ok, Decides, Option, ◌==◌, slice_index_or, refl}
use Rattle.std.proofs.Common.{⊎_elim, arith}
use Rattle.std.proofs.lemmas.List.{get_or-set_same, get_or-set_other}
use Rattle.std.proofs.lemmas.Bool.{cases_Bool, eqb-false, ne_eqb, not-true, not_from_false, and_parts, and_from, both_ways}
use Rattle.std.proofs.lemmas.Bool.Decides.{nat_tests, Decides-below_or}
use Rattle.ports.specs.declared.answers.Refusal.{Refusal}
use Rattle.ports.specs.Meaning.{Entry, Meaning, nothing, entry_at, half}
use Rattle.ports.specs.Calls.{judged, unless, with_entry, why_slot, why_open, opened, open_after, blanked, shut_after, why_feed, other_below, other_half, fed, fed_entry, feed_answer, feed_after}

-- why an accepted call is not refused
slot_in : (s : ℕ) → s ≤ 31 → why_slot s ≡ None
slot_in s h = grind (arith, nat_tests)

open_in : (s i z : ℕ) → s ≤ 31 → i ≤ 31 → 1 ≤ z → z ≤ 1000000 → why_open s i z ≡ None
open_in s i z h hi hz hz' = grind (arith, nat_tests)

feed_in : (k : Bool) (m : Meaning) (s : ℕ) → s ≤ 31 → (entry_at m s).written < (entry_at m s).size → (not k && other_half m s) ≡ false → why_feed k m s ≡ None
feed_in k m s h w o = grind (arith, nat_tests)

moves : {A : Type 0} (w : Option Refusal) (m n : A) → w ≡ None → unless w m n ≡ n
moves w m n e = rw e refl

accepted : {A : Type 0} (w : Option Refusal) (a : A) → w ≡ None → judged w a ≡ Ok a
accepted w a e = rw e refl

pub open_is : (m : Meaning) (s i z : ℕ) → s ≤ 31 → i ≤ 31 → 1 ≤ z → z ≤ 1000000 → open_after m s i z ≡ with_entry m s (opened (entry_at m s) i z)
open_is m s i z h hi hz hz' = moves _ _ _ (open_in s i z h hi hz hz')

pub shut_is : (m : Meaning) (s : ℕ) → s ≤ 31 → shut_after m s ≡ with_entry m s (blanked (entry_at m s))
shut_is m s h = moves _ _ _ (slot_in s h)

pub feed_is : (k : Bool) (m : Meaning) (s : ℕ) → s ≤ 31 → (entry_at m s).written < (entry_at m s).size → (not k && other_half m s) ≡ false → feed_after k m s ≡ with_entry m s (fed_entry m.rate (entry_at m s))
feed_is k m s h w o = moves _ _ _ (feed_in k m s h w o)

pub feed_tells : (k : Bool) (m : Meaning) (s : ℕ) → s ≤ 31 → (entry_at m s).written < (entry_at m s).size → (not k && other_half m s) ≡ false → feed_answer k m s ≡ Ok (fed m.rate (entry_at m s))
feed_tells k m s h w o = accepted _ _ (feed_in k m s h w o)

-- the entries after a change of one
pub entry_same : (m : Meaning) (s : ℕ) (e : Entry) → s < length m.entries → entry_at (with_entry m s e) s ≡ e
entry_same m s e h = get_or-set_same m.entries s e nothing h

pub entry_other : (m : Meaning) (s t : ℕ) (e : Entry) → (t ≢ s) → entry_at (with_entry m s e) t ≡ entry_at m t
entry_other m s t e ne = get_or-set_other m.entries s t e nothing ne

-- a slot below n other than s that is half written
abbrev pub Other : List Entry → ℕ → ℕ → Type 0
Other es s n = (k : ℕ) × (k < n) × ((k ≢ s) × (half (slice_index_or es k nothing) ≡ true))

pub other_decides : (es : List Entry) (s n : ℕ) → Decides (other_below es s n) (Other es s n)
unfolding other_below
other_decides es s n =
    Decides-below_or
    (λ k. not (k == s) && half (slice_index_or es k nothing))
    (λ k. (k ≢ s) × (half (slice_index_or es k nothing) ≡ true))
    (other_below es s)
    (λ k. (
      (λ e. let p = and_parts _ _ e in (eqb-false k s (not-true _ p.0), p.1)),
      (λ q. and_from _ _ (not_from_false _ (ne_eqb k s q.0)) q.1),
    ))
    refl (λ _. refl) n

pub none_below : (es : List Entry) (s n : ℕ) → ((t : ℕ) → t < n → (t ≢ s) → half (slice_index_or es t nothing) ≡ false) → other_below es s n ≡ false
none_below es s n h =
    ⊎_elim
    (λ (e : other_below es s n ≡ true).
    let o = (other_decides es s n).0 e in absurd (both_ways (half (slice_index_or es o.0 nothing)) (h o.0 o.1 o.2.0) o.2.1))
    (λ (e : other_below es s n ≡ false). e)
    (cases_Bool (other_below es s n))

pub no_other : (m : Meaning) (s : ℕ) → ((t : ℕ) → t < 32 → (t ≢ s) → half (entry_at m t) ≡ false) → other_half m s ≡ false
no_other m s h = none_below m.entries s 32 h

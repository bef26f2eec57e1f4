-- What a port remembers of its slots.
use Rattle.std.specs.Prelude.{◌≡◌, ℕ, ◌<◌, Bool, true, false, cond, not, ◌&&◌, List, map, length, Some, None, Option, Result, slice_index_or, slice_set}
use Rattle.std.specs.List.{range_with_len}
use Rattle.ports.specs.declared.answers.Refusal.{Refusal}
use Rattle.ports.specs.declared.answers.Refusal.TheVariants.{OtherHalfWritten}
use Rattle.ports.specs.Meaning.{Entry, nothing, half, Fine}
use Rattle.ports.specs.Calls.{judged, unless, other_below}

-- the entries of the 32 slots
unfoldable pub each_slot : (ℕ → Entry) → List Entry
each_slot f = map f (range_with_len 0 32)

-- slot s waits for another that is half written, where that one cannot be interrupted
abbrev pub must_wait : Bool → List Entry → ℕ → Bool
must_wait interruptible es s = not interruptible && other_below es s 32

-- putting entry e at slot s: refused where it is half written and has to wait
abbrev pub why_put : Bool → List Entry → ℕ → Entry → Option Refusal
why_put interruptible es s e = cond (half e && must_wait interruptible es s) (Some OtherHalfWritten) None

abbrev pub put_answer : Bool → List Entry → ℕ → Entry → Result (Unit {0}) Refusal
put_answer interruptible es s e = judged (why_put interruptible es s e) tt

abbrev pub put_after : Bool → List Entry → ℕ → Entry → List Entry
put_after interruptible es s e = unless (why_put interruptible es s e) es (slice_set es s e)

-- what every memory keeps: 32 entries within their bounds, and none that is half written has to wait
pub record Kept (interruptible : Bool) (es : List Entry) : Type 0 where
  pub slots : length es ≡ 32
  pub fine : (k : ℕ) → k < 32 → Fine (slice_index_or es k nothing)
  pub alone : (k : ℕ) → k < 32 → half (slice_index_or es k nothing) ≡ true → must_wait interruptible es k ≡ false

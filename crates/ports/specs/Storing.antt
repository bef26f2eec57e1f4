-- The memory of the progress of one slot alone: what it means.
use Rattle.std.specs.Prelude.{◌≡◌, ℕ, ◌<◌, Bool, false, cond, not, List, Some, None, Option, ◌==◌, slice_index_or}
use Rattle.std.proofs.Common.{zero-le}
use Rattle.ports.specs.declared.progress.Progress.{Progress}
use Rattle.ports.specs.declared.stored.Stored.{Stored}
use Rattle.ports.specs.declared.stored.Begun.{Begun}
use Rattle.ports.specs.Meaning.{Entry}
use Rattle.ports.specs.Memories.{each_slot}

-- a blank slot without a flaw
abbrev pub vacant : Stored
vacant = record { image = 0; size = 0; whole = false; flaw = None; image_fits = zero-le; size_fits = zero-le; flaw_fits = zero-le }

-- what is stored of a slot whose progress is p
pub record IsStored (p : Progress) (x : Stored) : Type 0 where
  pub image : x.image ≡ p.image
  pub size : x.size ≡ p.size
  pub whole : x.whole ≡ (p.written == p.size)
  pub flaw : x.flaw ≡ p.flaw

-- the progress of slot k: that of the slot that is begun, or 0
abbrev pub written_at : Option Begun → ℕ → ℕ
written_at None k = 0
written_at (Some b) k = cond (k == b.slot.number) b.written 0

-- another slot than s is begun
abbrev pub waits : Option Begun → ℕ → Bool
waits None s = false
waits (Some b) s = not (b.slot.number == s)

-- the entry of slot k, of which n blocks are written unless it is whole
abbrev pub stored_entry : Stored → ℕ → ℕ → Entry
stored_entry x n k = record { image = x.image; size = x.size; written = cond x.whole x.size n; flaw = x.flaw; board = k }

abbrev pub stored_entries : List Stored → Option Begun → List Entry
stored_entries xs begun = each_slot (λ k. stored_entry (slice_index_or xs k vacant) (written_at begun k) k)

-- the slot that has progress is not whole, and more is to be written of it
abbrev pub Current : List Stored → Option Begun → Type 0
Current xs begun =
    (k : ℕ) → k < 32 → 0 < written_at begun k → ((slice_index_or xs k vacant).whole ≡ false) × (written_at begun k < (slice_index_or xs k vacant).size)

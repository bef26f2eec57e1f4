-- The memory of the progress of every slot: what it means.
use Rattle.std.specs.Prelude.{ℕ, List, None, slice_index_or}
use Rattle.std.proofs.Common.{zero-le}
use Rattle.ports.specs.declared.progress.Progress.{Progress}
use Rattle.ports.specs.Meaning.{Entry}
use Rattle.ports.specs.Memories.{each_slot}

-- a blank slot without a flaw
abbrev pub fresh : Progress
fresh = record { image = 0; size = 0; written = 0; flaw = None; image_fits = zero-le; size_fits = zero-le; in_size = zero-le; flaw_fits = zero-le }

-- the board number of a slot is the slot's
abbrev pub progress_entry : Progress → ℕ → Entry
progress_entry p k = record { image = p.image; size = p.size; written = p.written; flaw = p.flaw; board = k }

abbrev pub progress_entries : List Progress → List Entry
progress_entries ps = each_slot (λ k. progress_entry (slice_index_or ps k fresh) k)

-- The entry at a slot.
use Rattle.std.proofs.Common.{sym, ap, ◌∙◌, slice_index_or, arith}
use Rattle.std.proofs.lemmas.List.{get_or_default}
use Rattle.ports.specs.Meaning.{nothing}
use Rattle.ports.specs.MemoryLaws.{each_here}
use Rattle.ports.specs.Progresses.{fresh, progress_entry}
use Rattle.ports.proofs.interruptible.EverySlotMemory.progress.Goals as goal

pub returns : goal.returns
returns c =
    let me = c.args.self.now in
    let s = c.args.slot.number in
    ap (λ p. progress_entry p s) (get_or_default me.slots s c.index-self-slot.result fresh (omega (arith, me.sized, c.args.slot.there)))
    ∙ sym (each_here (λ k. progress_entry (slice_index_or me.slots k fresh) k) s nothing c.args.slot.there)

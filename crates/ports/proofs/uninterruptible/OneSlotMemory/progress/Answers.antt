-- The entry at a slot.
use Rattle.std.proofs.Common.{get_or, sym, ap, ◌∙◌, arith}
use Rattle.std.proofs.lemmas.List.{get_or_default}
use Rattle.ports.specs.Storing.{vacant, written_at, stored_entry}
use Rattle.ports.specs.Meaning.{nothing}
use Rattle.ports.specs.StoringLaws.{stored_here, within}
use Rattle.ports.proofs.uninterruptible.OneSlotMemory.progress.Goals as goal

pub progress-requires : goal.progress-requires
progress-requires c =
    let me = c.args.self.now in
    let s = c.args.slot in
    let e = get_or_default me.slots s.number c.index-self-slot.result vacant (omega (arith, me.sized, s.there)) in
    omega (arith, ap (λ x. x.size) e, within me.slots me.begun s.number me.current, c.written.ensures)

pub returns : goal.returns
returns c =
    let me = c.args.self.now in
    let s = c.args.slot in
    let e = get_or_default me.slots s.number c.index-self-slot.result vacant (omega (arith, me.sized, s.there)) in
    c.progress.ensures s.number
    ∙ ap (λ n. stored_entry (get_or me.slots s.number c.index-self-slot.result) n s.number) c.written.ensures
    ∙ ap (λ x. stored_entry x (written_at me.begun s.number) s.number) e
    ∙ sym (stored_here me.slots me.begun s.number nothing s.there)

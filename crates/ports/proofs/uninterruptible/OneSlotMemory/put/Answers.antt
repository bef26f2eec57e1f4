-- The entries after a change of one slot.
use Rattle.std.proofs.Common.{sym, ◌∙◌, length-set}
use Rattle.std.proofs.lemmas.Bool.{and_right, and_left, both_ways}
use Rattle.ports.specs.StoringLaws.{waits_is, put_stored, put_current}
use Rattle.ports.proofs.uninterruptible.OneSlotMemory.put.Goals as goal
use Rattle.ports.proofs.uninterruptible.OneSlotMemory.put.Goals.{else-is_half_written-via-then-is_half_written+else-must_wait, else-is_half_written-via-else-is_half_written}

pub begun_after-self-requires : goal.begun_after-self-requires
begun_after-self-requires c =
    let me = c.args.self.now in
    λ h. elim c.else-is_half_written.branch [
      | else-is_half_written-via-then-is_half_written+else-must_wait w ↦ waits_is me.slots me.begun c.args.slot.number me.current ∙ sym w.if-must_wait.ensures
      | else-is_half_written-via-else-is_half_written w ↦ absurd (both_ways _ (sym w.if-is_half_written.ensures) h)
    ]

pub invariant_of-self : goal.invariant_of-self
invariant_of-self c =
    let me = c.args.self.now in
    let s = c.args.slot in
    let b = c.begun_after-self in
    record {
      sized = length-set _ _ _ ∙ me.sized;
      current = put_current me.slots me.begun b.result s.number c.args.progress c.from.result me.sized s.there c.from.ensures b.ensures.others b.ensures.own me.current;
    }

pub returns-clause-after : goal.returns-clause-after
returns-clause-after c =
    let me = c.args.self.now in
    let s = c.args.slot in
    let b = c.begun_after-self in
    put_stored me.slots me.begun b.result s.number c.args.progress c.from.result me.sized s.there c.from.ensures b.ensures.others b.ensures.own
    (elim c.else-is_half_written.branch [
      | else-is_half_written-via-then-is_half_written+else-must_wait w ↦ and_right _ _ (sym w.if-must_wait.ensures)
      | else-is_half_written-via-else-is_half_written w ↦ and_left _ _ (sym w.if-is_half_written.ensures)
    ])

-- The number of each refusal.
use Rattle.std.specs.Prelude.{ℕ}
use Rattle.model.specs.declared.refusals.Refusal.{Refusal}
use Rattle.model.specs.declared.refusals.Refusal.TheVariants.{NoTask, NoAccelerator, OtherOwner, Uncollected, NoTicketLeft, NoSlot, NotRunning, NoRequest, OtherTicket, Unended}

abbrev pub refusal_number : Refusal → ℕ
refusal_number NoTask = 10
refusal_number NoAccelerator = 11
refusal_number OtherOwner = 12
refusal_number Uncollected = 13
refusal_number NoTicketLeft = 14
refusal_number NoSlot = 20
refusal_number NotRunning = 21
refusal_number NoRequest = 30
refusal_number OtherTicket = 31
refusal_number Unended = 32

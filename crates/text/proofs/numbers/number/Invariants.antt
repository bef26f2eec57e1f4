use Rattle.std.proofs.Common.{◌≡◌, ◌^◌, ◌<◌, take}
use Rattle.text.specs.Forms.{written}
use Rattle.text.proofs.numbers.number.Given as goal

abbrev pub invariant-loop-digit : goal.invariant-loop-digit
invariant-loop-digit l = (l.value ≡ written 0 (take l.digit-index l.digit-items)) × (l.value < 10 ^ l.digit-index)

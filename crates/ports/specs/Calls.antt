-- What each call of a port answers, and the meaning that it leaves.
use Rattle.std.specs.Prelude.{ℕ, zero, suc, ◌+◌, ◌-◌, min, Bool, false, cond, not, ◌&&◌, ◌||◌, List, map, Some, None, Ok, Err, Option, Result, ◌==◌, nat_le, nat_lt, slice_index_or, slice_set, ◌++◌, decimal, codes}
use Rattle.std.specs.List.{range_with_len}
use Rattle.ports.specs.declared.answers.Refusal.{Refusal}
use Rattle.ports.specs.declared.answers.Refusal.TheVariants.{BadRate, BadFlaw, BadMap, NoSuchSlot, BadImage, NothingLeft, OtherHalfWritten}
use Rattle.ports.specs.declared.answers.Fed.{Fed}
use Rattle.ports.specs.declared.answers.Fed.TheVariants.{Wrote, Flawed}
use Rattle.ports.specs.Meaning.{Entry, Meaning, nothing, entry_at, half}

-- the number by which each refusal is known
abbrev pub refusal_number : Refusal → ℕ
refusal_number BadRate = 50
refusal_number BadFlaw = 51
refusal_number BadMap = 52
refusal_number NoSuchSlot = 53
refusal_number BadImage = 54
refusal_number NothingLeft = 55
refusal_number OtherHalfWritten = 56

-- how a refusal is printed: `no` and its number
abbrev pub refusal_text : Refusal → List ℕ
refusal_text r = codes "no " ++ decimal (refusal_number r)

-- the answer of a call: why it is refused, if it is, and else a
abbrev pub judged : {A E : Type 0} → Option E → A → Result A E
judged (Some r) a = Err r
judged None a = Ok a

-- what a call leaves: m itself where the call is refused, and else n
abbrev pub unless : {A E : Type 0} → Option E → A → A → A
unless (Some r) m n = m
unless None m n = n

-- only the entry of slot s changes
abbrev pub with_entry : Meaning → ℕ → Entry → Meaning
with_entry m s e = record { rate = m.rate; entries = slice_set m.entries s e }

-- left and shut: refused only for a slot above 31
abbrev pub why_slot : ℕ → Option Refusal
why_slot s = cond (nat_lt 31 s) (Some NoSuchSlot) None

abbrev pub left_answer : Meaning → ℕ → Result ℕ Refusal
left_answer m s = judged (why_slot s) ((entry_at m s).size - (entry_at m s).written)

-- open: refused for a slot above 31, then for an image above 31 or a size outside 1 to 1,000,000
abbrev pub why_open : ℕ → ℕ → ℕ → Option Refusal
why_open s image size =
    cond (nat_lt 31 s) (Some NoSuchSlot) (cond (nat_lt 31 image || (size == 0 || nat_lt 1000000 size)) (Some BadImage) None)

-- nothing of the new image is written; the flaw and the board number stay
abbrev pub opened : Entry → ℕ → ℕ → Entry
opened e image size = record { image = image; size = size; written = 0; flaw = e.flaw; board = e.board }

abbrev pub open_answer : ℕ → ℕ → ℕ → Result (Unit {0}) Refusal
open_answer s image size = judged (why_open s image size) tt

abbrev pub open_after : Meaning → ℕ → ℕ → ℕ → Meaning
open_after m s image size =
    unless (why_open s image size) m (with_entry m s (opened (entry_at m s) image size))

-- shut: a blank entry has image, size and written 0
abbrev pub blanked : Entry → Entry
blanked e = opened e 0 0

abbrev pub shut_answer : ℕ → Result (Unit {0}) Refusal
shut_answer s = judged (why_slot s) tt

abbrev pub shut_after : Meaning → ℕ → Meaning
shut_after m s = unless (why_slot s) m (with_entry m s (blanked (entry_at m s)))

-- feed: whether a slot below n other than s is half written
unfoldable pub other_below : List Entry → ℕ → ℕ → Bool
other_below es s zero = false
other_below es s (suc n) = (not (n == s) && half (slice_index_or es n nothing)) || other_below es s n

abbrev pub other_half : Meaning → ℕ → Bool
other_half m s = other_below m.entries s 32

-- refused for a slot above 31, then where nothing is left, then for another half written slot
abbrev pub why_feed : Bool → Meaning → ℕ → Option Refusal
why_feed interruptible m s =
    cond (nat_lt 31 s) (Some NoSuchSlot)
    (cond (nat_le (entry_at m s).size (entry_at m s).written) (Some NothingLeft)
    (cond (not interruptible && other_half m s) (Some OtherHalfWritten) None))

-- how many blocks the next feed is about: the rate, or what is left if that is less
abbrev pub chunk : ℕ → Entry → ℕ
chunk rate e = min rate (e.size - e.written)

-- the flawed block, if it is one of the n blocks from block w on; blocks count from 0
abbrev pub hit : Option ℕ → ℕ → ℕ → Option ℕ
hit (Some b) w n = cond (nat_le w b && nat_lt b (w + n)) (Some b) None
hit None w n = None

abbrev pub struck : ℕ → Entry → Option ℕ
struck rate e = hit e.flaw e.written (chunk rate e)

abbrev pub advanced : ℕ → Entry → Entry
advanced n e = record { image = e.image; size = e.size; written = e.written + n; flaw = e.flaw; board = e.board }

-- what a feed of n blocks answers, and the entry that it leaves, where it meets a flawed block and where not
abbrev pub fed_at : Option ℕ → ℕ → ℕ → Fed
fed_at (Some b) board n = Flawed b board
fed_at None board n = Wrote n

abbrev pub entry_after : Option ℕ → ℕ → Entry → Entry
entry_after (Some b) n e = blanked e
entry_after None n e = advanced n e

abbrev pub fed : ℕ → Entry → Fed
fed rate e = fed_at (struck rate e) e.board (chunk rate e)

abbrev pub fed_entry : ℕ → Entry → Entry
fed_entry rate e = entry_after (struck rate e) (chunk rate e) e

abbrev pub feed_answer : Bool → Meaning → ℕ → Result Fed Refusal
feed_answer interruptible m s = judged (why_feed interruptible m s) (fed m.rate (entry_at m s))

abbrev pub feed_after : Bool → Meaning → ℕ → Meaning
feed_after interruptible m s =
    unless (why_feed interruptible m s) m (with_entry m s (fed_entry m.rate (entry_at m s)))

-- making a port: refused for a rate outside 1 to 65,535
abbrev pub why_rate : ℕ → Option Refusal
why_rate rate = cond (rate == 0 || nat_lt 65535 rate) (Some BadRate) None

abbrev pub fresh_entry : ℕ → Entry
fresh_entry k = record { image = 0; size = 0; written = 0; flaw = None; board = k }

-- a new port is blank and has no flaw, and the board number of each slot is the slot's
unfoldable pub new_port : ℕ → Meaning
new_port rate = record { rate = rate; entries = map fresh_entry (range_with_len 0 32) }

-- what making a port answers, with its meaning in the place of the port
abbrev pub making : ℕ → Result Meaning Refusal
making rate = judged (why_rate rate) (new_port rate)

-- an answer with what its value means in the place of the value
abbrev pub made_of : {A B : Type 0} → (A → B) → Result A Refusal → Result B Refusal
made_of means (Ok a) = Ok (means a)
made_of means (Err r) = Err r

-- setting a flaw: refused for a slot above 31 or a block above 999,999
abbrev pub why_flaw : ℕ → ℕ → Option Refusal
why_flaw s b = cond (nat_lt 31 s || nat_lt 999999 b) (Some BadFlaw) None

abbrev pub flawed : Entry → ℕ → Entry
flawed e b = record { image = e.image; size = e.size; written = e.written; flaw = Some b; board = e.board }

abbrev pub flaw_answer : ℕ → ℕ → Result (Unit {0}) Refusal
flaw_answer s b = judged (why_flaw s b) tt

abbrev pub flaw_after : Meaning → ℕ → ℕ → Meaning
flaw_after m s b = unless (why_flaw s b) m (with_entry m s (flawed (entry_at m s) b))

-- What a port means: its rate and its 32 entries.
use Rattle.std.specs.Prelude.{◌≡◌, ℕ, ◌<◌, ◌≤◌, Bool, ◌&&◌, List, length, Some, None, Option, nat_lt, slice_index_or}

-- one slot: its image and the image's size in blocks, the blocks written, the flawed block, and the board number
pub record Entry : Type 0 where
  pub image : ℕ
  pub size : ℕ
  pub written : ℕ
  pub flaw : Option ℕ
  pub board : ℕ

pub record Meaning : Type 0 where
  pub rate : ℕ
  pub entries : List Entry

-- what a list of entries answers past its end
abbrev pub nothing : Entry
nothing = record { image = 0; size = 0; written = 0; flaw = None; board = 0 }

abbrev pub entry_at : Meaning → ℕ → Entry
entry_at m s = slice_index_or m.entries s nothing

-- half written: more than 0 blocks are written, and fewer than its size
abbrev pub half : Entry → Bool
half e = nat_lt 0 e.written && nat_lt e.written e.size

-- a flawed block for its bound; none counts as 0
abbrev pub block_of : Option ℕ → ℕ
block_of (Some b) = b
block_of None = 0

-- the bounds of an entry
pub record Fine (e : Entry) : Type 0 where
  pub image_fits : e.image ≤ 31
  pub size_fits : e.size ≤ 1000000
  pub in_size : e.written ≤ e.size
  pub flaw_fits : block_of e.flaw ≤ 999999
  pub board_fits : e.board ≤ 31

-- what every port keeps: 32 slots, a rate of 1 to 65,535, and each entry within its bounds
pub record Sound (m : Meaning) : Type 0 where
  pub slots : length m.entries ≡ 32
  pub rate_low : 1 ≤ m.rate
  pub rate_high : m.rate ≤ 65535
  pub fine : (k : ℕ) → k < 32 → Fine (entry_at m k)

-- How numbers and lines are written: the bytes that say them.
use Rattle.std.specs.Prelude.{◌≡◌, ℕ, ◌+◌, ◌-◌, ◌*◌, ◌≤◌, List, [], ◌∷◌, ◌++◌, length, fold}
use Rattle.std.specs.List.{AllByRecursion}

abbrev pub Digit : ℕ → Type 0
Digit b = (48 ≤ b) × (b ≤ 57)

-- the number that decimal digits write, after v
abbrev pub written : ℕ → List ℕ → ℕ
written v ds = fold (λ a b. a * 10 + (b - 48)) v ds

-- ds writes v in 1 to k decimal digits
pub record Numeral (k v : ℕ) (ds : List ℕ) : Type 0 where
  pub digits : AllByRecursion Digit ds
  pub value : written 0 ds ≡ v
  pub some : 1 ≤ length ds
  pub few : length ds ≤ k

-- bs writes the numbers vs, each after one space
abbrev pub Fields : ℕ → List ℕ → List ℕ → Type 0
Fields k [] bs = bs ≡ []
Fields k (v ∷ vs) bs = (ds : List ℕ) × ((rest : List ℕ) × (Numeral k v ds × Fields k vs rest × (bs ≡ 32 ∷ (ds ++ rest))))

-- bs is a line: its letter, its numbers of at most k digits, and byte 10
abbrev pub Line : ℕ → ℕ → List ℕ → List ℕ → Type 0
Line k letter vs bs = (cs : List ℕ) × (Fields k vs cs × (bs ≡ letter ∷ (cs ++ 10 ∷ [])))

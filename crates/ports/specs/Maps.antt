-- Maps from the slots above to the slots below.
use Rattle.std.specs.Prelude.{ℕ, Bool, cond, ◌||◌, List, Some, None, Option, ◌==◌, nat_lt, slice_index, slice_set}
use Rattle.std.specs.List.{list_all, list_any, range_with_len}
use Rattle.ports.specs.declared.answers.Refusal.{Refusal}
use Rattle.ports.specs.declared.answers.Refusal.TheVariants.{BadMap}

-- x stands in the list
abbrev pub holds : List ℕ → ℕ → Bool
holds xs x = list_any (λ y. y == x) xs

-- each number below n stands in the list
unfoldable pub covers : List ℕ → ℕ → Bool
covers xs n = list_all (holds xs) (range_with_len 0 n)

abbrev pub why_map : List ℕ → Option Refusal
why_map xs = cond (covers xs 32) None (Some BadMap)

abbrev pub why_exchange : ℕ → ℕ → Option Refusal
why_exchange a b = cond (nat_lt 31 a || nat_lt 31 b) (Some BadMap) None

abbrev pub exchanged : List ℕ → ℕ → ℕ → List ℕ
exchanged xs a b = slice_set (slice_set xs a (slice_index xs b)) b (slice_index xs a)

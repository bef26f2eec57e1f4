-- A port under other slot numbers.
use Rattle.std.specs.Prelude.{◌≡◌, ℕ, Bool, List, map, Some, Ok, Err, Result}
use Rattle.ports.specs.declared.answers.Refusal.{Refusal}
use Rattle.ports.specs.Calls.{why_slot, left_answer, open_answer, open_after, feed_answer, feed_after, shut_answer, shut_after}
use Rattle.ports.specs.Meaning.{Entry, Meaning, entry_at}

-- the entry of a slot is the entry of the slot below
unfoldable pub entries_below : List ℕ → Meaning → List Entry
entries_below xs m = map (λ (b : ℕ). entry_at m b) xs

abbrev pub renumbered : List ℕ → Meaning → Meaning
renumbered xs m = record { rate = m.rate; entries = entries_below xs m }

-- each call for slot b below answers and leaves what the same call for slot s above should
pub record Shows (interrupts : Bool) (xs : List ℕ) (m : Meaning) (s b : ℕ) : Type 0 where
  pub left_says : left_answer m b ≡ left_answer (renumbered xs m) s
  pub open_says : (i z : ℕ) → open_answer b i z ≡ open_answer s i z
  pub open_leaves : (i z : ℕ) → renumbered xs (open_after m b i z) ≡ open_after (renumbered xs m) s i z
  pub feed_says : feed_answer interrupts m b ≡ feed_answer interrupts (renumbered xs m) s
  pub feed_leaves : renumbered xs (feed_after interrupts m b) ≡ feed_after interrupts (renumbered xs m) s
  pub shut_says : shut_answer b ≡ shut_answer s
  pub shut_leaves : renumbered xs (shut_after m b) ≡ shut_after (renumbered xs m) s

-- slot s has a slot below, which shows it, or there is no slot s
abbrev pub Found : Bool → List ℕ → Meaning → ℕ → Result ℕ Refusal → Type 0
Found interrupts xs m s (Ok b) = Shows interrupts xs m s b
Found interrupts xs m s (Err r) = why_slot s ≡ Some r

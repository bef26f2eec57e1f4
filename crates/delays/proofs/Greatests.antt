-- Laws of the greatest by a measure.
use Rattle.std.proofs.Common.{◌≡◌, ℕ, zero, suc, ◌<◌, ◌≤◌, max, List, [], ◌∷◌, length, get_or, arith}
use Rattle.std.specs.List.{fold}
use Rattle.delays.specs.Greatest.{greatest}

module _ {A : Type 0} (f : A → ℕ) where
  folded : (a : ℕ) (xs : List A) → fold (λ b x. max (f x) b) a xs ≡ max a (greatest f xs)
  folded a [] = omega arith
  folded a (x ∷ xs) = omega (arith, folded (max (f x) a) xs)

  -- it is what comes of keeping the greater at each item
  pub greatest_is : (xs : List A) → fold (λ b x. max (f x) b) 0 xs ≡ greatest f xs
  greatest_is xs = omega (arith, folded 0 xs)

  -- it is within a limit if each measure is
  pub greatest_within : (m : ℕ) (d : A) (xs : List A) → ((i : ℕ) → i < length xs → f (get_or xs i d) ≤ m) → greatest f xs ≤ m
  greatest_within m d [] h = omega arith
  greatest_within m d (x ∷ xs) h = omega (arith, h 0 (omega arith), greatest_within m d xs (λ i l. h (suc i) (omega arith)))

  -- and no measure is above it
  pub greatest_least : (d : A) (xs : List A) (i : ℕ) → i < length xs → f (get_or xs i d) ≤ greatest f xs
  greatest_least d [] i l = absurd (omega arith)
  greatest_least d (x ∷ xs) zero l = omega arith
  greatest_least d (x ∷ xs) (suc i) l = omega (arith, greatest_least d xs i (omega arith))

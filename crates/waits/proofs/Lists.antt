-- A table kept as a list: what `set` and `map` on it are to the moves, and its sums.
use Rattle.std.proofs.Common.{◌≡◌, ℕ, zero, suc, ◌+◌, ◌<◌, List, [], ◌∷◌, map, length, get_or, set, sum_by, refl, ap, ◌∙◌, arith}
use Rattle.std.proofs.lemmas.List.{get_or-set_same, get_or-set_other, get_or-map, length-map}
use Rattle.std.proofs.lemmas.List.Sums.{sum_by-cons}
use Rattle.waits.specs.Total.{total}
use Rattle.waits.specs.Table.{Rec}
use Rattle.waits.specs.Moves.{Changed, same, aged}

-- X is the record of the list, v what the waits see of it, n the number of places
module _ {X : Type 0} (v : X → Rec) (d : X) (n : ℕ) where
  abbrev pub seen : List X → ℕ → Rec
  seen xs j = v (get_or xs j d)

  -- one record written: accept, grant, finish, clear
  pub seen_set : (xs : List X) (p : ℕ) (y : X) → length xs ≡ n → p < n → Changed n same (seen xs) p (v y) (seen (set xs p y))
  seen_set xs p y e b = record {
    here = b;
    now = ap v (get_or-set_same xs p y d (omega arith));
    rest = λ j _ ne. ap v (get_or-set_other xs p j y d ne);
  }

  -- every record aged
  pub seen_map : (f : X → X) (xs : List X) → length xs ≡ n → ((j : ℕ) → j < n → v (f (get_or xs j d)) ≡ aged (seen xs j)) → (j : ℕ) → j < n → seen (map f xs) j ≡ aged (seen xs j)
  seen_map f xs e h j b = ap v (get_or-map f xs j d d (omega arith)) ∙ h j b

  -- every record aged but one, which is written
  pub seen_tick : (f : X → X) (xs : List X) (p : ℕ) (y : X) → length xs ≡ n → p < n → ((j : ℕ) → j < n → v (f (get_or xs j d)) ≡ aged (seen xs j)) → Changed n aged (seen xs) p (v y) (seen (set (map f xs) p y))
  seen_tick f xs p y e b h = record {
    here = b;
    now = ap v (get_or-set_same (map f xs) p y d (omega (arith, length-map xs f)));
    rest = λ j bj ne. ap v (get_or-set_other (map f xs) p j y d ne) ∙ seen_map f xs e h j bj;
  }

total_front : (n : ℕ) (f : ℕ → ℕ) → total (suc n) f ≡ f 0 + total n (λ j. f (suc j))
unfolding total
total_front zero f = refl
total_front (suc n) f = omega (arith, total_front n f)

pub total_sum_by : {X : Type 0} (f : X → ℕ) (d : X) (xs : List X) → total (length xs) (λ j. f (get_or xs j d)) ≡ sum_by f xs
unfolding total
total_sum_by f d [] = refl
total_sum_by f d (x ∷ xs) = omega (arith, total_front (length xs) (λ j. f (get_or (x ∷ xs) j d)), sum_by-cons f x xs, total_sum_by f d xs)

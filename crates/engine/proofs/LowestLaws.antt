-- One record more, after the lowest one before it.
use Rattle.std.proofs.Common.{◌≡◌, ℕ, ◌+◌, Bool, true, false, cond, ◌&&◌, nat_lt, List, Some, None, Option, refl, ap, ◌∙◌, add-one}
use Rattle.model.specs.declared.requests.Record.{Record}
use Rattle.model.specs.Records.{at, lower, lowest_below, on_found}

one_of : (m n : ℕ) (b : Bool) → Some (cond b m n) ≡ cond b (Some m) (Some n)
one_of m n true = refl
one_of m n false = refl

module _ (p : Record → Bool) (rs : List Record) (n : ℕ) where
  first : ℕ → Bool
  first i = nat_lt (at rs n).ticket (at rs i).ticket

  goes_on : (o : Option ℕ) → o ≡ lowest_below p rs n → lower p rs n o ≡ lowest_below p rs (n + 1)
  unfolding lowest_below
  goes_on o e = ap (lower p rs n) e ∙ rw add-one refl

  taking : (o : Option ℕ) → true ≡ p (at rs n) → Some (on_found o n (λ i. cond (first i) n i)) ≡ lower p rs n o
  unfolding first
  taking None has = ap (λ b. cond b (Some n) None) has
  taking (Some i) has = one_of n i (first i) ∙ ap (λ b. cond (b && first i) (Some n) (Some i)) has

  passing : (o : Option ℕ) → false ≡ p (at rs n) → o ≡ lower p rs n o
  passing None has = ap (λ b. cond b (Some n) None) has
  passing (Some i) has = ap (λ b. cond (b && nat_lt (at rs n).ticket (at rs i).ticket) (Some n) (Some i)) has

  -- record n is wanted
  pub taken : (o : Option ℕ) (m : ℕ) → o ≡ lowest_below p rs n → true ≡ p (at rs n) → m ≡ on_found o n (λ i. cond (nat_lt (at rs n).ticket (at rs i).ticket) n i) → Some m ≡ lowest_below p rs (n + 1)
  unfolding first
  taken o m e has is = ap Some is ∙ taking o has ∙ goes_on o e

  -- or it is not
  pub passed : (o : Option ℕ) → o ≡ lowest_below p rs n → false ≡ p (at rs n) → o ≡ lowest_below p rs (n + 1)
  passed o e has = passing o has ∙ goes_on o e

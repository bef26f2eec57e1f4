-- Sums over places: pointwise bounds, one place lower, one place changed.
use Rattle.std.proofs.Common.{◌≡◌, ℕ, zero, suc, ◌+◌, ◌<◌, ◌≤◌, Bool, true, false, ◌⊎◌, sym, refl, ap, ◌∙◌, inl, inr, ⊎_elim, arith}
use Rattle.std.proofs.lemmas.Bool.{cases_eq, cases_Bool}
use Rattle.waits.specs.Total.{total}

-- pointwise, each with something over
pub total_with : (n : ℕ) (f o g : ℕ → ℕ) → ((j : ℕ) → j < n → f j + o j ≤ g j) → total n f + total n o ≤ total n g
unfolding total
total_with zero f o g h = omega arith
total_with (suc n) f o g h = omega (arith, h n (omega arith), total_with n f o g (λ j b. h j (omega arith)))

pub total_le : (n : ℕ) (f g : ℕ → ℕ) → ((j : ℕ) → j < n → f j ≤ g j) → total n f ≤ total n g
unfolding total
total_le zero f g h = omega arith
total_le (suc n) f g h = omega (arith, h n (omega arith), total_le n f g (λ j b. h j (omega arith)))

pub total_same : (n : ℕ) (f g : ℕ → ℕ) → ((j : ℕ) → j < n → f j ≡ g j) → total n f ≡ total n g
total_same n f g h = omega (arith, total_le n f g (λ j b. omega (arith, h j b)), total_le n g f (λ j b. omega (arith, h j b)))

-- all but one place the same
pub total_move : (n : ℕ) (f g : ℕ → ℕ) (i : ℕ) → i < n → ((j : ℕ) → j < n → (j ≡ i → ⊥) → f j ≡ g j) → total n f + g i ≡ total n g + f i
unfolding total
total_move zero f g i b h = absurd (omega arith)
total_move (suc n) f g i b h =
    ⊎_elim
    (λ e. omega (arith, ap f e, ap g e, total_same n f g (λ j b'. h j (omega arith) (λ x. omega arith))))
    (λ ne. omega (arith, h n (omega arith) (λ x. ne (sym x)), total_move n f g i (omega arith) (λ j b' x. h j (omega arith) x)))
    (cases_eq i n)

-- pointwise at most, and less by d at one place
pub total_less : (n : ℕ) (f g : ℕ → ℕ) (i d : ℕ) → i < n → ((j : ℕ) → j < n → f j ≤ g j) → f i + d ≤ g i → total n f + d ≤ total n g
unfolding total
total_less zero f g i d b h l = absurd (omega arith)
total_less (suc n) f g i d b h l =
    ⊎_elim
    (λ e. omega (arith, ap f e, ap g e, total_le n f g (λ j b'. h j (omega arith))))
    (λ ne. omega (arith, h n (omega arith), total_less n f g i d (omega arith) (λ j b'. h j (omega arith)) l))
    (cases_eq i n)

pub some_or_none : (n : ℕ) (p : ℕ → Bool) → ((j : ℕ) × (j < n) × (p j ≡ true)) ⊎ ((j : ℕ) → j < n → p j ≡ false)
some_or_none zero p = inr (λ j b. absurd (omega arith))
some_or_none (suc n) p =
    ⊎_elim (λ t. inl (n, omega arith, t))
    (λ f. ⊎_elim (λ x. inl (x.0, omega (arith, x.1), x.2))
    (λ h. inr (λ j b. ⊎_elim (λ e. ap p e ∙ f) (λ ne. h j (omega arith)) (cases_eq j n)))
    (some_or_none n p))
    (cases_Bool (p n))

pub total_zero : (n : ℕ) → total n (λ j. 0) ≡ 0
unfolding total
total_zero zero = refl
total_zero (suc n) = omega (arith, total_zero n)

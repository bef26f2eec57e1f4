-- Lists of records: one write, sums place by place, and counting by number.
use Rattle.std.proofs.Common.{◌≡◌, ℕ, suc, ◌+◌, ◌<◌, ◌≤◌, List, [], ◌∷◌, length, get_or, set, sum_by, sym, refl, ap, ◌∙◌, subst, ⊎_elim, arith}
use Rattle.std.specs.List.{range_with_len}
use Rattle.std.proofs.lemmas.List.{get_or-set_same, get_or-set_other, length-set}
use Rattle.std.proofs.lemmas.List.Sums.{sum_by-cons, sum_by-set, get_or-le-sum_by}
use Rattle.std.proofs.lemmas.Bool.{cases_eq}
use Rattle.model.specs.declared.requests.Record.{Record}
use Rattle.model.specs.Records.{blank, at}

-- what holds of the value written at its place, and of what stands at the others
pub at_set : (P : Record → Type 0) (xs : List Record) (k : ℕ) (r : Record) (j : ℕ) → k < length xs → (j ≡ k → P r) → ((j ≡ k → ⊥) → P (at xs j)) → P (at (set xs k r) j)
at_set P xs k r j l same other =
    ⊎_elim (λ e. subst P (sym (ap (λ (x : ℕ). at (set xs k r) x) e ∙ get_or-set_same xs k r blank l)) (same e))
    (λ ne. subst P (sym (get_or-set_other xs k j r blank ne)) (other ne)) (cases_eq j k)

module _ {X Y : Type 0} (f : X → ℕ) (g : Y → ℕ) (d : X) (e : Y) where
  pub sum_same : (xs : List X) (ys : List Y) → length xs ≡ length ys → ((k : ℕ) → k < length xs → f (get_or xs k d) ≡ g (get_or ys k e)) → sum_by f xs ≡ sum_by g ys
  sum_same [] [] l h = refl
  sum_same [] (y ∷ ys) l h = absurd (omega arith)
  sum_same (x ∷ xs) [] l h = absurd (omega arith)
  sum_same (x ∷ xs) (y ∷ ys) l h =
      omega (arith, sum_by-cons f x xs, sum_by-cons g y ys, h 0 (omega arith), sum_same xs ys (omega arith) (λ k b. h (suc k) (omega arith)))

-- a sum over numbers is a sum over the places that they name
pub sum_counting : {X : Type 0} (F : ℕ → ℕ) (f : X → ℕ) (d : X) (xs : List X) (k : ℕ) → ((j : ℕ) → j < length xs → F (k + j) ≡ f (get_or xs j d)) → sum_by F (range_with_len k (length xs)) ≡ sum_by f xs
sum_counting F f d [] k h = refl
sum_counting F f d (x ∷ xs) k h =
    let here : F k ≡ f x = ap F (let z : k ≡ k + 0 = omega arith in z) ∙ h 0 (omega arith) in
    omega (
      arith,
      sum_by-cons F k (range_with_len (k + 1) (length xs)),
      sum_by-cons f x xs,
      here,
      sum_counting F f d xs (k + 1) (λ j b. ap F (let z : k + 1 + j ≡ k + suc j = omega arith in z) ∙ h (suc j) (omega arith)),
    )

-- two places count twice
pub two_of : {X : Type 0} (f : X → ℕ) (d : X) (xs : List X) (i j : ℕ) → i < length xs → j < length xs → (j ≡ i → ⊥) → f d ≡ 0 → f (get_or xs i d) + f (get_or xs j d) ≤ sum_by f xs
two_of f d xs i j li lj ne z =
    let a = sum_by-set f xs i d d li in
    let lz : j < length (set xs i d) = omega (arith, length-set xs i d) in
    let b = get_or-le-sum_by f (set xs i d) j d lz in
    let e = ap f (get_or-set_other xs i j d d ne) in
    omega (arith, a, b, e)

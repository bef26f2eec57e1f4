-- A text split into its first line and the rest.
use Rattle.std.proofs.Common.{◌≡◌, ℕ, zero, suc, ◌+◌, ◌<◌, min, eqb, List, [], ◌∷◌, ◌++◌, length, refl, ap, ◌∙◌, subst, ⊎_elim, arith}
use Rattle.std.specs.List.{IsFirstMatchOrLen}
use Rattle.std.proofs.lemmas.Bool.{cond-true, cond-false, cases_Bool}
use Rattle.script.specs.Lines.{lines_of, in_front}

pub no_lines : (t : List ℕ) → length t ≡ 0 → lines_of t ≡ []
unfolding lines_of
no_lines [] e = refl
no_lines (b ∷ bs) e = absurd (omega arith)

-- xs ends after the first byte 10 of the text, or at its end
first_line_is : (i : ℕ) (xs ys : List ℕ) → length xs ≡ min (i + 1) (length (xs ++ ys)) → 0 < length (xs ++ ys) → IsFirstMatchOrLen (λ b. eqb b 10) (xs ++ ys) i → lines_of (xs ++ ys) ≡ xs ∷ lines_of ys
unfolding lines_of
first_line_is i [] ys long some first = absurd (omega arith)
first_line_is i (x ∷ []) [] long some first = ⊎_elim (λ is. cond-true _ _ _ is) (λ is. cond-false _ _ _ is) (cases_Bool (eqb x 10))
first_line_is zero (x ∷ []) (y ∷ ys) long some first = cond-true _ _ _ (first.1 some x)
first_line_is (suc i) (x ∷ []) (y ∷ ys) long some first = absurd (omega arith)
first_line_is zero (x ∷ y ∷ xs) ys long some first = absurd (omega arith)
first_line_is (suc i) (x ∷ y ∷ xs) ys long some first =
    cond-false _ _ _ (first.0 0 x (omega arith) (omega arith))
    ∙ ap (in_front x) (first_line_is i (y ∷ xs) ys (omega arith) (omega arith) (λ k d low high. first.0 (suc k) d (omega arith) (omega arith), λ h d. first.1 (omega arith) d))

-- the same of a text t that is split into xs and ys
pub split : (t xs ys : List ℕ) (i : ℕ) → t ≡ xs ++ ys → length xs ≡ min (i + 1) (length t) → 0 < length t → IsFirstMatchOrLen (λ b. eqb b 10) t i → lines_of t ≡ xs ∷ lines_of ys
split t xs ys i e long some first =
    ap lines_of e
    ∙ first_line_is i xs ys (subst (λ z. length xs ≡ min (i + 1) (length z)) e long) (subst (λ z. 0 < length z) e some) (subst (λ z. IsFirstMatchOrLen (λ b. eqb b 10) z i) e first)

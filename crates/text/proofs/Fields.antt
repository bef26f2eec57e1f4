-- The numbers of a line, read one by one.
use Rattle.std.proofs.Common.{◌≡◌, ℕ, suc, ◌+◌, ◌<◌, cond, eqb, List, [], ◌∷◌, ◌++◌, length, take, set, Ok, Err, Result, sym, refl, ap, ◌∙◌, append_assoc, append-nil}
use Rattle.std.proofs.lemmas.List.{take_more_set}
use Rattle.text.specs.declared.numbers.Malformed.{Malformed}
use Rattle.text.specs.Numbers.{malformed}
use Rattle.text.specs.Results.{and_then, onto}
use Rattle.text.specs.Lines.{letter_at, with_byte, spaced, fields_at, line_at}

-- items after items after items
pub onto_onto : {A E : Type 0} (xs ys : List A) (r : Result (List A × ℕ) E) → onto xs (onto ys r) ≡ onto (xs ++ ys) r
onto_onto xs ys (Ok y) = ap (λ l. Ok (l, y.1)) (sym (append_assoc xs ys y.0))
onto_onto xs ys (Err e) = refl

-- a table xs of which i items are read: the next one, x, goes to place i
pub onto_more : {A E : Type 0} (xs : List A) (i : ℕ) (x : A) (r : Result (List A × ℕ) E) → i < length xs → onto (take i xs) (onto (x ∷ []) r) ≡ onto (take (i + 1) (set xs i x)) r
onto_more xs i x r h = onto_onto (take i xs) (x ∷ []) r ∙ ap (λ l. onto l r) (sym (take_more_set xs i x h))

-- where none is left, the table is what was read
pub onto_none : {A E : Type 0} (xs : List A) (n : ℕ) → onto {A = A} {E = E} xs (Ok ([], n)) ≡ Ok (xs, n)
onto_none xs n = ap (λ l. Ok (l, n)) (append-nil xs)

module _ (t : List ℕ) (k : ℕ) where
  pub fields_more : (j count n v m : ℕ) → j ≡ suc count → spaced t k n ≡ Ok (v, m) → fields_at t k j n ≡ onto (v ∷ []) (fields_at t k count m)
  fields_more j count n v m s e = rw s (ap (λ r. and_then r (λ x. onto (x.0 ∷ []) (fields_at t k count x.1))) e)

  pub fields_none : (j n : ℕ) → j ≡ 0 → fields_at t k j n ≡ Ok ([], n)
  fields_none j n s = rw s

-- the line at n, once its letter and the answer of its numbers are known
pub line_on : (t : List ℕ) (k count n c : ℕ) (r : Result (List ℕ × ℕ) Malformed) → letter_at t n ≡ Ok c → fields_at t k count (n + 1) ≡ r → line_at t k count n ≡ and_then r (λ x. with_byte t 10 x.1 (Ok (c, x.0, x.1 + 1)))
line_on t k count n c r e f =
    ap (λ o. and_then o (λ c. and_then (fields_at t k count (n + 1)) (λ x. with_byte t 10 x.1 (Ok (c, x.0, x.1 + 1))))) e
    ∙ ap (λ o. and_then o (λ x. with_byte t 10 x.1 (Ok (c, x.0, x.1 + 1)))) f

-- and once its last byte is known too
pub line_done : (t : List ℕ) (k count n c : ℕ) (xs : List ℕ) (m : ℕ) → letter_at t n ≡ Ok c → fields_at t k count (n + 1) ≡ Ok (xs, m) → letter_at t m ≡ Ok 10 → line_at t k count n ≡ Ok (c, xs, m + 1)
line_done t k count n c xs m e f h =
    line_on t k count n c (Ok (xs, m)) e f ∙ ap (λ o. and_then o (λ b. cond (eqb b 10) (Ok (c, xs, m + 1)) (Err malformed))) h

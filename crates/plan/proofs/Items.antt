-- Items, one a line, read one after the other.
use Rattle.std.proofs.Common.{◌≡◌, ℕ, zero, suc, ◌+◌, ◌-◌, ◌<◌, ◌≤◌, List, [], ◌∷◌, ◌++◌, length, length-append, Ok, Err, Result, sym, refl, ap, ◌∙◌, arith}
use Rattle.std.specs.Result.{MatchResult, IsErrAnd}
use Rattle.std.proofs.lemmas.Result.{err_from_is_err_and}
use Rattle.text.specs.Results.{and_then, onto}
use Rattle.text.proofs.Fields.{onto_onto, onto_none}
use Rattle.plan.specs.declared.faults.Fault.{Fault}
use Rattle.plan.specs.declared.faults.Fault.TheVariants.{Line}
use Rattle.plan.specs.declared.faults.Flaw.{Flaw}
use Rattle.plan.specs.Reading.{items_at, on_line}

module _ {A S : Type 0} (one : S → ℕ → Result (A × ℕ) Flaw) (after : S → A → S) (count line : ℕ) (s₀ : S) (start : ℕ) where
  -- the items xs are read, up to the line here at place n, where s is left
  pub record Sofar (xs : List A) (here : ℕ) (s : S) (n : ℕ) : Type 0 where
    pub size : line + length xs ≡ here
    pub rest : items_at one after count line s₀ start ≡ onto xs (items_at one after (count - length xs) here s n)

  module _ {xs : List A} {here : ℕ} {s : S} {n : ℕ} (so : Sofar xs here s n) where
    module _ (left : length xs < count) where
      next_line : items_at one after count line s₀ start ≡ onto xs (and_then (on_line here (one s n)) (λ x. onto (x.0 ∷ []) (items_at one after (count - (length xs + 1)) (here + 1) (after s x.0) x.1)))
      next_line =
          let down : count - length xs ≡ suc (count - (length xs + 1)) = omega arith in
          so.rest ∙ ap (λ j. onto xs (items_at one after j here s n)) down

      pub flawed : (e : Fault) → Err e ≡ on_line here (one s n) → Err e ≡ items_at one after count line s₀ start
      flawed e is = sym (next_line ∙ ap (λ r. onto xs (and_then r (λ x. onto (x.0 ∷ []) (items_at one after (count - (length xs + 1)) (here + 1) (after s x.0) x.1)))) (sym is))

      pub one_more : (x : A) (m : ℕ) → Ok (x, m) ≡ on_line here (one s n) → (t : S) → t ≡ after s x → Sofar (xs ++ x ∷ []) (here + 1) t m
      one_more x m is t then' =
          let longer : length (xs ++ x ∷ []) ≡ length xs + 1 = simp length-append in
          record {
            size = omega (arith, longer, so.size);
            rest =
                next_line
                ∙ ap (λ r. onto xs (and_then r (λ x. onto (x.0 ∷ []) (items_at one after (count - (length xs + 1)) (here + 1) (after s x.0) x.1)))) (sym is)
                ∙ onto_onto xs (x ∷ []) _
                ∙ ap (λ j. onto (xs ++ x ∷ []) (items_at one after (count - j) (here + 1) (after s x) m)) (sym longer)
                ∙ ap (λ o. onto (xs ++ x ∷ []) (items_at one after (count - length (xs ++ x ∷ [])) (here + 1) o m)) (sym then');
          }

    pub all_read : count ≤ length xs → Ok (xs, n) ≡ items_at one after count line s₀ start
    all_read all =
        let done : count - length xs ≡ 0 = omega arith in
        sym (so.rest ∙ ap (λ j. onto xs (items_at one after j here s n)) done ∙ onto_none xs n)

and_then_same : {A B E : Type 0} (r : Result A E) (f g : A → Result B E) → ((x : A) → f x ≡ g x) → and_then r f ≡ and_then r g
and_then_same (Ok x) f g e = e x
and_then_same (Err e) f g h = refl

-- items that leave the others what they found may be read without it
pub items_alone : {A S : Type 0} (each : S → ℕ → Result (A × ℕ) Flaw) (s : S) (count line n : ℕ) → items_at each (λ s a. s) count line s n ≡ items_at (λ (o : Unit {0}) n. each s n) (λ o a. o) count line tt n
items_alone each s zero line n = refl
items_alone each s (suc count) line n = and_then_same (on_line line (each s n)) _ _ (λ x. ap (onto (x.0 ∷ [])) (items_alone each s count (line + 1) x.1))

-- what is said of a line, where what is wrong with it is said of the text
on_line_from : {A : Type 0} (line : ℕ) (r : Result A Flaw) (o : Result A Fault) (P : Flaw → Fault → Type 0) → MatchResult r (λ x. o ≡ Ok x) (λ f. IsErrAnd o (P f)) → ((f : Flaw) (e : Fault) → P f e → e ≡ Line line f) → o ≡ on_line line r
on_line_from line (Ok x) o P is says = is
on_line_from line (Err f) o P is says = let p = err_from_is_err_and o is in p.1 ∙ ap Err (says f p.0 p.2)

pub said_of : {A : Type 0} (line : ℕ) (r : Result A Flaw) (o : Result A Fault) (P : Flaw → Fault → Type 0) (y : Result A Fault) (one : Result A Flaw) (here : ℕ) → o ≡ y → MatchResult r (λ x. o ≡ Ok x) (λ f. IsErrAnd o (P f)) → ((f : Flaw) (e : Fault) → P f e → e ≡ Line line f) → r ≡ one → line ≡ here → y ≡ on_line here one
said_of line r o P y one here was is says reads same =
    sym was ∙ on_line_from line r o P is says ∙ ap (on_line line) reads ∙ ap (λ j. on_line j one) same

-- an answer about a line is an answer of the line
pub ok_below : {A : Type 0} (line : ℕ) (r : Result A Flaw) (x : A) → Ok x ≡ on_line line r → Ok x ≡ r
ok_below line (Ok y) x e = let same : x ≡ y = cc in ap Ok same
ok_below line (Err f) x e = let z : ◌≡◌ {A = ℕ} 0 1 = cc in absurd (omega arith)

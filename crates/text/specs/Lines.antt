-- What a line of a text is, read place by place: a letter, numbers each after one space, and byte 10.
use Rattle.std.specs.Prelude.{ℕ, zero, suc, ◌+◌, cond, List, [], ◌∷◌, length, drop, Ok, Err, Result, ◌==◌, nat_le, slice_index}
use Rattle.text.specs.declared.numbers.Malformed.{Malformed}
use Rattle.text.specs.Results.{and_then, onto}
use Rattle.text.specs.Numbers.{malformed, numeral}

-- the byte at place n
abbrev pub letter_at : List ℕ → ℕ → Result ℕ Malformed
letter_at t n = cond (nat_le (length t) n) (Err malformed) (Ok (slice_index t n))

-- r, where the byte at place n is b
abbrev pub with_byte : {A : Type 0} → List ℕ → ℕ → ℕ → Result A Malformed → Result A Malformed
with_byte t b n r = and_then (letter_at t n) (λ c. cond (c == b) r (Err malformed))

-- one space at place n, then a number of at most k digits
abbrev pub spaced : List ℕ → ℕ → ℕ → Result (ℕ × ℕ) Malformed
spaced t k n = with_byte t 32 n (numeral k (n + 1) (drop (n + 1) t))

-- so many of these from place n on
abbrev pub fields_at : List ℕ → ℕ → ℕ → ℕ → Result (List ℕ × ℕ) Malformed
fields_at t k zero n = Ok ([], n)
fields_at t k (suc count) n = and_then (spaced t k n) (λ x. onto (x.0 ∷ []) (fields_at t k count x.1))

-- the line at place n: its letter, its numbers, and the place after it
abbrev pub line_at : List ℕ → ℕ → ℕ → ℕ → Result (ℕ × List ℕ × ℕ) Malformed
line_at t k count n =
    and_then (letter_at t n) (λ c.
    and_then (fields_at t k count (n + 1)) (λ x.
    with_byte t 10 x.1 (Ok (c, x.0, x.1 + 1))))

-- What a number in a text is, read byte by byte.
use Rattle.std.specs.Prelude.{ℕ, zero, suc, ◌+◌, ◌-◌, ◌*◌, cond, List, [], ◌∷◌, Ok, Err, Result}
use Rattle.std.specs.Char.{is_ascii_digit}
use Rattle.text.specs.declared.numbers.Digits.{Digits}
use Rattle.text.specs.declared.numbers.Digits.TheVariants.{Seven, Ten}
use Rattle.text.specs.declared.numbers.Malformed.{Malformed}

abbrev pub malformed : Malformed
malformed = record {}

abbrev pub most : Digits → ℕ
most Seven = 7
most Ten = 10

-- v so far, k more digits allowed, the bytes from place n on: the value of the whole run of digits, and the place after it
abbrev pub digits : ℕ → ℕ → ℕ → List ℕ → Result (ℕ × ℕ) Malformed
digits v k n [] = Ok (v, n)
digits v zero n (b ∷ bs) = cond (is_ascii_digit b) (Err malformed) (Ok (v, n))
digits v (suc k) n (b ∷ bs) = cond (is_ascii_digit b) (digits (v * 10 + (b - 48)) k (n + 1) bs) (Ok (v, n))

-- a number of 1 to k digits at the front of the bytes from place n on
abbrev pub numeral : ℕ → ℕ → List ℕ → Result (ℕ × ℕ) Malformed
numeral k n [] = Err malformed
numeral k n (b ∷ bs) = cond (is_ascii_digit b) (digits 0 k n (b ∷ bs)) (Err malformed)

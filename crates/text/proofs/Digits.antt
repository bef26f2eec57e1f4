-- A number is the run of digits at the front of the bytes.
use Rattle.std.proofs.Common.{Bor, Some, Option, drop, ◌≡◌, ℕ, zero, suc, ◌+◌, ◌-◌, ◌*◌, ◌^◌, ◌<◌, ◌≤◌, true, false, List, [], ◌∷◌, length, min, get_or, take, Ok, Err, sym, refl, ap, ◌∙◌, ⊎_elim, arith}
use Rattle.std.specs.Char.{is_ascii_digit}
use Rattle.std.specs.List.{prefix_len, take_while}
use Rattle.std.specs.Slice.{IsGetRangeResult}
use Rattle.std.proofs.lemmas.Option.{MatchOption-at_some}
use Rattle.std.proofs.lemmas.Slice.{between_to_end}
use Rattle.std.proofs.lemmas.Bool.{cond-true, cond-false, cases_Bool}
use Rattle.std.proofs.lemmas.List.Folds.{length-prefix_len}
use Rattle.std.proofs.lemmas.List.{get_or-take, length-take}
use Rattle.std.proofs.lemmas.List.Sums.{prefix_len_passes, prefix_len-le-length, fold_more}
use Rattle.std.proofs.lemmas.Grind.{pow_more}
use Rattle.std.proofs.Math.Nat.{pow-le-pow_right}
use Rattle.text.specs.declared.numbers.Digits.{Digits}
use Rattle.text.specs.declared.numbers.Digits.TheVariants.{Seven, Ten}
use Rattle.text.specs.Forms.{Digit, written}
use Rattle.text.specs.Numbers.{malformed, most, digits, numeral}
use Rattle.text.proofs.Written.{digit_from}

-- how many digits stand at the front
abbrev pub run : List ℕ → ℕ
run bs = prefix_len is_ascii_digit bs

-- the bytes from a place on, where a slice has them
pub rest_is : (t : List ℕ) (n : ℕ) (r : Bor (List ℕ)) (o : Option (Bor (List ℕ))) → o ≡ Some r → IsGetRangeResult t n (length t) o → r.now ≡ drop n t
rest_is t n r o e is = (MatchOption-at_some _ _ r e is.0).2 ∙ between_to_end t n (length t) (omega arith)

pub run_length : (bs : List ℕ) → length (take_while is_ascii_digit bs) ≡ run bs
run_length bs = length-prefix_len is_ascii_digit bs

module _ (b : ℕ) (bs : List ℕ) where
  run_more : is_ascii_digit b ≡ true → run (b ∷ bs) ≡ suc (run bs)
  run_more e = cond-true _ _ _ e ∙ omega arith

  run_none : is_ascii_digit b ≡ false → run (b ∷ bs) ≡ 0
  run_none e = cond-false _ _ _ e

-- of the first k bytes as many are digits, up to k
run_take : (k : ℕ) (bs : List ℕ) → run (take k bs) ≡ min k (run bs)
run_take zero bs = omega arith
run_take (suc k) [] = omega arith
run_take (suc k) (b ∷ bs) =
    ⊎_elim
    (λ yes'.
    let front : run (take (suc k) (b ∷ bs)) ≡ suc (run (take k bs)) = run_more b (take k bs) yes' in
    omega (arith, front, run_more b bs yes', run_take k bs))
    (λ no'.
    let front : run (take (suc k) (b ∷ bs)) ≡ 0 = run_none b (take k bs) no' in
    omega (arith, front, run_none b bs no'))
    (cases_Bool (is_ascii_digit b))

-- n digits were counted, looking at one byte more than a number can have
module _ (n m k : ℕ) (bs : List ℕ) (r : m ≡ min (length bs) (k + 1)) (e : n ≡ length (take_while is_ascii_digit (take m bs))) where
  pub counted : n ≡ min (k + 1) (run bs)
  counted = omega (arith, r, e ∙ run_length (take m bs) ∙ run_take m bs, prefix_len-le-length is_ascii_digit bs)

  pub all_counted : n ≤ k → n ≡ length (take_while is_ascii_digit bs)
  all_counted few = omega (arith, counted, run_length bs)

digits_run : (bs : List ℕ) (v k n : ℕ) → run bs ≤ k → digits v k n bs ≡ Ok (written v (take (run bs) bs), n + run bs)
digits_run [] v k n h = ap (λ m. Ok (v, m)) (let same : n ≡ n + 0 = omega arith in same)
digits_run (b ∷ bs) v zero n h =
    ⊎_elim
    (λ yes'. absurd (omega (arith, run_more b bs yes')))
    (λ no'. rw (run_none b bs no') (cond-false _ _ _ no' ∙ ap (λ m. Ok (v, m)) (let same : n ≡ n + 0 = omega arith in same)))
    (cases_Bool (is_ascii_digit b))
digits_run (b ∷ bs) v (suc k) n h =
    ⊎_elim
    (λ yes'.
    let more = run_more b bs yes' in
    let few : run bs ≤ k = omega arith in
    let place : n + 1 + run bs ≡ n + suc (run bs) = omega arith in
    rw more (cond-true _ _ _ yes' ∙ digits_run bs (v * 10 + (b - 48)) k (n + 1) few ∙ ap (λ m. Ok (written (v * 10 + (b - 48)) (take (run bs) bs), m)) place))
    (λ no'. rw (run_none b bs no') (cond-false _ _ _ no' ∙ ap (λ m. Ok (v, m)) (let same : n ≡ n + 0 = omega arith in same)))
    (cases_Bool (is_ascii_digit b))

digits_over : (bs : List ℕ) (v k n : ℕ) → k < run bs → digits v k n bs ≡ Err malformed
digits_over [] v k n h = absurd (omega arith)
digits_over (b ∷ bs) v zero n h =
    ⊎_elim
    (λ yes'. cond-true _ _ _ yes')
    (λ no'. absurd (omega (arith, run_none b bs no')))
    (cases_Bool (is_ascii_digit b))
digits_over (b ∷ bs) v (suc k) n h =
    ⊎_elim
    (λ yes'. cond-true _ _ _ yes' ∙ digits_over bs (v * 10 + (b - 48)) k (n + 1) (omega (arith, run_more b bs yes')))
    (λ no'. absurd (omega (arith, run_none b bs no')))
    (cases_Bool (is_ascii_digit b))

-- where a digit stands at the front, all of them are the number
numeral_some : (k n : ℕ) (bs : List ℕ) → 0 < run bs → numeral k n bs ≡ digits 0 k n bs
numeral_some k n [] h = absurd (omega arith)
numeral_some k n (b ∷ bs) h =
    ⊎_elim
    (λ yes'. cond-true _ _ _ yes')
    (λ no'. absurd (omega (arith, run_none b bs no')))
    (cases_Bool (is_ascii_digit b))

pub numeral_run : (k n : ℕ) (bs : List ℕ) → 0 < run bs → run bs ≤ k → Ok (written 0 (take (run bs) bs), n + run bs) ≡ numeral k n bs
numeral_run k n bs some few = sym (numeral_some k n bs some ∙ digits_run bs 0 k n few)

pub numeral_over : (k n : ℕ) (bs : List ℕ) → 0 < run bs → k < run bs → Err malformed ≡ numeral k n bs
numeral_over k n bs some over = sym (numeral_some k n bs some ∙ digits_over bs 0 k n over)

pub numeral_none : (k n : ℕ) (bs : List ℕ) → run bs ≡ 0 → Err malformed ≡ numeral k n bs
numeral_none k n [] h = refl
numeral_none k n (b ∷ bs) h =
    ⊎_elim
    (λ yes'. absurd (omega (arith, run_more b bs yes')))
    (λ no'. sym (cond-false _ _ _ no'))
    (cases_Bool (is_ascii_digit b))

most_few : (d : Digits) → most d ≤ 10
most_few Seven = omega arith
most_few Ten = omega arith

-- the first i of the n digits at the front of bs make v
module _ (bs : List ℕ) (n : ℕ) (all : n ≡ length (take_while is_ascii_digit bs)) (i : ℕ) (h : i < length (take n bs)) where
  pub next_digit : Digit (get_or (take n bs) i 0)
  next_digit =
      let short : i < run bs = omega (arith, run_length bs, length-take n bs) in
      let here : i < n = omega (arith, length-take n bs) in
      digit_from (get_or (take n bs) i 0) (ap is_ascii_digit (get_or-take n bs i 0 here) ∙ prefix_len_passes is_ascii_digit bs i 0 short)

  module _ (v : ℕ) (so : v < 10 ^ i) where
    pub room : (d : Digits) → n ≤ most d → v < 1000000000
    room d few =
        let small : i ≤ 9 = omega (arith, length-take n bs, most_few d) in
        let most : 10 ^ i ≤ 10 ^ 9 = pow-le-pow_right {n = 10} (omega arith) {i = i} {j = 9} small in
        omega (arith, most)

    pub one_more : (b : ℕ) → b ≡ get_or (take n bs) i 0 - 48 → v ≡ written 0 (take i (take n bs)) → (v * 10 + b ≡ written 0 (take (i + 1) (take n bs))) × (v * 10 + b < 10 ^ (i + 1))
    one_more b is made =
        let e = fold_more (λ a b. a * 10 + (b - 48)) 0 (take n bs) i 0 h in
        rw is (ap (λ v. v * 10 + (get_or (take n bs) i 0 - 48)) made ∙ sym e, rw (pow_more 10 i) (omega (arith, next_digit.0, next_digit.1)))

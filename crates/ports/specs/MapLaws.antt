-- A list of 32 that lacks no number below 32 has each exactly once.
use Rattle.std.specs.Prelude.{◌≡◌, ℕ, zero, suc, ◌+◌, ◌<◌, ◌≤◌, true, false, ◌≢◌, List, [], ◌∷◌, length, set, Decides, ◌==◌, nat_eq, slice_index, slice_index_or, slice_set, refl}
use Rattle.std.specs.List.{list_all, list_any, range_with_len}
use Rattle.std.proofs.Common.{zero-le, suc-le-suc, ⊎_elim, sym, ap, ◌∙◌, eqb, IsPermutation, arith, length-set}
use Rattle.std.proofs.lemmas.List.{same_lists, get_or_default, get_or-set_same, get_or-set_other}
use Rattle.std.proofs.lemmas.List.Folds.{list_any_at}
use Rattle.std.proofs.lemmas.List.FromFn.{get_or-range_with_len, length-range_with_len}
use Rattle.std.proofs.lemmas.List.Recursion.{and_at, and_from_places}
use Rattle.std.proofs.lemmas.List.Sorted.{list_any-IsPermutation}
use Rattle.std.proofs.lemmas.Map.Steps.{le-length_from_below}
use Rattle.std.proofs.lemmas.Bool.{cases_eq, cases_lt, cases_Bool, eqb-true, eq-eqb, or_cases, both_ways}
use Rattle.std.specs.List.{ContainsAt as Has}
use Rattle.ports.specs.Maps.{holds, covers, exchanged}

pub holds_at : (xs : List ℕ) (x : ℕ) → holds xs x ≡ true → (k : ℕ) × (k < length xs) × (slice_index xs k ≡ x)
holds_at [] x e = absurd (both_ways false refl e)
holds_at (y ∷ ys) x e =
    ⊎_elim
    (λ (h : nat_eq y x ≡ true). (zero, suc-le-suc zero-le, eqb-true y x h))
    (λ (h : holds ys x ≡ true). let r = holds_at ys x h in (suc r.0, suc-le-suc r.1, r.2))
    (or_cases (y == x) (holds ys x) e)

at_range : (n x : ℕ) → x < n → slice_index (range_with_len 0 n) x ≡ x
at_range n x h = let r = get_or-range_with_len 0 n x 0 h in omega (arith, r)

pub counted : (xs : List ℕ) (n : ℕ) → length xs ≡ n → ((x : ℕ) → x < n → slice_index xs x ≡ x) → xs ≡ range_with_len 0 n
counted xs n l f =
    same_lists xs (range_with_len 0 n) (l ∙ sym (length-range_with_len 0 n))
    (λ k d b. let h : k < n = omega (arith, l) in
    get_or_default xs k d 0 b ∙ f k h ∙ (let r = get_or-range_with_len 0 n k d h in omega (arith, r)))

pub covers_each : (xs : List ℕ) (n x : ℕ) → covers xs n ≡ true → x < n → holds xs x ≡ true
unfolding covers
covers_each xs n x e h =
    let l : x < length (range_with_len 0 n) = omega (arith, length-range_with_len 0 n) in
    ap (holds xs) (sym (at_range n x h)) ∙ and_at (list_all (holds xs)) (holds xs) refl (λ _ _. refl) (range_with_len 0 n) x 0 l e

each_covers : (xs : List ℕ) (n : ℕ) → ((x : ℕ) → x < n → holds xs x ≡ true) → covers xs n ≡ true
unfolding covers
each_covers xs n f =
    and_from_places (list_all (holds xs)) (holds xs) refl (λ _ _. refl) (range_with_len 0 n) 0
    (λ x l. let h : x < n = omega (arith, length-range_with_len 0 n) in ap (holds xs) (at_range n x h) ∙ f x h)

-- the test of the library's lemma, which has the number first
stands : (xs : List ℕ) (k x : ℕ) → k < length xs → slice_index xs k ≡ x → list_any (eqb x) xs ≡ true
stands xs k x h e = list_any_at (eqb x) xs k 0 h (eq-eqb x (slice_index xs k) (sym e))

-- no place can be spared
spared : (xs : List ℕ) (j : ℕ) → length xs ≡ 32 → j < 32 → ((x : ℕ) → x < 32 → (k : ℕ) × (k < 32) × (k ≢ j) × (slice_index xs k ≡ x)) → ⊥
spared xs j l h f =
    let ys : List ℕ = set xs j 32 in
    let n : length ys ≡ 32 = length-set xs j 32 ∙ l in
    let jn : j < length xs = omega arith in
    let r : 33 ≤ length ys = le-length_from_below ys 33 (λ x b.
    ⊎_elim
    (λ (q : x < 32). let t = f x q in stands ys t.0 x (omega (arith, n, t.1)) (get_or-set_other xs j t.0 32 0 t.2 ∙ t.3))
    (λ (q : 32 ≤ x). stands ys j x (omega (arith, n)) (get_or-set_same xs j 32 0 jn ∙ (let v : 32 ≡ x = omega arith in v)))
    (cases_lt x 32)) in
    omega (arith, r, n)

pub in_range : (xs : List ℕ) (i : ℕ) → length xs ≡ 32 → covers xs 32 ≡ true → i < 32 → slice_index xs i < 32
in_range xs i l c h =
    ⊎_elim
    (λ (q : slice_index_or xs i 0 < 32). q)
    (λ (q : 32 ≤ slice_index xs i). absurd (spared xs i l h (λ x b.
    let t = holds_at xs x (covers_each xs 32 x c b) in
    (t.0, (let u : t.0 < 32 = omega (arith, t.1) in u), (λ (e : t.0 ≡ i). let w : slice_index_or xs i 0 ≡ x = ap (λ k. slice_index xs k) (sym e) ∙ t.2 in omega (arith, w)), t.2))))
    (cases_lt (slice_index xs i) 32)

pub one_to_one : (xs : List ℕ) (i j : ℕ) → length xs ≡ 32 → covers xs 32 ≡ true → i < 32 → j < 32 → slice_index xs i ≡ slice_index xs j → i ≡ j
one_to_one xs i j l c hi hj e =
    ⊎_elim
    (λ (q : i ≡ j). q)
    (λ (d : i ≢ j). absurd (spared xs j l hj (λ x b.
    let t = holds_at xs x (covers_each xs 32 x c b) in
    ⊎_elim
    (λ (q : t.0 ≡ j). (i, hi, d, e ∙ ap (λ k. slice_index xs k) (sym q) ∙ t.2))
    (λ (q : t.0 ≢ j). (t.0, (let u : t.0 < 32 = omega (arith, t.1) in u), q, t.2))
    (cases_eq t.0 j))))
    (cases_eq i j)

-- an exchange loses no number
pub covers_permuted : (xs ys : List ℕ) (n : ℕ) → IsPermutation xs ys → covers xs n ≡ true → covers ys n ≡ true
covers_permuted xs ys n p c = each_covers ys n (λ x h. sym (list_any-IsPermutation (λ y. y == x) xs ys p) ∙ covers_each xs n x c h)

-- a number stands in a list where it is read at some place
pub at_holds : (xs : List ℕ) (k x : ℕ) → k < length xs → slice_index xs k ≡ x → holds xs x ≡ true
at_holds xs k x h e = list_any_at (λ y. y == x) xs k 0 h (eq-eqb (slice_index xs k) x e)

pub holds_decides : (xs : List ℕ) (x : ℕ) → Decides (holds xs x) (Has xs x)
holds_decides xs x =
    ((λ e. let t = holds_at xs x e in (t.0, t.1, λ d. get_or_default xs t.0 d 0 t.1 ∙ t.2)), (λ h. at_holds xs h.0 x h.1 (h.2 0)))

-- the test of a map, number by number
pub lacks : (xs : List ℕ) (n x : ℕ) → x < n → holds xs x ≡ false → covers xs n ≡ false
lacks xs n x h e = ⊎_elim (λ (c : covers xs n ≡ true). absurd (both_ways (holds xs x) e (covers_each xs n x c h))) (λ (c : covers xs n ≡ false). c) (cases_Bool (covers xs n))

pub covers_none : (xs : List ℕ) → covers xs 0 ≡ true
covers_none xs = each_covers xs 0 (λ x h. absurd (omega arith))

pub covers_more : (xs : List ℕ) (n : ℕ) → covers xs n ≡ true → holds xs n ≡ true → covers xs (n + 1) ≡ true
covers_more xs n c h = each_covers xs (n + 1) (λ x b. ⊎_elim (λ (q : x ≡ n). rw q h) (λ (q : x ≢ n). covers_each xs n x c (omega arith)) (cases_eq x n))

-- an exchange of two places keeps the length, and loses no number
pub exchanged_length : (xs : List ℕ) (a b : ℕ) → length (exchanged xs a b) ≡ length xs
exchanged_length xs a b = length-set (slice_set xs a (slice_index xs b)) b (slice_index xs a) ∙ length-set xs a (slice_index xs b)

pub exchanged_covers : (xs : List ℕ) (a b : ℕ) → length xs ≡ 32 → a ≤ 31 → b ≤ 31 → covers xs 32 ≡ true → covers (exchanged xs a b) 32 ≡ true
exchanged_covers xs a b l ha hb c =
    let ys : List ℕ = set xs a (slice_index xs b) in
    let n : length ys ≡ 32 = length-set xs a (slice_index xs b) ∙ l in
    let n' : length (exchanged xs a b) ≡ 32 = exchanged_length xs a b ∙ l in
    let ia : a < length xs = omega arith in
    let ib : b < length ys = omega arith in
    each_covers (exchanged xs a b) 32 (λ x h.
    let t = holds_at xs x (covers_each xs 32 x c h) in
    let k : t.0 < 32 = omega (arith, t.1) in
    ⊎_elim
    (λ (p : t.0 ≡ a). at_holds (exchanged xs a b) b x (omega arith) (get_or-set_same ys b (slice_index xs a) 0 ib ∙ ap (λ j. slice_index xs j) (sym p) ∙ t.2))
    (λ (p : t.0 ≢ a).
    ⊎_elim
    (λ (q : t.0 ≡ b). at_holds (exchanged xs a b) a x (omega arith)
    (get_or-set_other ys b a (slice_index xs a) 0 (λ e. p (q ∙ sym e)) ∙ get_or-set_same xs a (slice_index xs b) 0 ia ∙ ap (λ j. slice_index xs j) (sym q) ∙ t.2))
    (λ (q : t.0 ≢ b). at_holds (exchanged xs a b) t.0 x (omega (arith, n'))
    (get_or-set_other ys b t.0 (slice_index xs a) 0 q ∙ get_or-set_other xs a t.0 (slice_index xs b) 0 p ∙ t.2))
    (cases_eq t.0 b))
    (cases_eq t.0 a))

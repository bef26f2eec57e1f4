-- What is written is read, and what is read was written.
use Rattle.std.proofs.Common.{◌≡◌, ℕ, zero, suc, ◌+◌, ◌-◌, ◌*◌, ◌<◌, ◌≤◌, Bool, true, false, cond, eqb, leb, List, [], ◌∷◌, ◌++◌, length, get_or, drop, Ok, Err, Result, sym, refl, ap, ◌∙◌, subst, ⊎_elim, append_assoc, add-zero, arith, length-append}
use Rattle.std.specs.Char.{is_ascii_digit}
use Rattle.std.specs.List.{AllByRecursion}
use Rattle.std.proofs.lemmas.List.{drop_more, drop-drop, drop_at, length-drop}
use Rattle.std.proofs.lemmas.Bool.{cond-true, cond-false, eq-eqb, eqb-true, le-leb, lt-leb, leb-true, leb-false, and_from, and_parts, cases_Bool}
use Rattle.text.specs.declared.numbers.Malformed.{Malformed}
use Rattle.text.specs.Results.{and_then, onto}
use Rattle.text.specs.Numbers.{malformed, digits, numeral}
use Rattle.text.specs.Lines.{letter_at, with_byte, spaced, fields_at, line_at}
use Rattle.text.specs.Forms.{Digit, written, Numeral, Fields, Line}
use Rattle.text.proofs.Fields.{line_done}

-- a refusal is not an answer
pub refused : {A E X : Type 0} (e : E) (x : A) → ◌≡◌ {A = Result A E} (Err e) (Ok x) → X
refused e x h = let o : ◌≡◌ {A = ℕ} 0 1 = cc in absurd (omega arith)

-- an answer of two steps comes from an answer of the first
pub and_then_ok : {A B E : Type 0} (r : Result A E) (f : A → Result B E) (y : B) → and_then r f ≡ Ok y → (x : A) × ((r ≡ Ok x) × (f x ≡ Ok y))
and_then_ok (Ok x) f y e = (x, (refl, e))
and_then_ok (Err b) f y e = refused b y e

-- a test that must be false for an answer
pub kept_in : {A E : Type 0} (b : Bool) (e : E) (r : Result A E) (x : A) → cond b (Err e) r ≡ Ok x → (b ≡ false) × (r ≡ Ok x)
kept_in b e r x h = ⊎_elim (λ y. refused e x (sym (cond-true _ _ _ y) ∙ h)) (λ n. (n, sym (cond-false _ _ _ n) ∙ h)) (cases_Bool b)

-- and one that must be true
pub taken_in : {A E : Type 0} (b : Bool) (e : E) (r : Result A E) (x : A) → cond b r (Err e) ≡ Ok x → (b ≡ true) × (r ≡ Ok x)
taken_in b e r x h = ⊎_elim (λ y. (y, sym (cond-true _ _ _ y) ∙ h)) (λ n. refused e x (sym (cond-false _ _ _ n) ∙ h)) (cases_Bool b)

digit_true : (b : ℕ) → Digit b → is_ascii_digit b ≡ true
digit_true b h = and_from _ _ (le-leb 48 b h.0) (le-leb b 57 h.1)

pub digit_from : (b : ℕ) → is_ascii_digit b ≡ true → Digit b
digit_from b e = let p = and_parts _ _ e in (leb-true 48 b p.0, leb-true b 57 p.1)

-- what follows a number: no digit
abbrev Other : List ℕ → Type 0
Other [] = Unit {0}
Other (b ∷ bs) = is_ascii_digit b ≡ false

-- numbers
digits_stop : (v k n : ℕ) (rest : List ℕ) → Other rest → digits v k n rest ≡ Ok (v, n)
digits_stop v k n [] o = refl
digits_stop v zero n (b ∷ bs) o = cond-false _ _ _ o
digits_stop v (suc k) n (b ∷ bs) o = cond-false _ _ _ o

digits_written : (ds : List ℕ) (v k n : ℕ) (rest : List ℕ) → AllByRecursion Digit ds → length ds ≤ k → Other rest → digits v k n (ds ++ rest) ≡ Ok (written v ds, n + length ds)
digits_written [] v k n rest a l o = digits_stop v k n rest o ∙ ap (λ m. Ok (v, m)) (sym (add-zero n))
digits_written (d ∷ ds) v zero n rest a l o = absurd (omega arith)
digits_written (d ∷ ds) v (suc k) n rest a l o =
    cond-true _ _ _ (digit_true d a.0)
    ∙ digits_written ds (v * 10 + (d - 48)) k (n + 1) rest a.1 (omega arith) o
    ∙ ap (λ m. Ok (written (v * 10 + (d - 48)) ds, m)) (let same : n + 1 + length ds ≡ n + suc (length ds) = omega arith in same)

numeral_written : (k v n : ℕ) (ds rest : List ℕ) → Numeral k v ds → Other rest → numeral k n (ds ++ rest) ≡ Ok (v, n + length ds)
numeral_written k v n [] rest w o = absurd (omega (arith, w.some))
numeral_written k v n (d ∷ ds) rest w o =
    cond-true _ _ _ (digit_true d w.digits.0)
    ∙ digits_written (d ∷ ds) 0 k n rest w.digits w.few o
    ∙ ap (λ x. Ok (x, n + length (d ∷ ds))) w.value

record Was (v k n : ℕ) (bs : List ℕ) (w m : ℕ) : Type 0 where
  ds : List ℕ
  rest : List ℕ
  split : bs ≡ ds ++ rest
  digits : AllByRecursion Digit ds
  value : written v ds ≡ w
  few : length ds ≤ k
  place : n + length ds ≡ m

was_none : (v k n : ℕ) (bs : List ℕ) (w m : ℕ) → ◌≡◌ {A = Result (ℕ × ℕ) Malformed} (Ok (v, n)) (Ok (w, m)) → Was v k n bs w m
was_none v k n bs w m e =
    let q : ◌≡◌ {A = ℕ × ℕ} (v, n) (w, m) = cc in
    record { ds = []; rest = bs; split = refl; digits = tt; value = ap (λ x. x.0) q; few = omega arith; place = add-zero n ∙ ap (λ x. x.1) q }

digits_were : (bs : List ℕ) (v k n w m : ℕ) → digits v k n bs ≡ Ok (w, m) → Was v k n bs w m
digits_were [] v k n w m e = was_none v k n [] w m e
digits_were (b ∷ bs) v zero n w m e = was_none v zero n (b ∷ bs) w m (kept_in (is_ascii_digit b) malformed _ (w, m) e).1
digits_were (b ∷ bs) v (suc k) n w m e =
    ⊎_elim
    (λ yes'.
    let ih = digits_were bs (v * 10 + (b - 48)) k (n + 1) w m (sym (cond-true _ _ _ yes') ∙ e) in
    record {
      ds = b ∷ ih.ds;
      rest = ih.rest;
      split = ap (λ l. b ∷ l) ih.split;
      digits = (digit_from b yes', ih.digits);
      value = ih.value;
      few = omega (arith, ih.few);
      place = omega (arith, ih.place);
    })
    (λ no'. was_none v (suc k) n (b ∷ bs) w m (sym (cond-false _ _ _ no') ∙ e))
    (cases_Bool (is_ascii_digit b))

record Number (k : ℕ) (bs : List ℕ) (n v m : ℕ) : Type 0 where
  ds : List ℕ
  rest : List ℕ
  writes : Numeral k v ds
  split : bs ≡ ds ++ rest
  place : n + length ds ≡ m

numeral_was : (k : ℕ) (bs : List ℕ) (n v m : ℕ) → numeral k n bs ≡ Ok (v, m) → Number k bs n v m
numeral_was k [] n v m e = refused malformed (v, m) e
numeral_was zero (b ∷ bs) n v m e =
    let a = taken_in (is_ascii_digit b) malformed (digits 0 zero n (b ∷ bs)) (v, m) e in
    refused malformed (v, m) (sym (cond-true _ _ _ a.0) ∙ a.1)
numeral_was (suc k) (b ∷ bs) n v m e =
    let a = taken_in (is_ascii_digit b) malformed (digits 0 (suc k) n (b ∷ bs)) (v, m) e in
    let got = digits_were bs (0 * 10 + (b - 48)) k (n + 1) v m (sym (cond-true _ _ _ a.0) ∙ a.1) in
    record {
      ds = b ∷ got.ds;
      rest = got.rest;
      writes = record { digits = (digit_from b a.0, got.digits); value = got.value; some = omega arith; few = omega (arith, got.few) };
      split = ap (λ l. b ∷ l) got.split;
      place = omega (arith, got.place);
    }

-- a byte at a place
at_byte : (t : List ℕ) (n b : ℕ) (rest : List ℕ) → drop n t ≡ b ∷ rest → (letter_at t n ≡ Ok b) × (drop (n + 1) t ≡ rest)
at_byte t n b rest e =
    let in' : n < length t = omega (arith, ap length e, length-drop n t) in
    let d = drop_more t n 0 in' in
    let x : get_or t n 0 ≡ b = cc in
    let y : drop (n + 1) t ≡ rest = cc in
    (cond-false _ _ _ (lt-leb (length t) n in') ∙ ap Ok x, y)

with_byte_is : {A : Type 0} (t : List ℕ) (b n : ℕ) (rest : List ℕ) (r : Result A Malformed) → drop n t ≡ b ∷ rest → with_byte t b n r ≡ r
with_byte_is t b n rest r e =
    ap (λ o. and_then o (λ c. cond (eqb c b) r (Err malformed))) (at_byte t n b rest e).0 ∙ cond-true _ _ _ (eq-eqb b b refl)

letter_was : (t : List ℕ) (n b : ℕ) → letter_at t n ≡ Ok b → (drop n t ≡ b ∷ drop (n + 1) t) × (n < length t)
letter_was t n b e =
    let k = kept_in (leb (length t) n) malformed (Ok (get_or t n 0)) b e in
    let in' : n < length t = leb-false (length t) n k.0 in
    let same = k.1 in
    let q : get_or t n 0 ≡ b = cc in
    (drop_more t n 0 in' ∙ ap (λ c. c ∷ drop (n + 1) t) q, in')

with_byte_was : {A : Type 0} (t : List ℕ) (b n : ℕ) (r : Result A Malformed) (x : A) → with_byte t b n r ≡ Ok x → (drop n t ≡ b ∷ drop (n + 1) t) × (n < length t) × (r ≡ Ok x)
with_byte_was t b n r x e =
    let l = and_then_ok (letter_at t n) (λ c. cond (eqb c b) r (Err malformed)) x e in
    let k = taken_in (eqb l.0 b) malformed r x l.1.1 in
    let w = letter_was t n l.0 l.1.0 in
    (w.0 ∙ ap (λ c. c ∷ drop (n + 1) t) (eqb-true l.0 b k.0), w.1, k.1)

-- a field
spaced_written : (t : List ℕ) (k n v : ℕ) (ds rest : List ℕ) → drop n t ≡ 32 ∷ (ds ++ rest) → Numeral k v ds → Other rest → (spaced t k n ≡ Ok (v, n + 1 + length ds)) × (drop (n + 1 + length ds) t ≡ rest)
spaced_written t k n v ds rest e w o =
    let h = at_byte t n 32 (ds ++ rest) e in (
      with_byte_is t 32 n (ds ++ rest) (numeral k (n + 1) (drop (n + 1) t)) e ∙ ap (numeral k (n + 1)) h.1 ∙ numeral_written k v (n + 1) ds rest w o,
      sym (drop-drop (length ds) (n + 1) t) ∙ ap (drop (length ds)) h.1 ∙ drop_at ds rest (length ds) refl,
    )

record Field (t : List ℕ) (k n v m : ℕ) : Type 0 where
  ds : List ℕ
  writes : Numeral k v ds
  split : drop n t ≡ 32 ∷ (ds ++ drop m t)
  place : m ≡ n + 1 + length ds
  within : m ≤ length t

spaced_was : (t : List ℕ) (k n v m : ℕ) → spaced t k n ≡ Ok (v, m) → Field t k n v m
spaced_was t k n v m e =
    let h = with_byte_was t 32 n (numeral k (n + 1) (drop (n + 1) t)) (v, m) e in
    let g = numeral_was k (drop (n + 1) t) (n + 1) v m h.2 in
    let tail : drop m t ≡ g.rest = ap (λ j. drop j t) (sym g.place) ∙ sym (drop-drop (length g.ds) (n + 1) t) ∙ ap (drop (length g.ds)) g.split ∙ drop_at g.ds g.rest (length g.ds) refl in
    record {
      ds = g.ds;
      writes = g.writes;
      split = h.0 ∙ ap (λ l. 32 ∷ l) (g.split ∙ ap (λ l. g.ds ++ l) (sym tail));
      place = sym g.place;
      within = omega (arith, g.place, ap length g.split, length-append g.ds g.rest, length-drop (n + 1) t, h.1);
    }

-- the numbers of a line
other_fields : (k : ℕ) (vs bs rest : List ℕ) → Fields k vs bs → Other (bs ++ 10 ∷ rest)
other_fields k [] bs rest f = subst (λ l. Other (l ++ 10 ∷ rest)) (sym f) refl
other_fields k (v ∷ vs) bs rest f = subst (λ l. Other (l ++ 10 ∷ rest)) (sym f.1.1.2) refl

fields_written : (vs : List ℕ) (t : List ℕ) (k n : ℕ) (bs rest : List ℕ) → Fields k vs bs → drop n t ≡ bs ++ 10 ∷ rest → (fields_at t k (length vs) n ≡ Ok (vs, n + length bs)) × (drop (n + length bs) t ≡ 10 ∷ rest)
fields_written [] t k n bs rest f e =
    let none : n + length bs ≡ n = omega (arith, ap length f) in
    (ap (λ m. Ok ([], m)) (sym none), ap (λ m. drop m t) none ∙ e ∙ ap (λ l. l ++ 10 ∷ rest) f)
fields_written (v ∷ vs) t k n bs rest f e =
    let ds = f.0 in
    let cs = f.1.0 in
    let w = spaced_written t k n v ds (cs ++ 10 ∷ rest) (e ∙ ap (λ l. l ++ 10 ∷ rest) f.1.1.2 ∙ ap (λ l. 32 ∷ l) (append_assoc ds cs (10 ∷ rest))) f.1.1.0 (other_fields k vs cs rest f.1.1.1) in
    let ih = fields_written vs t k (n + 1 + length ds) cs rest f.1.1.1 w.1 in
    let place : n + 1 + length ds + length cs ≡ n + length bs = omega (arith, ap length f.1.1.2, length-append ds cs) in (
      ap (λ r. and_then r (λ x. onto (x.0 ∷ []) (fields_at t k (length vs) x.1))) w.0 ∙ ap (onto (v ∷ [])) ih.0 ∙ ap (λ m. Ok (v ∷ vs, m)) place,
      ap (λ m. drop m t) (sym place) ∙ ih.1,
    )

record Row (t : List ℕ) (k count n : ℕ) (vs : List ℕ) (m : ℕ) : Type 0 where
  bs : List ℕ
  writes : Fields k vs bs
  size : length vs ≡ count
  split : drop n t ≡ bs ++ drop m t
  place : m ≡ n + length bs

pub onto_ok : {A E : Type 0} (xs : List A) (r : Result (List A × ℕ) E) (ys : List A) (m : ℕ) → onto xs r ≡ Ok (ys, m) → (zs : List A) × ((r ≡ Ok (zs, m)) × (ys ≡ xs ++ zs))
onto_ok {A} xs (Ok y) ys m e =
    let q : ◌≡◌ {A = List A × ℕ} (xs ++ y.0, y.1) (ys, m) = cc in
    (y.0, (ap (λ o. Ok (y.0, o)) (ap (λ x. x.1) q), sym (ap (λ x. x.0) q)))
onto_ok xs (Err b) ys m e = refused b (ys, m) e

fields_were : (count : ℕ) (t : List ℕ) (k n : ℕ) (vs : List ℕ) (m : ℕ) → fields_at t k count n ≡ Ok (vs, m) → Row t k count n vs m
fields_were zero t k n vs m e =
    let q : ◌≡◌ {A = List ℕ × ℕ} ([], n) (vs, m) = cc in
    let same : n ≡ m = ap (λ x. x.1) q in
    let none : vs ≡ [] = sym (ap (λ x. x.0) q) in
    record { bs = []; writes = subst (λ l. Fields k l []) (sym none) refl; size = ap length none; split = ap (λ j. drop j t) same; place = omega arith }
fields_were (suc count) t k n vs m e =
    let a = and_then_ok (spaced t k n) (λ x. onto (x.0 ∷ []) (fields_at t k count x.1)) (vs, m) e in
    let f = spaced_was t k n a.0.0 a.0.1 a.1.0 in
    let o = onto_ok (a.0.0 ∷ []) (fields_at t k count a.0.1) vs m a.1.1 in
    let ih = fields_were count t k a.0.1 o.0 m o.1.0 in
    record {
      bs = 32 ∷ (f.ds ++ ih.bs);
      writes = subst (λ l. Fields k l (32 ∷ (f.ds ++ ih.bs))) (sym o.1.1) (f.ds, (ih.bs, (f.writes, ih.writes, refl)));
      size = ap length o.1.1 ∙ ap suc ih.size;
      split = f.split ∙ ap (λ l. 32 ∷ (f.ds ++ l)) ih.split ∙ ap (λ l. 32 ∷ l) (sym (append_assoc f.ds ih.bs (drop m t)));
      place = omega (arith, ih.place, f.place, length-append f.ds ih.bs);
    }

-- a line that is written is read
pub line_written : (t : List ℕ) (k letter n : ℕ) (vs bs rest : List ℕ) → Line k letter vs bs → drop n t ≡ bs ++ rest → (line_at t k (length vs) n ≡ Ok (letter, vs, n + length bs)) × (drop (n + length bs) t ≡ rest)
line_written t k letter n vs bs rest l e =
    let cs = l.0 in
    let start : drop n t ≡ letter ∷ (cs ++ 10 ∷ rest) = e ∙ ap (λ x. x ++ rest) l.1.1 ∙ ap (λ x. letter ∷ x) (append_assoc cs (10 ∷ []) rest) in
    let first = at_byte t n letter (cs ++ 10 ∷ rest) start in
    let w = fields_written vs t k (n + 1) cs rest l.1.0 first.1 in
    let last = at_byte t (n + 1 + length cs) 10 rest w.1 in
    let place : n + 1 + length cs + 1 ≡ n + length bs = omega (arith, ap length l.1.1, length-append cs (10 ∷ [])) in (
      line_done t k (length vs) n letter vs (n + 1 + length cs) first.0 w.0 last.0 ∙ ap (λ m. Ok (letter, vs, m)) place,
      ap (λ m. drop m t) (sym place) ∙ last.1,
    )

-- and one that is read was written
pub record Lined (t : List ℕ) (k count n letter : ℕ) (vs : List ℕ) (m : ℕ) : Type 0 where
  pub bs : List ℕ
  pub writes : Line k letter vs bs
  pub size : length vs ≡ count
  pub split : drop n t ≡ bs ++ drop m t

pub line_was : (t : List ℕ) (k count n letter : ℕ) (vs : List ℕ) (m : ℕ) → line_at t k count n ≡ Ok (letter, vs, m) → Lined t k count n letter vs m
line_was t k count n letter vs m e =
    let a = and_then_ok (letter_at t n) _ (letter, vs, m) e in
    let b = and_then_ok (fields_at t k count (n + 1)) _ (letter, vs, m) a.1.1 in
    let first = letter_was t n a.0 a.1.0 in
    let r = fields_were count t k (n + 1) b.0.0 b.0.1 b.1.0 in
    let g = with_byte_was t 10 b.0.1 (Ok (a.0, b.0.0, b.0.1 + 1)) (letter, vs, m) b.1.1 in
    let j = g.2 in
    let q : ◌≡◌ {A = ℕ × List ℕ × ℕ} (a.0, b.0.0, b.0.1 + 1) (letter, vs, m) = cc in
    let kind : a.0 ≡ letter = ap (λ x. x.0) q in
    let values : b.0.0 ≡ vs = ap (λ x. x.1) q in
    let next : b.0.1 + 1 ≡ m = ap (λ x. x.2) q in
    record {
      bs = letter ∷ (r.bs ++ 10 ∷ []);
      writes = (r.bs, (subst (λ l. Fields k l r.bs) values r.writes, refl));
      size = ap length (sym values) ∙ r.size;
      split =
          first.0
          ∙ ap (λ c. c ∷ drop (n + 1) t) kind
          ∙ ap (λ l. letter ∷ l) (r.split ∙ ap (λ l. r.bs ++ l) (g.0 ∙ ap (λ p. 10 ∷ drop p t) next) ∙ sym (append_assoc r.bs (10 ∷ []) (drop m t)));
    }

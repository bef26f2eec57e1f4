-- Each line of a plan that is written is read, and each that is read was written.
use Rattle.std.proofs.Common.{◌≡◌, ℕ, ◌+◌, ◌-◌, ◌*◌, ◌<◌, ◌≤◌, cond, eqb, ltb, List, [], ◌∷◌, ◌++◌, length, get_or, drop, Ok, Err, Result, sym, refl, ap, ◌∙◌, subst, arith}
use Rattle.std.proofs.lemmas.Bool.{cond-true, cond-false, eq-eqb, eqb-true, le-ltb, ltb-false}
use Rattle.text.specs.declared.numbers.Malformed.{Malformed}
use Rattle.text.specs.Results.{and_then}
use Rattle.text.specs.Numbers.{malformed}
use Rattle.text.specs.Lines.{line_at}
use Rattle.text.proofs.Written.{refused, and_then_ok, kept_in, taken_in, line_written, line_was}
use Rattle.plan.specs.declared.parts.Accelerator.{Accelerator}
use Rattle.plan.specs.declared.parts.Partition.{Partition}
use Rattle.plan.specs.declared.kinds.Kind.{Kind}
use Rattle.plan.specs.declared.kinds.Kind.TheVariants as kind
use Rattle.plan.specs.declared.faults.Flaw.{Flaw}
use Rattle.plan.specs.declared.faults.Flaw.TheVariants.{Form, Range, Broken}
use Rattle.plan.specs.declared.faults.Rule.TheVariants.{PartitionBlocks, FabricBlocks, SlotCount, SlotSize}
use Rattle.plan.specs.declared.plan.contents.Contents.{Contents}
use Rattle.plan.specs.Kinds.{letter_of}
use Rattle.plan.specs.Rules.{PartitionKept, AcceleratorKept, none}
use Rattle.plan.specs.Reading.{numbers_at, formed, bounded, ContentsKept, contents_from, contents_at, partition_from, allowed, partition_at, accelerator_from, fitted, accelerator_at}
use Rattle.plan.specs.declared.plan.left.Left.{Left}
use Rattle.plan.specs.Texts.{Line, PartitionLine, AcceleratorLine}

and_then_is : {A B E : Type 0} (r : Result A E) (f : A → Result B E) (x : A) → r ≡ Ok x → and_then r f ≡ f x
and_then_is r f x e = ap (λ o. and_then o f) e

-- a number in its range, and then the rest
bounded_then : {B : Type 0} (v low high place : ℕ) (f : ℕ → Result B Flaw) → low ≤ v → v ≤ high → and_then (bounded v low high place) f ≡ f v
bounded_then v low high place f l h =
    and_then_is (bounded v low high place) f v (cond-false _ _ _ (le-ltb v low l) ∙ cond-false _ _ _ (le-ltb high v h))

-- and the other way
record Bounded {B : Type 0} (v low high : ℕ) (f : ℕ → Result B Flaw) (y : B) : Type 0 where
  from : low ≤ v
  to : v ≤ high
  rest : f v ≡ Ok y

bounded_was : {B : Type 0} (v low high place : ℕ) (f : ℕ → Result B Flaw) (y : B) → and_then (bounded v low high place) f ≡ Ok y → Bounded v low high f y
bounded_was v low high place f y e =
    let x = and_then_ok (bounded v low high place) f y e in
    let a = kept_in (ltb v low) (Range place) (cond (ltb high v) (Err (Range place)) (Ok v)) x.0 x.1.0 in
    let b = kept_in (ltb high v) (Range place) (Ok v) x.0 a.1 in
    let same = b.1 in
    let q : x.0 ≡ v = cc in
    record { from = ltb-false v low a.0; to = ltb-false high v b.0; rest = ap f (sym q) ∙ x.1.1 }

-- a rule that is kept, and then the rest
rule_then : {B : Type 0} (a b : ℕ) (e : Flaw) (r : Result B Flaw) → b ≤ a → cond (ltb a b) (Err e) r ≡ r
rule_then a b e r h = cond-false _ _ _ (le-ltb a b h)

rule_was : {B : Type 0} (a b : ℕ) (e : Flaw) (r : Result B Flaw) (y : B) → cond (ltb a b) (Err e) r ≡ Ok y → (b ≤ a) × (r ≡ Ok y)
rule_was a b e r y h = let k = kept_in (ltb a b) e r y h in (ltb-false a b k.0, k.1)

formed_was : {A : Type 0} (r : Result A Malformed) (x : A) → formed r ≡ Ok x → r ≡ Ok x
formed_was (Ok y) x e = let same : y ≡ x = cc in ap Ok same
formed_was (Err f) x e = refused Form x e

-- lists of three and of four numbers
three : (vs : List ℕ) → length vs ≡ 3 → vs ≡ get_or vs 0 0 ∷ get_or vs 1 0 ∷ get_or vs 2 0 ∷ []
three [] e = absurd (omega arith)
three (a ∷ []) e = absurd (omega arith)
three (a ∷ b ∷ []) e = absurd (omega arith)
three (a ∷ b ∷ c ∷ []) e = refl
three (a ∷ b ∷ c ∷ d ∷ vs) e = absurd (omega arith)

four : (vs : List ℕ) → length vs ≡ 4 → vs ≡ get_or vs 0 0 ∷ get_or vs 1 0 ∷ get_or vs 2 0 ∷ get_or vs 3 0 ∷ []
four [] e = absurd (omega arith)
four (a ∷ []) e = absurd (omega arith)
four (a ∷ b ∷ []) e = absurd (omega arith)
four (a ∷ b ∷ c ∷ []) e = absurd (omega arith)
four (a ∷ b ∷ c ∷ d ∷ []) e = refl
four (a ∷ b ∷ c ∷ d ∷ f ∷ vs) e = absurd (omega arith)

-- x is read at n, up to m, and the bytes between are a line that says it
pub record One {A : Type 0} (t : List ℕ) (Says : A → List ℕ → Type 0) (Fits : A → Type 0) (n : ℕ) (x : A) (m : ℕ) : Type 0 where
  pub bs : List ℕ
  pub writes : Says x bs
  pub fits : Fits x
  pub split : drop n t ≡ bs ++ drop m t

-- a partition that fits what the partitions before it have left
abbrev pub PartitionFits : Left → Partition → Type 0
PartitionFits left p = PartitionKept p × (p.blocks ≤ left.blocks) × (p.slots ≤ left.slots)

module _ (t : List ℕ) where
  numbers_written : (k : Kind) (n : ℕ) (vs bs rest : List ℕ) → Line (letter_of k) vs bs → drop n t ≡ bs ++ rest → (formed (numbers_at t k (length vs) n) ≡ Ok (vs, n + length bs)) × (drop (n + length bs) t ≡ rest)
  numbers_written k n vs bs rest l e =
      let w = line_written t 7 (letter_of k) n vs bs rest l e in (
        ap formed (and_then_is (line_at t 7 (length vs) n) (λ x. cond (eqb x.0 (letter_of k)) (Ok (x.1, x.2)) (Err malformed)) _ w.0 ∙ cond-true _ _ _ (eq-eqb (letter_of k) (letter_of k) refl)),
        w.1,
      )

  record Numbers (k : Kind) (count n : ℕ) (vs : List ℕ) (m : ℕ) : Type 0 where
    bs : List ℕ
    writes : Line (letter_of k) vs bs
    size : length vs ≡ count
    split : drop n t ≡ bs ++ drop m t

  numbers_were : (k : Kind) (count n : ℕ) (vs : List ℕ) (m : ℕ) → formed (numbers_at t k count n) ≡ Ok (vs, m) → Numbers k count n vs m
  numbers_were k count n vs m e =
      let x = and_then_ok (line_at t 7 count n) (λ x. cond (eqb x.0 (letter_of k)) (Ok (x.1, x.2)) (Err malformed)) (vs, m) (formed_was (numbers_at t k count n) (vs, m) e) in
      let h = taken_in (eqb x.0.0 (letter_of k)) malformed (Ok (x.0.1, x.0.2)) (vs, m) x.1.1 in
      let same = h.1 in
      let q : ◌≡◌ {A = List ℕ × ℕ} (x.0.1, x.0.2) (vs, m) = cc in
      let values : x.0.1 ≡ vs = ap (λ o. o.0) q in
      let place : x.0.2 ≡ m = ap (λ o. o.1) q in
      let l = line_was t 7 count n x.0.0 x.0.1 x.0.2 x.1.0 in
      record {
        bs = l.bs;
        writes = subst (λ v. Line (letter_of k) v l.bs) values (subst (λ c. Line c x.0.1 l.bs) (eqb-true x.0.0 (letter_of k) h.0) l.writes);
        size = ap length (sym values) ∙ l.size;
        split = l.split ∙ ap (λ j. l.bs ++ drop j t) place;
      }

  -- the line of contents
  pub contents_written : (c : Contents) (n : ℕ) (bs rest : List ℕ) → Line 99 (c.fabric ∷ c.partitions ∷ c.accelerators ∷ c.tasks ∷ []) bs → ContentsKept c → drop n t ≡ bs ++ rest → (contents_at t n ≡ Ok (c, n + length bs)) × (drop (n + length bs) t ≡ rest)
  contents_written c n bs rest l k e =
      let vs = c.fabric ∷ c.partitions ∷ c.accelerators ∷ c.tasks ∷ [] in
      let w = numbers_written kind.Contents n vs bs rest l e in
      let from : contents_from vs ≡ Ok c =
      bounded_then c.fabric 1 1000000 1 _ k.0.0 k.0.1
      ∙ bounded_then c.partitions 1 8 2 _ k.1.0 k.1.1
      ∙ bounded_then c.accelerators 1 32 3 _ k.2.0 k.2.1
      ∙ bounded_then c.tasks 1 16 4 _ k.3.0 k.3.1 in
      (and_then_is (formed (numbers_at t kind.Contents 4 n)) _ _ w.0 ∙ and_then_is (contents_from vs) (λ x. Ok (x, n + length bs)) c from, w.1)

  pub contents_was : (n : ℕ) (c : Contents) (m : ℕ) → contents_at t n ≡ Ok (c, m) → One t (λ c. Line 99 (c.fabric ∷ c.partitions ∷ c.accelerators ∷ c.tasks ∷ [])) ContentsKept n c m
  contents_was n c m e =
      let x = and_then_ok (formed (numbers_at t kind.Contents 4 n)) (λ x. and_then (contents_from x.0) (λ c. Ok (c, x.1))) (c, m) e in
      let vs = x.0.0 in
      let y = and_then_ok (contents_from vs) (λ c. Ok (c, x.0.1)) (c, m) x.1.1 in
      let end = y.1.1 in
      let q : ◌≡◌ {A = Contents × ℕ} (y.0, x.0.1) (c, m) = cc in
      let place : x.0.1 ≡ m = ap (λ o. o.1) q in
      let l = numbers_were kind.Contents 4 n vs x.0.1 x.1.0 in
      let b1 = bounded_was (get_or vs 0 0) 1 1000000 1 _ y.0 y.1.0 in
      let b2 = bounded_was (get_or vs 1 0) 1 8 2 _ y.0 b1.rest in
      let b3 = bounded_was (get_or vs 2 0) 1 32 3 _ y.0 b2.rest in
      let b4 = bounded_was (get_or vs 3 0) 1 16 4 _ y.0 b3.rest in
      let made : Contents = record { fabric = get_or vs 0 0; partitions = get_or vs 1 0; accelerators = get_or vs 2 0; tasks = get_or vs 3 0 } in
      let fourth = b4.rest in
      let same' : made ≡ y.0 = cc in
      let same : made ≡ c = same' ∙ ap (λ o. o.0) q in
      let P : Contents → Type 0 = λ o. Line 99 (o.fabric ∷ o.partitions ∷ o.accelerators ∷ o.tasks ∷ []) l.bs × ContentsKept o in
      let all = subst P same (subst (λ v. Line 99 v l.bs) (four vs l.size) l.writes, ((b1.from, b1.to), (b2.from, b2.to), (b3.from, b3.to), (b4.from, b4.to))) in
      record { bs = l.bs; writes = all.0; fits = all.1; split = l.split ∙ ap (λ j. l.bs ++ drop j t) place }

  -- a partition's line
  pub partition_written : (left : Left) (p : Partition) (n : ℕ) (bs rest : List ℕ) → PartitionLine p bs → PartitionFits left p → drop n t ≡ bs ++ rest → (partition_at t left n ≡ Ok (p, n + length bs)) × (drop (n + length bs) t ≡ rest)
  partition_written left p n bs rest l k e =
      let vs = p.blocks ∷ p.slots ∷ p.size ∷ [] in
      let w = numbers_written kind.Partition n vs bs rest l e in
      let from : partition_from vs ≡ Ok p =
      bounded_then p.blocks 1 1000000 1 _ k.0.0.0 k.0.0.1
      ∙ bounded_then p.slots 1 8 2 _ k.0.1.0 k.0.1.1
      ∙ bounded_then p.size 1 1000000 3 _ k.0.2.0 k.0.2.1 in
      let may : allowed left p ≡ Ok p =
      rule_then p.blocks (p.slots * p.size) (Broken PartitionBlocks) _ k.0.3
      ∙ rule_then left.blocks p.blocks (Broken FabricBlocks) _ k.1
      ∙ rule_then left.slots p.slots (Broken SlotCount) _ k.2 in
      (and_then_is (formed (numbers_at t kind.Partition 3 n)) _ _ w.0 ∙ and_then_is (partition_from vs) (λ x. and_then (allowed left x) (λ q. Ok (q, n + length bs))) p from ∙ and_then_is (allowed left p) (λ q. Ok (q, n + length bs)) p may, w.1)

  pub partition_was : (left : Left) (n : ℕ) (p : Partition) (m : ℕ) → partition_at t left n ≡ Ok (p, m) → One t PartitionLine (PartitionFits left) n p m
  partition_was left n p m e =
      let x = and_then_ok (formed (numbers_at t kind.Partition 3 n)) (λ x. and_then (partition_from x.0) (λ p. and_then (allowed left p) (λ q. Ok (q, x.1)))) (p, m) e in
      let vs = x.0.0 in
      let y = and_then_ok (partition_from vs) (λ p. and_then (allowed left p) (λ q. Ok (q, x.0.1))) (p, m) x.1.1 in
      let z = and_then_ok (allowed left y.0) (λ q. Ok (q, x.0.1)) (p, m) y.1.1 in
      let r1 = rule_was y.0.blocks (y.0.slots * y.0.size) (Broken PartitionBlocks) _ z.0 z.1.0 in
      let r2 = rule_was left.blocks y.0.blocks (Broken FabricBlocks) _ z.0 r1.1 in
      let r3 = rule_was left.slots y.0.slots (Broken SlotCount) _ z.0 r2.1 in
      let whole = r3.1 in
      let kept' : y.0 ≡ z.0 = cc in
      let end = z.1.1 in
      let q : ◌≡◌ {A = Partition × ℕ} (z.0, x.0.1) (p, m) = cc in
      let place : x.0.1 ≡ m = ap (λ o. o.1) q in
      let l = numbers_were kind.Partition 3 n vs x.0.1 x.1.0 in
      let b1 = bounded_was (get_or vs 0 0) 1 1000000 1 _ y.0 y.1.0 in
      let b2 = bounded_was (get_or vs 1 0) 1 8 2 _ y.0 b1.rest in
      let b3 = bounded_was (get_or vs 2 0) 1 1000000 3 _ y.0 b2.rest in
      let made : Partition = record { blocks = get_or vs 0 0; slots = get_or vs 1 0; size = get_or vs 2 0 } in
      let third = b3.rest in
      let same' : made ≡ y.0 = cc in
      let P : Partition → Type 0 = λ o. PartitionLine o l.bs × ((1 ≤ o.blocks) × (o.blocks ≤ 1000000)) × ((1 ≤ o.slots) × (o.slots ≤ 8)) × ((1 ≤ o.size) × (o.size ≤ 1000000)) in
      let some = subst P same' (subst (λ v. Line 112 v l.bs) (three vs l.size) l.writes, (b1.from, b1.to), (b2.from, b2.to), (b3.from, b3.to)) in
      let Q : Partition → Type 0 = λ o. PartitionLine o l.bs × PartitionFits left o in
      let all = subst Q (kept' ∙ ap (λ o. o.0) q) (some.0, ((some.1, some.2, some.3, r1.0), r2.0, r3.0)) in
      record { bs = l.bs; writes = all.0; fits = all.1; split = l.split ∙ ap (λ j. l.bs ++ drop j t) place }

  -- an accelerator's line
  module _ (ps : List Partition) (tasks : ℕ) where
    pub accelerator_written : (a : Accelerator) (n : ℕ) (bs rest : List ℕ) → AcceleratorLine a bs → AcceleratorKept ps tasks a → drop n t ≡ bs ++ rest → (accelerator_at t ps tasks n ≡ Ok (a, n + length bs)) × (drop (n + length bs) t ≡ rest)
    accelerator_written a n bs rest l k e =
        let vs = a.partition ∷ a.owner ∷ a.need ∷ a.run ∷ [] in
        let w = numbers_written kind.Accelerator n vs bs rest l e in
        let from : accelerator_from (length ps) tasks vs ≡ Ok a =
        bounded_then a.partition 0 (length ps - 1) 1 _ (omega arith) (omega (arith, k.0))
        ∙ bounded_then a.owner 0 (tasks - 1) 2 _ (omega arith) (omega (arith, k.1))
        ∙ bounded_then a.need 1 1000000 3 _ k.2.0 k.2.1
        ∙ bounded_then a.run 1 1000000 4 _ k.3.0 k.3.1 in
        let may : fitted ps a ≡ Ok a = rule_then (get_or ps a.partition none).size a.need (Broken SlotSize) _ k.4 in
        (and_then_is (formed (numbers_at t kind.Accelerator 4 n)) _ _ w.0 ∙ and_then_is (accelerator_from (length ps) tasks vs) (λ x. and_then (fitted ps x) (λ b. Ok (b, n + length bs))) a from ∙ and_then_is (fitted ps a) (λ b. Ok (b, n + length bs)) a may, w.1)

    pub accelerator_was : 1 ≤ length ps → 1 ≤ tasks → (n : ℕ) (a : Accelerator) (m : ℕ) → accelerator_at t ps tasks n ≡ Ok (a, m) → One t AcceleratorLine (AcceleratorKept ps tasks) n a m
    accelerator_was some-ps some-tasks n a m e =
        let x = and_then_ok (formed (numbers_at t kind.Accelerator 4 n)) (λ x. and_then (accelerator_from (length ps) tasks x.0) (λ a. and_then (fitted ps a) (λ b. Ok (b, x.1)))) (a, m) e in
        let vs = x.0.0 in
        let y = and_then_ok (accelerator_from (length ps) tasks vs) (λ a. and_then (fitted ps a) (λ b. Ok (b, x.0.1))) (a, m) x.1.1 in
        let z = and_then_ok (fitted ps y.0) (λ b. Ok (b, x.0.1)) (a, m) y.1.1 in
        let r = rule_was (get_or ps y.0.partition none).size y.0.need (Broken SlotSize) _ z.0 z.1.0 in
        let whole = r.1 in
        let kept' : y.0 ≡ z.0 = cc in
        let end = z.1.1 in
        let q : ◌≡◌ {A = Accelerator × ℕ} (z.0, x.0.1) (a, m) = cc in
        let place : x.0.1 ≡ m = ap (λ o. o.1) q in
        let l = numbers_were kind.Accelerator 4 n vs x.0.1 x.1.0 in
        let b1 = bounded_was (get_or vs 0 0) 0 (length ps - 1) 1 _ y.0 y.1.0 in
        let b2 = bounded_was (get_or vs 1 0) 0 (tasks - 1) 2 _ y.0 b1.rest in
        let b3 = bounded_was (get_or vs 2 0) 1 1000000 3 _ y.0 b2.rest in
        let b4 = bounded_was (get_or vs 3 0) 1 1000000 4 _ y.0 b3.rest in
        let made : Accelerator = record { partition = get_or vs 0 0; owner = get_or vs 1 0; need = get_or vs 2 0; run = get_or vs 3 0 } in
        let fourth = b4.rest in
        let same' : made ≡ y.0 = cc in
        let P : Accelerator → Type 0 = λ o. AcceleratorLine o l.bs × (o.partition < length ps) × (o.owner < tasks) × ((1 ≤ o.need) × (o.need ≤ 1000000)) × ((1 ≤ o.run) × (o.run ≤ 1000000)) in
        let some = subst P same' (subst (λ v. Line 97 v l.bs) (four vs l.size) l.writes, omega (arith, b1.to), omega (arith, b2.to), (b3.from, b3.to), (b4.from, b4.to)) in
        let Q : Accelerator → Type 0 = λ o. AcceleratorLine o l.bs × AcceleratorKept ps tasks o in
        let all = subst Q (kept' ∙ ap (λ o. o.0) q) (some.0, (some.1, some.2, some.3, some.4, r.0)) in
        record { bs = l.bs; writes = all.0; fits = all.1; split = l.split ∙ ap (λ j. l.bs ++ drop j t) place }

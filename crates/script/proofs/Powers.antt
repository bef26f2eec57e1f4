-- The table of powers.
use Rattle.std.proofs.Common.{◌≡◌, ℕ, ◌+◌, ◌-◌, ◌^◌, ◌<◌, ◌≤◌, leb, List, drop, get_or, length, map, take, zero-add, subst, ◌∙◌, arith}
use Rattle.std.specs.List.{range_with_len, prefix_len}
use Rattle.std.proofs.lemmas.Bool.{leb-true}
use Rattle.std.proofs.lemmas.List.Sums.{prefix_len_passes, prefix_len-le-length}
use Rattle.std.proofs.lemmas.List.Folds.{length-prefix_len}
use Rattle.std.proofs.lemmas.List.FromFn.{get_or-map-range_with_len}

abbrev pub powers : List ℕ
powers = map (λ k. 10 ^ k) (range_with_len 0 10)

pub tens : (k : ℕ) → k < 10 → get_or powers k 0 ≡ 10 ^ k
tens k h = get_or-map-range_with_len (λ j. 10 ^ j) 0 10 k k 0 h (zero-add k)

-- n reaches each power above the first that is counted
pub reached : (n r : ℕ) → r ≡ length (take (prefix_len (λ p. leb p n) (drop 1 powers)) (drop 1 powers)) → 1 < 1 + r → 10 ^ (1 + r - 1) ≤ n
reached n r is more =
    let count = is ∙ length-prefix_len (λ p. leb p n) (drop 1 powers) in
    let within = prefix_len-le-length (λ p. leb p n) (drop 1 powers) in
    let passes = leb-true _ n (prefix_len_passes (λ p. leb p n) (drop 1 powers) (r - 1) 0 (omega arith)) in
    subst (λ p. p ≤ n) (get_or-map-range_with_len (λ j. 10 ^ j) 1 9 (r - 1) (1 + r - 1) 0 (omega arith) (omega arith)) passes

-- What the lines hold after each move.
use Rattle.std.proofs.Common.{◌≡◌, ℕ, ◌<◌, true, false, List, [], ◌∷◌, ◌++◌, map, length, get_or, drop, set, Some, None, Ok, Err, Option, Result, IsOk, IsSome, IfNone, OnSome, OnOk, OnErr, sym, refl, ap, ◌∙◌, arith}
use Rattle.std.specs.List.{remove}
use Rattle.std.proofs.lemmas.List.{length_push, take_all, take-append-le, get_or-map, map-set}
use Rattle.arrayvec.specs.ArrayVec.{ArrayVec}
use Rattle.model.specs.Moves.{joined}
use Rattle.engine.specs.Views.{standing}

pub row_set : (rows : List (ArrayVec ℕ)) (k : ℕ) (line line' : ArrayVec ℕ) (f : List ℕ → List ℕ) → k < length rows → line ≡ get_or rows k line → standing line' ≡ f (standing line) → map standing (set rows k line') ≡ set (map standing rows) k (f (get_or (map standing rows) k []))
row_set rows k line line' f b is e =
    map-set standing rows k line'
    ∙ ap (set (map standing rows) k) (e ∙ ap (λ l. f (standing l)) is ∙ ap f (sym (get_or-map standing rows k line [] b)))

pub join_is : {E : Type 0} (line line' : ArrayVec ℕ) (slot : ℕ) (r : Result (Unit {0}) E) → (IsOk r → length line.items < 8) → OnOk r (line'.items ≡ line.items ++ slot ∷ []) → OnErr r (line' ≡ line) → OnErr r (length line.items ≡ 8) → standing line' ≡ joined (standing line) slot
join_is line line' slot (Ok _) room pushed same full =
    pushed ∙ sym (take_all 8 (line.items ++ slot ∷ []) (omega (arith, length_push line.items slot, room refl)))
join_is line line' slot (Err _) room pushed same full =
    ap standing same
    ∙ sym (take_all 8 line.items (omega arith))
    ∙ sym (take-append-le 8 line.items (slot ∷ []) (omega arith))

none : (xs : List ℕ) → (0 < length xs → false ≡ true) → xs ≡ drop 1 xs
none [] some = refl
none (x ∷ xs) some = cc (some (omega arith))

pub leave_is : (line line' : ArrayVec ℕ) (o : Option ℕ) → (0 < length line.items → IsSome o) → OnSome o (line'.items ≡ remove line.items 0) → IfNone o (line' ≡ line) → standing line' ≡ drop 1 (standing line)
leave_is line line' (Some _) some left same = left
leave_is line line' None some left same = ap standing same ∙ none line.items some

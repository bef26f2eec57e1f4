-- The entries of 32 slots, and the port over a memory of them.
use Rattle.std.specs.Prelude.{◌≡◌, ℕ, ◌<◌, ◌≤◌, Bool, ◌≢◌, List, length, Ok, slice_index_or, slice_set, refl}
use Rattle.std.proofs.Common.{⊎_elim, sym, ◌∙◌, arith, length-set}
use Rattle.std.proofs.lemmas.List.FromFn.{length-map-range_with_len, get_or-map-range_with_len}
use Rattle.std.proofs.lemmas.List.{same_lists, get_or-set_same, get_or-set_other}
use Rattle.std.proofs.lemmas.Bool.{cases_eq}
use Rattle.std.proofs.lemmas.Bool.Decides.{nat_tests}
use Rattle.ports.specs.Calls.{fresh_entry, new_port, making}
use Rattle.ports.specs.Meaning.{Entry, Meaning, Sound}
use Rattle.ports.specs.Memories.{each_slot, Kept}

pub length_each : (f : ℕ → Entry) → length (each_slot f) ≡ 32
unfolding each_slot
length_each f = length-map-range_with_len f 0 32

pub each_here : (f : ℕ → Entry) (s : ℕ) (d : Entry) → s ≤ 31 → slice_index_or (each_slot f) s d ≡ f s
unfolding each_slot
each_here f s d h = get_or-map-range_with_len f 0 32 s s d (omega arith) (omega arith)

pub each_same : (f g : ℕ → Entry) → ((k : ℕ) → k ≤ 31 → f k ≡ g k) → each_slot f ≡ each_slot g
each_same f g e =
    same_lists (each_slot f) (each_slot g) (length_each f ∙ sym (length_each g))
    (λ k d b. let b' : k ≤ 31 = omega (arith, length_each f) in each_here f k d b' ∙ e k b' ∙ sym (each_here g k d b'))

-- slot s changes, and no other
pub each_put : (f g : ℕ → Entry) (s : ℕ) (e : Entry) → s ≤ 31 → g s ≡ e → ((k : ℕ) → k ≢ s → g k ≡ f k) → each_slot g ≡ slice_set (each_slot f) s e
each_put f g s e h q o =
    same_lists (each_slot g) (slice_set (each_slot f) s e) (length_each g ∙ sym (length-set (each_slot f) s e ∙ length_each f))
    (λ k d b. let b' : k ≤ 31 = omega (arith, length_each g) in
    each_here g k d b' ∙
    ⊎_elim
    (λ (t : k ≡ s). rw t (let j : s < length (each_slot f) = omega (arith, length_each f) in q ∙ sym (get_or-set_same (each_slot f) s e d j)))
    (λ (t : k ≢ s). o k t ∙ sym (get_or-set_other (each_slot f) s k e d t ∙ each_here f k d b'))
    (cases_eq k s))

pub delivered_sound : (interruptible : Bool) (rate : ℕ) (es : List Entry) → 1 ≤ rate → rate ≤ 65535 → Kept interruptible es → Sound (record { rate = rate; entries = es })
delivered_sound interruptible rate es lo up kept = record { slots = kept.slots; rate_low = lo; rate_high = up; fine = kept.fine }

-- a port over a blank memory is a new port, at whatever rate
pub new_means : (rate : ℕ) → ◌≡◌ {A = Meaning} (record { rate = rate; entries = each_slot fresh_entry }) (new_port rate)
unfolding each_slot new_port
new_means rate = refl

pub new_delivered : (rate : ℕ) (es : List Entry) → (rate ≢ 0) → rate ≤ 65535 → es ≡ each_slot fresh_entry → Ok (record { rate = rate; entries = es }) ≡ making rate
unfolding each_slot new_port
new_delivered rate es lo up e = rw e (grind (arith, nat_tests))

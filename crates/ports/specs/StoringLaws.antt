-- The entries that stand for what is stored of 32 slots and one slot's progress.
use Rattle.std.specs.Prelude.{◌≡◌, ℕ, ◌<◌, ◌≤◌, true, false, cond, ◌&&◌, ◌≢◌, List, length, replicate, Some, None, Option, nat_lt, slice_index_or, slice_set, refl}
use Rattle.std.proofs.Common.{⊎_elim, sym, ap, subst, ◌∙◌, le_refl, arith}
use Rattle.std.proofs.lemmas.List.{get_or-set_same, get_or-set_other, get_or-replicate}
use Rattle.std.proofs.lemmas.Bool.{cases_eq, cases_lt, cases_Bool, eq-eqb, ne_eqb, eqb-true, not-false, and_right, and_from, and_parts, lt-ltb, ltb-true, le-ltb, both_ways}
use Rattle.ports.specs.declared.progress.Progress.{Progress}
use Rattle.ports.specs.declared.stored.Stored.{Stored}
use Rattle.ports.specs.declared.stored.Begun.{Begun}
use Rattle.ports.specs.Calls.{fresh_entry, new_port}
use Rattle.ports.specs.Meaning.{Entry, Meaning, nothing, half, Fine}
use Rattle.ports.specs.Memories.{each_slot, must_wait, put_after, Kept}
use Rattle.ports.specs.MemoryLaws.{length_each, each_here, each_put, each_same}
use Rattle.ports.specs.Progresses.{progress_entry}
use Rattle.ports.specs.Storing.{vacant, IsStored, written_at, waits, stored_entry, stored_entries, Current}
use Rattle.ports.specs.CallLaws.{other_decides, none_below}

pub stored_here : (xs : List Stored) (b : Option Begun) (s : ℕ) (d : Entry) → s ≤ 31 → slice_index_or (stored_entries xs b) s d ≡ stored_entry (slice_index_or xs s vacant) (written_at b s) s
stored_here xs b s d h = each_here (λ k. stored_entry (slice_index_or xs k vacant) (written_at b k) k) s d h

-- without progress a slot is not half written
still : (x : Stored) (k : ℕ) → half (stored_entry x 0 k) ≡ false
still x k = elim x.whole as (λ b. (nat_lt 0 (cond b x.size 0) && nat_lt (cond b x.size 0) x.size) ≡ false) [ true ↦ and_right (nat_lt 0 x.size) (nat_lt x.size x.size) (le-ltb x.size x.size (le_refl x.size)) | false ↦ refl ]

-- where a slot waits for none, no other has progress
no_progress : (b : Option Begun) (s k : ℕ) → waits b s ≡ false → k ≢ s → written_at b k ≡ 0
no_progress None s k w d = refl
no_progress (Some x) s k w d = rw (ne_eqb k x.slot.number (λ e. d (e ∙ eqb-true x.slot.number s (not-false _ w)))) refl

-- the slot that is begun has its progress
pub written_here : (x : Begun) (s : ℕ) → s ≡ x.slot.number → written_at (Some x) s ≡ x.written
written_here x s e = rw (eq-eqb s x.slot.number e) refl

pub none_else : (xs : List Stored) (b : Option Begun) (s : ℕ) → waits b s ≡ false → must_wait false (stored_entries xs b) s ≡ false
none_else xs b s w =
    none_below (stored_entries xs b) s 32
    (λ t l d. ap half (stored_here xs b t nothing (omega arith) ∙ ap (λ n. stored_entry (slice_index_or xs t vacant) n t) (no_progress b s t w d)) ∙ still (slice_index_or xs t vacant) t)

pub one_else : (xs : List Stored) (x : Begun) (s : ℕ) → Current xs (Some x) → (x.slot.number ≢ s) → must_wait false (stored_entries xs (Some x)) s ≡ true
one_else xs x s cur d =
    let k = x.slot.number in
    let n : written_at (Some x) k ≡ x.written = written_here x k refl in
    let l : k < 32 = omega (arith, x.slot.there) in
    let q = cur k l (omega (arith, n, x.some)) in
    let e = and_from (nat_lt 0 (written_at (Some x) k)) (nat_lt (written_at (Some x) k) (slice_index_or xs k vacant).size) (lt-ltb 0 (written_at (Some x) k) (omega (arith, n, x.some))) (lt-ltb (written_at (Some x) k) (slice_index_or xs k vacant).size q.1) in
    (other_decides (stored_entries xs (Some x)) s 32).1 (k, l, (d, ap half (stored_here xs (Some x) k nothing x.slot.there) ∙ rw q.0 e))

-- who waits
pub waits_is : (xs : List Stored) (b : Option Begun) (s : ℕ) → Current xs b → waits b s ≡ must_wait false (stored_entries xs b) s
waits_is xs None s cur = sym (none_else xs None s refl)
waits_is xs (Some x) s cur =
    ⊎_elim
    (λ (e : x.slot.number ≡ s). let w : waits (Some x) s ≡ false = rw (eq-eqb x.slot.number s e) refl in w ∙ sym (none_else xs (Some x) s w))
    (λ (d : x.slot.number ≢ s). rw (ne_eqb x.slot.number s d) (sym (one_else xs x s cur d)))
    (cases_eq x.slot.number s)

-- what is stored stands for its progress
stored_is : (p : Progress) (x : Stored) (n s : ℕ) → IsStored p x → (p.written ≢ p.size → n ≡ p.written) → stored_entry x n s ≡ progress_entry p s
stored_is p x n s i f =
    rw (i.image, i.size, i.whole, i.flaw)
    (⊎_elim
    (λ (e : p.written ≡ p.size). rw (eq-eqb p.written p.size e) (ap (λ m. record { image = p.image; size = p.size; written = m; flaw = p.flaw; board = s }) (sym e)))
    (λ (d : p.written ≢ p.size). rw (ne_eqb p.written p.size d) (ap (λ m. record { image = p.image; size = p.size; written = m; flaw = p.flaw; board = s }) (f d)))
    (cases_eq p.written p.size))

written_fits : (x : Stored) (n : ℕ) → n ≤ x.size → cond x.whole x.size n ≤ x.size
written_fits x n h = elim x.whole as (λ b. cond b x.size n ≤ x.size) [ true ↦ le_refl x.size | false ↦ h ]

-- no slot above 31 is begun
none_above : (b : Option Begun) (k : ℕ) → 31 < k → written_at b k ≡ 0
none_above None k h = refl
none_above (Some x) k h = rw (ne_eqb k x.slot.number (λ e. omega (arith, x.slot.there, e))) refl

-- progress ends below the size
pub within : (xs : List Stored) (b : Option Begun) (k : ℕ) → Current xs b → written_at b k ≤ (slice_index_or xs k vacant).size
within xs b k cur =
    ⊎_elim
    (λ (z : written_at b k ≡ 0). omega arith)
    (λ (z : written_at b k ≢ 0).
    ⊎_elim
    (λ (l : k < 32). let q = cur k l (omega arith) in omega (arith, q.1))
    (λ (l : 32 ≤ k). absurd (z (none_above b k (omega arith))))
    (cases_lt k 32))
    (cases_eq (written_at b k) 0)

stored_fine : (x : Stored) (n k : ℕ) → n ≤ x.size → k ≤ 31 → Fine (stored_entry x n k)
stored_fine x n k h l = record { image_fits = x.image_fits; size_fits = x.size_fits; in_size = written_fits x n h; flaw_fits = x.flaw_fits; board_fits = l }

-- what is half written waits for none
half_alone : (b : Option Begun) (x : Stored) (k : ℕ) → half (stored_entry x (written_at b k) k) ≡ true → waits b k ≡ false
half_alone None x k e = refl
half_alone (Some y) x k e =
    ⊎_elim
    (λ (q : k ≡ y.slot.number). rw (eq-eqb y.slot.number k (sym q)) refl)
    (λ (d : k ≢ y.slot.number). absurd (both_ways (half (stored_entry x (written_at (Some y) k) k)) (ap (λ n. half (stored_entry x n k)) (rw (ne_eqb k y.slot.number d) refl) ∙ still x k) e))
    (cases_eq k y.slot.number)

pub stored_kept : (xs : List Stored) (b : Option Begun) → Current xs b → Kept false (stored_entries xs b)
stored_kept xs b cur = record {
  slots = length_each (λ k. stored_entry (slice_index_or xs k vacant) (written_at b k) k);
  fine = λ k l.
      let h : k ≤ 31 = omega arith in
      subst Fine (sym (stored_here xs b k nothing h)) (stored_fine (slice_index_or xs k vacant) (written_at b k) k (within xs b k cur) h);
  alone = λ k l e.
      sym (waits_is xs b k cur) ∙ half_alone b (slice_index_or xs k vacant) k (sym (ap half (stored_here xs b k nothing (omega arith))) ∙ e);
}

pub new_stored : (p : Progress) (x : Stored) → IsStored p x → ((k : ℕ) → progress_entry p k ≡ fresh_entry k) → stored_entries (replicate 32 x) None ≡ each_slot fresh_entry
new_stored p x i e =
    each_same (λ k. stored_entry (slice_index_or (replicate 32 x) k vacant) 0 k) fresh_entry
    (λ k h. ap (λ (y : Stored). stored_entry y 0 k) (get_or-replicate 32 k x vacant (omega arith)) ∙ stored_is p x 0 k i (λ _. sym (ap (λ (y : Entry). y.written) (e k))) ∙ e k)

-- 32 blank slots, of which none is begun, are those of a new port, at whatever rate
pub new_vacant : (rate : ℕ) → ◌≡◌ {A = Meaning} (record { rate = rate; entries = stored_entries (replicate 32 vacant) None }) (new_port rate)
unfolding each_slot new_port
new_vacant rate = refl

-- what is stored of a slot without progress is no matter to the one that is begun
pub current_stays : (xs : List Stored) (b : Option Begun) (s : ℕ) (x : Stored) → written_at b s ≡ 0 → Current xs b → Current (slice_set xs s x) b
current_stays xs b s x z cur k r w =
    ⊎_elim
    (λ (t : k ≡ s). let none : written_at b k ≡ 0 = ap (written_at b) t ∙ z in absurd (omega (arith, none, w)))
    (λ (d : k ≢ s). subst (λ (y : Stored). (y.whole ≡ false) × (written_at b k < y.size)) (sym (get_or-set_other xs s k x vacant d)) (cur k r w))
    (cases_eq k s)

-- the progress of a slot that is not whole
half_or_none : (p : Progress) (s : ℕ) → p.written ≢ p.size → cond (half (progress_entry p s)) p.written 0 ≡ p.written
half_or_none p s d =
    ⊎_elim
    (λ (z : p.written ≡ 0). rw z refl)
    (λ (z : p.written ≢ 0).
    rw (and_from (nat_lt 0 p.written) (nat_lt p.written p.size) (lt-ltb 0 p.written (omega arith)) (lt-ltb p.written p.size (omega (arith, p.in_size, d)))) refl)
    (cases_eq p.written 0)

module _ (xs : List Stored) (b b' : Option Begun) (s : ℕ) (p : Progress) (x : Stored) (l : length xs ≡ 32) (h : s ≤ 31) (i : IsStored p x) (f : (k : ℕ) → k ≢ s → written_at b' k ≡ written_at b k) (g : written_at b' s ≡ cond (half (progress_entry p s)) p.written 0) where
  entries_put : stored_entries (slice_set xs s x) b' ≡ slice_set (stored_entries xs b) s (progress_entry p s)
  entries_put =
      each_put (λ k. stored_entry (slice_index_or xs k vacant) (written_at b k) k) (λ k. stored_entry (slice_index_or (slice_set xs s x) k vacant) (written_at b' k) k) s (progress_entry p s) h
      (let r : s < length xs = omega arith in
      ap (λ (y : Stored). stored_entry y (written_at b' s) s) (get_or-set_same xs s x vacant r) ∙ stored_is p x (written_at b' s) s i (λ d. g ∙ half_or_none p s d))
      (λ k d. ap (λ (y : Stored). stored_entry y (written_at b' k) k) (get_or-set_other xs s k x vacant d) ∙ ap (λ n. stored_entry (slice_index_or xs k vacant) n k) (f k d))

  begun_half : 0 < written_at b' s → (x.whole ≡ false) × (written_at b' s < x.size)
  begun_half w =
      ⊎_elim
      (λ (e : half (progress_entry p s) ≡ true).
      let t : written_at b' s ≡ p.written = g ∙ rw e refl in
      let u = ltb-true p.written p.size (and_parts (nat_lt 0 p.written) (nat_lt p.written p.size) e).1 in
      (i.whole ∙ ne_eqb p.written p.size (λ q. omega (arith, u, q)), omega (arith, t, u, i.size)))
      (λ (e : half (progress_entry p s) ≡ false). let z : written_at b' s ≡ 0 = g ∙ rw e refl in absurd (omega (arith, z, w)))
      (cases_Bool (half (progress_entry p s)))

  pub put_current : Current xs b → Current (slice_set xs s x) b'
  put_current cur k r w =
      ⊎_elim
      (λ (t : k ≡ s). rw t
      (let j : s < length xs = omega arith in subst (λ (y : Stored). (y.whole ≡ false) × (written_at b' s < y.size)) (sym (get_or-set_same xs s x vacant j)) (begun_half (subst (λ n. 0 < written_at b' n) t w))))
      (λ (d : k ≢ s).
      subst (λ (y : Stored). (y.whole ≡ false) × (written_at b' k < y.size)) (sym (get_or-set_other xs s k x vacant d)) (rw (f k d) (cur k r (subst (λ n. 0 < n) (f k d) w))))
      (cases_eq k s)

  pub put_stored : (half (progress_entry p s) && must_wait false (stored_entries xs b) s) ≡ false →
      stored_entries (slice_set xs s x) b' ≡ put_after false (stored_entries xs b) s (progress_entry p s)
  put_stored w = entries_put ∙ rw w refl

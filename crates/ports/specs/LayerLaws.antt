-- The layer shows the meaning of the port below under other numbers.
use Rattle.std.specs.Prelude.{◌≡◌, ℕ, ◌<◌, ◌≤◌, Bool, true, cond, ◌≢◌, List, map, length, Some, None, Option, Result, slice_index, slice_index_or, slice_set, refl}
use Rattle.std.proofs.Math.Logic.{⊎_elim}
use Rattle.std.proofs.Math.Path.{sym, ap, subst}
use Rattle.std.proofs.Common.{◌∙◌, arith, length-set}
use Rattle.std.proofs.lemmas.List.{same_lists, length-map, get_or-map, get_or-set_same, get_or-set_other}
use Rattle.std.proofs.lemmas.Bool.{cases_eq, cases_lt, lt-ltb, le-ltb}
use Rattle.std.proofs.lemmas.Bool.Decides.{same_from_decides, Decides-like}
use Rattle.ports.specs.declared.answers.Refusal.{Refusal}
use Rattle.ports.specs.declared.answers.Refusal.TheVariants.{NoSuchSlot}
use Rattle.ports.specs.Meaning.{Entry, Meaning, nothing, entry_at, half, Fine, Sound}
use Rattle.ports.specs.Calls.{judged, unless, with_entry, why_slot, why_open, why_feed, other_half, opened, blanked, fed_entry, left_answer, open_answer, open_after, shut_answer, shut_after, feed_answer, feed_after}
use Rattle.ports.specs.Layers.{entries_below, renumbered, Shows, Found}
use Rattle.ports.specs.Maps.{covers}
use Rattle.ports.specs.MapLaws.{holds_at, covers_each, in_range, one_to_one}
use Rattle.ports.specs.CallLaws.{Other, other_decides}

module _ (xs : List ℕ) (full : length xs ≡ 32) (all : covers xs 32 ≡ true) (m : Meaning) (ok : Sound m) where
  re_here : (s : ℕ) → s ≤ 31 → entry_at (renumbered xs m) s ≡ entry_at m (slice_index xs s)
  unfolding entries_below
  re_here s h = get_or-map (λ (b : ℕ). entry_at m b) xs s 0 nothing (omega (arith, full))

  re_below : (s : ℕ) → s ≤ 31 → slice_index xs s ≤ 31
  re_below s h = let r = in_range xs s full all (omega arith) in omega (arith, r)

  pub re_sound : Sound (renumbered xs m)
  unfolding entries_below
  re_sound = record {
    slots = length-map xs (λ (b : ℕ). entry_at m b) ∙ full;
    rate_low = ok.rate_low;
    rate_high = ok.rate_high;
    fine = λ k b. subst Fine (sym (re_here k (omega arith))) (ok.fine (slice_index xs k) (in_range xs k full all b));
  }

  re_set : (s : ℕ) (e : Entry) → s ≤ 31 → renumbered xs (with_entry m (slice_index xs s) e) ≡ with_entry (renumbered xs m) s e
  unfolding entries_below
  re_set s e h =
      let f : ℕ → Entry = λ k. entry_at m k in
      let f' : ℕ → Entry = λ k. entry_at (with_entry m (slice_index xs s) e) k in
      let l : s < length (map f xs) = omega (arith, length-map xs f, full) in
      let below : slice_index_or xs s 0 < length m.entries = omega (arith, re_below s h, ok.slots) in
      ap (λ (es : List Entry). record { rate = m.rate; entries = es })
      (same_lists (map f' xs) (slice_set (map f xs) s e)
      (length-map xs f' ∙ sym (length-set (map f xs) s e ∙ length-map xs f))
      (λ k d q.
      let k' : k < length xs = omega (arith, length-map xs f') in
      get_or-map f' xs k 0 d k' ∙
      ⊎_elim
      (λ (t : k ≡ s). rw t (get_or-set_same m.entries (slice_index xs s) e nothing below ∙ sym (get_or-set_same (map f xs) s e d l)))
      (λ (t : k ≢ s).
      get_or-set_other m.entries (slice_index xs s) (slice_index xs k) e nothing (λ u. t (one_to_one xs k s full all (omega (arith, full)) (omega arith) u))
      ∙ sym (get_or-set_other (map f xs) s k e d t ∙ get_or-map f xs k 0 d k'))
      (cases_eq k s)))

  re_after : (w : Option Refusal) (s : ℕ) (e : Entry) → s ≤ 31 →
      renumbered xs (unless w m (with_entry m (slice_index xs s) e)) ≡ unless w (renumbered xs m) (with_entry (renumbered xs m) s e)
  re_after (Some r) s e h = refl
  re_after None s e h = re_set s e h

  re_other : (s : ℕ) → s ≤ 31 → other_half m (slice_index xs s) ≡ other_half (renumbered xs m) s
  re_other s h =
      same_from_decides (other_half m (slice_index xs s)) (other_half (renumbered xs m) s)
      (other_decides m.entries (slice_index xs s) 32)
      (Decides-like (other_half (renumbered xs m) s)
      (λ (o : Other (renumbered xs m).entries s 32). (
        slice_index xs o.0,
        in_range xs o.0 full all o.1,
        (
          (λ u. o.2.0 (one_to_one xs o.0 s full all o.1 (omega arith) u)),
          ap half (sym (re_here o.0 (omega (arith, o.1)))) ∙ o.2.1,
        ),
      ))
      (λ (o : Other m.entries (slice_index xs s) 32).
      let t = holds_at xs o.0 (covers_each xs 32 o.0 all o.1) in (
        t.0,
        (let u : t.0 < 32 = omega (arith, t.1, full) in u),
        (
          (λ (u : t.0 ≡ s). o.2.0 (sym t.2 ∙ ap (λ k. slice_index xs k) u)),
          ap half (re_here t.0 (omega (arith, t.1, full)) ∙ ap (λ k. entry_at m k) t.2) ∙ o.2.1,
        ),
      ))
      (other_decides (renumbered xs m).entries s 32))

  re_why_slot : (s : ℕ) → s ≤ 31 → why_slot (slice_index xs s) ≡ why_slot s
  re_why_slot s h = rw (le-ltb 31 s h, le-ltb 31 (slice_index xs s) (re_below s h)) refl

  re_why_open : (s i z : ℕ) → s ≤ 31 → why_open (slice_index xs s) i z ≡ why_open s i z
  re_why_open s i z h = rw (le-ltb 31 s h, le-ltb 31 (slice_index xs s) (re_below s h)) refl

  re_why_feed : (k : Bool) (s : ℕ) → s ≤ 31 → why_feed k m (slice_index xs s) ≡ why_feed k (renumbered xs m) s
  re_why_feed k s h = rw (re_other s h, re_here s h, le-ltb 31 s h, le-ltb 31 (slice_index xs s) (re_below s h)) refl

  re_left : (s : ℕ) → s ≤ 31 → left_answer m (slice_index xs s) ≡ left_answer (renumbered xs m) s
  re_left s h = rw (re_here s h, re_why_slot s h) refl

  re_open_answer : (s i z : ℕ) → s ≤ 31 → open_answer (slice_index xs s) i z ≡ open_answer s i z
  re_open_answer s i z h = rw (re_why_open s i z h) refl

  re_open : (s i z : ℕ) → s ≤ 31 → renumbered xs (open_after m (slice_index xs s) i z) ≡ open_after (renumbered xs m) s i z
  re_open s i z h = re_after (why_open (slice_index xs s) i z) s (opened (entry_at m (slice_index xs s)) i z) h ∙ rw (re_here s h, re_why_open s i z h) refl

  re_shut_answer : (s : ℕ) → s ≤ 31 → shut_answer (slice_index xs s) ≡ shut_answer s
  re_shut_answer s h = rw (re_why_slot s h) refl

  re_shut : (s : ℕ) → s ≤ 31 → renumbered xs (shut_after m (slice_index xs s)) ≡ shut_after (renumbered xs m) s
  re_shut s h = re_after (why_slot (slice_index xs s)) s (blanked (entry_at m (slice_index xs s))) h ∙ rw (re_here s h, re_why_slot s h) refl

  re_feed_answer : (k : Bool) (s : ℕ) → s ≤ 31 → feed_answer k m (slice_index xs s) ≡ feed_answer k (renumbered xs m) s
  re_feed_answer k s h = rw (re_why_feed k s h, re_here s h) refl

  re_feed : (k : Bool) (s : ℕ) → s ≤ 31 → renumbered xs (feed_after k m (slice_index xs s)) ≡ feed_after k (renumbered xs m) s
  re_feed k s h = re_after (why_feed k m (slice_index xs s)) s (fed_entry m.rate (entry_at m (slice_index xs s))) h ∙ rw (re_why_feed k s h, re_here s h) refl

  shows : (k : Bool) (s : ℕ) → s ≤ 31 → Shows k xs m s (slice_index xs s)
  shows k s h = record {
    left_says = re_left s h;
    open_says = λ i z. re_open_answer s i z h;
    open_leaves = λ i z. re_open s i z h;
    feed_says = re_feed_answer k s h;
    feed_leaves = re_feed k s h;
    shut_says = re_shut_answer s h;
    shut_leaves = re_shut s h;
  }

  pub found : (k : Bool) (s : ℕ) (r : Result ℕ Refusal) → r ≡ judged (why_slot s) (slice_index xs s) → Found k xs m s r
  found k s r e =
      subst (Found k xs m s) (sym e)
      (⊎_elim
      (λ (h : 31 < s). rw (lt-ltb 31 s h) (ap (λ b. cond b (Some NoSuchSlot) None) (lt-ltb 31 s h)))
      (λ (h : s ≤ 31). rw (le-ltb 31 s h) (shows k s h))
      (cases_lt 31 s))

-- The entries that stand for 32 records of progress.
use Rattle.std.specs.Prelude.{◌≡◌, ℕ, ◌<◌, ◌≤◌, true, List, length, replicate, slice_index_or, slice_set, refl}
use Rattle.std.proofs.Common.{sym, ap, subst, ◌∙◌, arith}
use Rattle.std.proofs.lemmas.List.{get_or-set_same, get_or-set_other, get_or-replicate}
use Rattle.std.proofs.Math.Bool.{and-false}
use Rattle.ports.specs.declared.progress.Progress.{Progress}
use Rattle.ports.specs.Calls.{fresh_entry}
use Rattle.ports.specs.Meaning.{Fine, half, nothing}
use Rattle.ports.specs.Memories.{each_slot, put_after, Kept}
use Rattle.ports.specs.MemoryLaws.{length_each, each_here, each_put, each_same}
use Rattle.ports.specs.Progresses.{fresh, progress_entry, progress_entries}

entries_put : (ps : List Progress) (s : ℕ) (p : Progress) → length ps ≡ 32 → s ≤ 31 → progress_entries (slice_set ps s p) ≡ slice_set (progress_entries ps) s (progress_entry p s)
entries_put ps s p l h =
    each_put (λ k. progress_entry (slice_index_or ps k fresh) k) (λ k. progress_entry (slice_index_or (slice_set ps s p) k fresh) k) s (progress_entry p s) h
    (let i : s < length ps = omega arith in ap (λ (q : Progress). progress_entry q s) (get_or-set_same ps s p fresh i))
    (λ k n. ap (λ (q : Progress). progress_entry q k) (get_or-set_other ps s k p fresh n))

pub progress_put : (ps : List Progress) (s : ℕ) (p : Progress) → length ps ≡ 32 → s ≤ 31 →
    progress_entries (slice_set ps s p) ≡ put_after true (progress_entries ps) s (progress_entry p s)
progress_put ps s p l h = entries_put ps s p l h ∙ rw (and-false (half (progress_entry p s))) refl

progress_fine : (p : Progress) (k : ℕ) → k ≤ 31 → Fine (progress_entry p k)
progress_fine p k h = record { image_fits = p.image_fits; size_fits = p.size_fits; in_size = p.in_size; flaw_fits = p.flaw_fits; board_fits = h }

pub progresses_kept : (ps : List Progress) → Kept true (progress_entries ps)
progresses_kept ps = record {
  slots = length_each (λ k. progress_entry (slice_index_or ps k fresh) k);
  fine = λ k b.
      let h : k ≤ 31 = omega arith in
      subst Fine (sym (each_here (λ j. progress_entry (slice_index_or ps j fresh) j) k nothing h)) (progress_fine (slice_index_or ps k fresh) k h);
  alone = λ k b e. refl;
}

pub new_progresses : (p : Progress) → ((k : ℕ) → progress_entry p k ≡ fresh_entry k) → progress_entries (replicate 32 p) ≡ each_slot fresh_entry
new_progresses p e =
    each_same (λ k. progress_entry (slice_index_or (replicate 32 p) k fresh) k) fresh_entry
    (λ k h. ap (λ (q : Progress). progress_entry q k) (get_or-replicate 32 k p fresh (omega arith)) ∙ e k)

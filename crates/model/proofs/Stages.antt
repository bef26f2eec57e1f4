-- What the tests of a stage say of one another.
use Rattle.std.proofs.Common.{◌≡◌, ℕ, true, false, refl, ap, arith}
use Rattle.std.proofs.lemmas.Bool.{both_ways}
use Rattle.model.specs.declared.requests.Stage.{Stage}
use Rattle.model.specs.declared.requests.Stage.TheVariants.{Reserved}
use Rattle.model.specs.Records.{queued_stage, reserved_stage, running_stage, held_stage, occupant_stage, unended_stage, slot_of}
use Rattle.model.specs.Grants.{slotted_stage}

pub no_true : {A : Type 0} → false ≡ true → A
no_true e = absurd (both_ways false refl e)

pub queued_held : (σ : Stage) → queued_stage σ ≡ true → held_stage σ ≡ true
queued_held σ e = grind arith

pub reserved_held : (σ : Stage) → reserved_stage σ ≡ true → held_stage σ ≡ true
reserved_held σ e = grind arith

pub running_held : (σ : Stage) → running_stage σ ≡ true → held_stage σ ≡ true
running_held σ e = grind arith

pub queued_free : (σ : Stage) → queued_stage σ ≡ true → occupant_stage σ ≡ false
queued_free σ e = grind arith

pub reserved_occupant : (σ : Stage) → reserved_stage σ ≡ true → occupant_stage σ ≡ true
reserved_occupant σ e = grind arith

pub running_occupant : (σ : Stage) → running_stage σ ≡ true → occupant_stage σ ≡ true
running_occupant σ e = grind arith

pub occupant_held : (σ : Stage) → occupant_stage σ ≡ true → held_stage σ ≡ true
occupant_held σ e = grind arith

pub over_free : (σ : Stage) → unended_stage σ ≡ false → occupant_stage σ ≡ false
over_free σ e = grind arith

pub empty_free : (σ : Stage) → held_stage σ ≡ false → occupant_stage σ ≡ false
empty_free σ e = grind arith

pub free_not_reserved : (σ : Stage) → held_stage σ ≡ false → reserved_stage σ ≡ false
free_not_reserved σ e = grind arith

pub over_not_reserved : (σ : Stage) → unended_stage σ ≡ false → reserved_stage σ ≡ false
over_not_reserved σ e = grind arith

pub running_not : (σ : Stage) (t : ℕ) → running_stage σ ≡ true → σ ≡ Reserved t → ⊥
running_not σ t r e = both_ways _ (ap running_stage e) r

pub queued_not : (σ : Stage) (t : ℕ) → queued_stage σ ≡ true → σ ≡ Reserved t → ⊥
queued_not σ t r e = both_ways _ (ap queued_stage e) r

pub reserved_is : (σ : Stage) → reserved_stage σ ≡ true → σ ≡ Reserved (slot_of σ)
reserved_is σ e = grind arith

pub running_unended : (σ : Stage) → running_stage σ ≡ true → unended_stage σ ≡ true
running_unended σ e = grind arith

pub free_over : (σ : Stage) → held_stage σ ≡ false → unended_stage σ ≡ false
free_over σ e = grind arith

pub queued_bare : (σ : Stage) → queued_stage σ ≡ true → slotted_stage σ ≡ false
queued_bare σ e = grind arith

pub free_bare : (σ : Stage) → held_stage σ ≡ false → slotted_stage σ ≡ false
free_bare σ e = grind arith

pub occupant_slotted : (σ : Stage) → occupant_stage σ ≡ true → slotted_stage σ ≡ true
occupant_slotted σ e = grind arith

pub reserved_unended : (σ : Stage) → reserved_stage σ ≡ true → unended_stage σ ≡ true
reserved_unended σ e = grind arith

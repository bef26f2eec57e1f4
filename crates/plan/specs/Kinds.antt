-- The kinds of a plan's lines, by their letters.
use Rattle.std.specs.Prelude.{ℕ, cond, Some, None, Option, ◌==◌}
use Rattle.plan.specs.declared.kinds.Kind.{Kind}
use Rattle.plan.specs.declared.kinds.Kind.TheVariants.{Contents, Partition, Accelerator}

-- the letters c, p and a
abbrev pub letter_of : Kind → ℕ
letter_of Contents = 99
letter_of Partition = 112
letter_of Accelerator = 97

abbrev pub letter_kind : ℕ → Option Kind
letter_kind c = cond (c == 99) (Some Contents) (cond (c == 112) (Some Partition) (cond (c == 97) (Some Accelerator) None))

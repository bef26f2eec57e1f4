-- Why a script is refused.
use Rattle.std.specs.Prelude.{ℕ}
use Rattle.script.specs.declared.refusals.ScriptRefusal.{ScriptRefusal}
use Rattle.script.specs.declared.refusals.ScriptRefusal.TheVariants.{BadLine, TooLong}

-- the number by which each refusal is known
abbrev pub script_refusal_number : ScriptRefusal → ℕ
script_refusal_number BadLine = 60
script_refusal_number TooLong = 61

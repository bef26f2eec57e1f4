-- What each fault tells: its number, its layer, its line and its field.
use Rattle.std.specs.Prelude.{ℕ, List, ◌∷◌, ◌++◌, decimal, codes}
use Rattle.plan.specs.declared.faults.Rule.{Rule}
use Rattle.plan.specs.declared.faults.Rule.TheVariants.{PartitionBlocks, FabricBlocks, SlotCount, SlotSize}
use Rattle.plan.specs.declared.faults.Flaw.{Flaw}
use Rattle.plan.specs.declared.faults.Flaw.TheVariants.{Form, Range, Broken}
use Rattle.plan.specs.declared.faults.Fault.{Fault}
use Rattle.plan.specs.declared.faults.Fault.TheVariants.{Length, Line, Rest}
use Rattle.plan.specs.declared.faults.Layer.{Layer}
use Rattle.plan.specs.declared.faults.Layer.TheVariants as layer

abbrev pub rule_number : Rule → ℕ
rule_number PartitionBlocks = 4
rule_number FabricBlocks = 5
rule_number SlotCount = 6
rule_number SlotSize = 7

abbrev pub flaw_number : Flaw → ℕ
flaw_number Form = 2
flaw_number (Range place) = 3
flaw_number (Broken rule) = rule_number rule

abbrev pub fault_number : Fault → ℕ
fault_number Length = 1
fault_number (Line line flaw) = flaw_number flaw
fault_number (Rest line) = 8

abbrev pub flaw_layer : Flaw → Layer
flaw_layer Form = layer.Line
flaw_layer (Range place) = layer.Field
flaw_layer (Broken rule) = layer.Rule

abbrev pub fault_layer : Fault → Layer
fault_layer Length = layer.Text
fault_layer (Line line flaw) = flaw_layer flaw
fault_layer (Rest line) = layer.Text

-- how a layer is printed
abbrev pub layer_name : Layer → List ℕ
layer_name layer.Text = codes "text"
layer_name layer.Line = codes "line"
layer_name layer.Field = codes "field"
layer_name layer.Rule = codes "rule"

-- lines count from 1; a text that is too long has none
abbrev pub fault_line : Fault → ℕ
fault_line Length = 0
fault_line (Line line flaw) = line
fault_line (Rest line) = line

-- fields count from 1; only a field out of range has one
abbrev pub flaw_field : Flaw → ℕ
flaw_field Form = 0
flaw_field (Range place) = place
flaw_field (Broken rule) = 0

abbrev pub fault_field : Fault → ℕ
fault_field Length = 0
fault_field (Line line flaw) = flaw_field flaw
fault_field (Rest line) = 0

-- how a fault is printed: `plan`, its number, its line and its field
abbrev pub fault_text : Fault → List ℕ
fault_text f = codes "plan " ++ (decimal (fault_number f) ++ (32 ∷ decimal (fault_line f) ++ (32 ∷ decimal (fault_field f))))

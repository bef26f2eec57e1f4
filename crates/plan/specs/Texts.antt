-- The texts of a layout, and when a text is accepted.
use Rattle.std.specs.Prelude.{◌≡◌, ℕ, ◌≤◌, List, [], ◌∷◌, ◌++◌, length, Ok, Err, Result}
use Rattle.text.specs.Forms as forms
use Rattle.plan.specs.declared.parts.Accelerator.{Accelerator}
use Rattle.plan.specs.declared.parts.Partition.{Partition}
use Rattle.plan.specs.declared.plan.Plan.{Plan}
use Rattle.plan.specs.declared.faults.Fault.{Fault}
use Rattle.plan.specs.Layouts.{layout}
use Rattle.plan.specs.Rules.{Layout, Rules}

-- bs is a line of a letter and numbers of at most 7 digits
abbrev pub Line : ℕ → List ℕ → List ℕ → Type 0
Line letter vs bs = forms.Line 7 letter vs bs

abbrev pub ContentsLine : Layout → List ℕ → Type 0
ContentsLine l bs = Line 99 (l.fabric ∷ length l.partitions ∷ length l.accelerators ∷ l.tasks ∷ []) bs

abbrev pub PartitionLine : Partition → List ℕ → Type 0
PartitionLine p bs = Line 112 (p.blocks ∷ p.slots ∷ p.size ∷ []) bs

abbrev pub AcceleratorLine : Accelerator → List ℕ → Type 0
AcceleratorLine a bs = Line 97 (a.partition ∷ a.owner ∷ a.need ∷ a.run ∷ []) bs

-- bs is the lines of some items, one after the other
abbrev pub Lines : {A : Type 0} → (A → List ℕ → Type 0) → List A → List ℕ → Type 0
Lines Says [] bs = bs ≡ []
Lines Says (x ∷ xs) bs = (front : List ℕ) × ((rest : List ℕ) × (Says x front × Lines Says xs rest × (bs ≡ front ++ rest)))

-- t is a text of the layout l
pub record TextOf (l : Layout) (t : List ℕ) : Type 0 where
  pub first : List ℕ
  pub middle : List ℕ
  pub last : List ℕ
  pub contents : ContentsLine l first
  pub partitions : Lines PartitionLine l.partitions middle
  pub accelerators : Lines AcceleratorLine l.accelerators last
  pub whole : t ≡ first ++ (middle ++ last)

-- t is a text, short enough, of a layout that keeps the rules and is not the empty plan's
pub record Says (t : List ℕ) (l : Layout) : Type 0 where
  pub short : length t ≤ 8192
  pub rules : Rules l
  pub filled : 1 ≤ l.tasks
  pub text : TextOf l t

-- what a plan that is read says
abbrev pub laid_out : Result Plan Fault → Result Layout Fault
laid_out (Ok p) = Ok (layout p)
laid_out (Err e) = Err e

-- the answer of a reading and the plan before and after it, from what the text says
abbrev pub Filled : Result Layout Fault → Result (Unit {0}) Fault → Plan → Plan → Type 0
Filled said (Ok _) before after = said ≡ Ok (layout after)
Filled said (Err e) before after = (said ≡ Err e) × (after ≡ before)

-- an accepted text says the plan that is left, and no other; a refused one says none
abbrev pub Exact : List ℕ → Result (Unit {0}) Fault → Plan → Type 0
Exact t (Ok _) plan = Says t (layout plan) × ((l : Layout) → Says t l → l ≡ layout plan)
Exact t (Err _) plan = (l : Layout) → Says t l → ⊥

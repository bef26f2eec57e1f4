-- What each port and each map means.
use Rattle.std.specs.Prelude.{ℕ, List}
use Rattle.ports.specs.declared.delivered.Delivered.{Delivered}
use Rattle.ports.specs.declared.renumbered.Renumbered.{Renumbered}
use Rattle.ports.specs.declared.slot_map.SlotMap.{SlotMap}
use Rattle.ports.specs.Layers.{renumbered}
use Rattle.ports.specs.Meaning.{Entry, Meaning}

abbrev pub delivered_meaning : {M : Type 0} → (M → List Entry) → Delivered M → Meaning
delivered_meaning entries p = record { rate = p.rate; entries = entries p.memory }

-- at each slot above, the slot below
abbrev pub places_of : SlotMap → List ℕ
places_of m = m.places

abbrev pub renumbered_meaning : {P : Type 0} → (P → Meaning) → Renumbered P → Meaning
renumbered_meaning meaning r = renumbered (places_of r.map) (meaning r.port)

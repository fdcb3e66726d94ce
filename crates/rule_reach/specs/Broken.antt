-- Private: leads to `TellsDocument`. What a check adds to a list of breaches of documents: the counterpart of `Adds`, which is for faults with data.
use Rattle.std.specs.Prelude.{◌≡◌, ◌↔◌, List, map, Vec, Contains}
use Rattle.std.specs.declared.alloc.Global.{Global}
use Rattle.graphql_names.specs.Placed.{Place}
use Rattle.rule_definitions.specs.Room.{◌⊕◌}
use Rattle.fault_document_errors.specs.DocumentBreachView.{document_breach_of}
use Rattle.fault_document_errors.specs.declared.build_error.BuildError.{BuildError}
use Rattle.rule_document_definitions.specs.DocumentFaults.{Broken, broken}

-- a breach with its place, as contracts see it
abbrev pub broken_of : Place × BuildError → Broken Place
broken_of e = broken e.0 (document_breach_of e.1)

abbrev pub brokens_of : Vec (Place × BuildError) Global → List (Broken Place)
brokens_of breaches = map broken_of breaches.items

-- the old breaches unchanged, then, as far as there is room, a list of exactly the breaches by which the rules break
abbrev pub AddsBroken : Vec (Place × BuildError) Global → Vec (Place × BuildError) Global → (Broken Place → Type 0) → Type 0
AddsBroken old new Breaks = (added : List (Broken Place)) × ((brokens_of new ≡ brokens_of old ⊕ added) × ((f : Broken Place) → Contains added f ↔ Breaks f))

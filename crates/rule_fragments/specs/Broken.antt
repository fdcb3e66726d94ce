-- Private: leads to `Documents.antt`. What a rule adds to a list of breaches; the list, and what a check adds to one, are those of `rule_reach`.
use Rattle.std.specs.Prelude.{Vec, List, ◌≡◌}
use Rattle.std.specs.declared.alloc.Global.{Global}
use Rattle.graphql_names.specs.Placed.{Place}
use Rattle.fault_document_errors.specs.declared.build_error.BuildError.{BuildError}
use Rattle.rule_definitions.specs.Room.{◌⊕◌}
use Rattle.rule_document_definitions.specs.DocumentFaults.{Broken}
pub use Rattle.rule_selection_queries.specs.in_reach.Broken.{broken_of, brokens_of, AddsBroken}

-- the old breaches unchanged, then exactly these, as far as there is room
abbrev pub AddsThese : Vec (Place × BuildError) Global → Vec (Place × BuildError) Global → List (Broken Place) → Type 0
AddsThese old new these = brokens_of new ≡ brokens_of old ⊕ these

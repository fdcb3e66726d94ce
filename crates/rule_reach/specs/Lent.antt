-- The fields among the borrowed selections of a walk.
use Rattle.std.specs.Prelude.{List, flat_map, option_to_list, None}
use Rattle.graphql_names.specs.Placed.{Place}
use Rattle.rule_document_definitions.specs.in_spec_document.MeantTree.{meant}
use Rattle.rule_document_definitions.specs.Selected.{InOperation, StandingField, field_there}
use Rattle.document_typed_operations.specs.Reached.{Member as TypedMember}

-- the selection, if it is a field
abbrev pub field_lent : {P : Type 0} → TypedMember P → List (StandingField P)
field_lent e = option_to_list (field_there (InOperation None) e.0.it (meant e.1))

abbrev pub fields_lent : {P : Type 0} → List (TypedMember P) → List (StandingField P)
fields_lent es = flat_map field_lent es

-- Private: leads to `VariablesBreak`. The rules on the variables of an operation in two parts: those that need no schema, and those under a schema
-- (GraphQL, October 2021, section 5.8).
use Rattle.std.specs.Prelude.{◌⊎◌, None}
use Rattle.graphql_names.specs.Placed.{Place}
use Rattle.graphql_names.specs.Places.{Recomposes}
use Rattle.schema_types.specs.SchemaTree.{SchemaTree}
use Rattle.schema_types.specs.Addresses.{Address}
use Rattle.spec_document.specs.MeantTree.{MeantOperation, MeantDocument}
use Rattle.rule_definitions.specs.Judged.{judged}
use Rattle.rule_definitions.specs.PlacedFaults.{PlacedFault}
use Rattle.rule_document_definitions.specs.Places.{Places}
use Rattle.rule_document_definitions.specs.PlacedDocumentFaults.{places_in}
use Rattle.rule_document_definitions.specs.Variables.{UniqueVariableAt, UniqueDefaultKeyAt, UnusedVariableAt, UndefinedVariableTypeAt, VariableInputTypeAt, DefaultValueBreaks, VariableDirectivesBreak}

-- places in texts, with any places of addresses in a schema
abbrev pub places_with : (Address → Place) → Places Place
places_with at = record { at = at; Spans = Recomposes; nowhere = None }

-- the rules that need no schema
abbrev pub VariablesBreakAlone : (Address → Place) → MeantDocument Place → MeantOperation Place → PlacedFault → Type 0
VariablesBreakAlone at d o fault = UniqueVariableAt o fault ⊎ (UniqueDefaultKeyAt o fault ⊎ UnusedVariableAt o fault (places_with at) d)

-- the rules under a schema
abbrev pub VariablesBreakUnder : SchemaTree Place → MeantOperation Place → PlacedFault → Type 0
VariablesBreakUnder s o fault =
    UndefinedVariableTypeAt (judged s) o fault ⊎ (VariableInputTypeAt (judged s) o fault
    ⊎ (DefaultValueBreaks (judged s) o fault (places_in s) ⊎ VariableDirectivesBreak (judged s) o fault (places_in s)))

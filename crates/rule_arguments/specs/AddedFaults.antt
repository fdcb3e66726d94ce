-- Private: leads to `Uses` of the definitions of the rules. Which faults the checks of arguments and of uses of directives add to a list (GraphQL, October 2021, sections 5.4 and 5.7).
use Rattle.std.specs.Prelude.{Vec}
use Rattle.std.specs.declared.alloc.Global.{Global}
use Rattle.graphql_names.specs.Placed.{Place}
use Rattle.tree_directives.specs.DirectiveTree.{Arguments, Directives}
use Rattle.tree_directives.specs.declared.directive_location.DirectiveLocation.{DirectiveLocation}
use Rattle.rule_values.specs.in_schema.in_schema_types.SchemaTree.{SchemaTree}
use Rattle.rule_values.specs.in_schema.in_schema_types.Addresses.{Address, place_at}
use Rattle.rule_values.specs.in_fault_data.Adds.{Adds}
use Rattle.rule_values.specs.in_fault_data.declared.fault.Fault.{Fault}
use Rattle.rule_values.specs.in_rule_definitions.Judged.{Judged, judged}
use Rattle.rule_values.specs.in_rule_definitions.GivenValues.{Variables}
use Rattle.rule_values.specs.in_rule_definitions.Uses.{GivenBreaks, TakerBreaks, UsesBreak}
use Rattle.rule_arguments.specs.Trees.{TellsPlaces, taker_of}
use Rattle.rule_arguments.specs.declared.taker.Taker.{Taker}

-- the faults of arguments by themselves: they depend on no places and on no schema
abbrev pub AddsGivenFaults : Variables Place → Arguments Place → Vec Fault Global → Vec Fault Global → Type 0
AddsGivenFaults variables given old new = (at : Address → Place) (s : Judged) → Adds old new (GivenBreaks at s variables given)

-- the faults of what takes arguments under a schema, for places that tell where these arguments are defined
abbrev pub AddsTakerFaults : SchemaTree Place → Variables Place → Taker → Vec Fault Global → Vec Fault Global → Type 0
AddsTakerFaults s variables taker old new = (at : Address → Place) → TellsPlaces at s taker → Adds old new (TakerBreaks at (judged s) variables (taker_of taker))

-- the faults of the directives that are used at one place, under a schema
abbrev pub AddsUsesFaults : SchemaTree Place → Variables Place → DirectiveLocation → Directives Place → Vec Fault Global → Vec Fault Global → Type 0
AddsUsesFaults s variables location ds old new = Adds old new (UsesBreak (place_at s) (judged s) variables location ds)

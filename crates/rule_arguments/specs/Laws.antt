-- The rules on uses tell the same faults for directives at their places in a schema as for directives at their addresses.
use Rattle.std.specs.Prelude.{◌≡◌, ◌↔◌, [], map}
use Rattle.graphql_names.specs.Placed.{Place}
use Rattle.tree_directives.specs.DirectiveTree.{Directives, unplaced_directive}
use Rattle.tree_directives.specs.declared.directive_location.DirectiveLocation.{DirectiveLocation}
use Rattle.schema_types.specs.SchemaTree.{SchemaTree}
use Rattle.schema_types.specs.Addresses.{Address, place_at, directives_at}
use Rattle.rule_values.specs.in_rule_definitions.Spots.{At, spotted_directives}
use Rattle.rule_values.specs.in_rule_definitions.Judged.{judged}
use Rattle.rule_values.specs.in_rule_definitions.Uses.{UsesBreak}
use Rattle.rule_values.specs.in_rule_definitions.Rules.{SchemaUsesBreak}
use Rattle.rule_values.specs.in_rule_definitions.PlacedFaults.{PlacedFault, Told}
use Rattle.schema_types.specs.Distinct.{AreAllDistinct}
use Rattle.rule_arguments.specs.SchemaUses.{SchemaUses}

-- at one place of a schema
abbrev pub UsesToldInPlace : Type 0
UsesToldInPlace = (s : SchemaTree Place) (holder : Address) (location : DirectiveLocation) (ds : Directives Place) → directives_at s holder ≡ ds → (f : PlacedFault)
    → UsesBreak (place_at s) (judged s) [] location ds f ↔ Told s (λ j g. UsesBreak At j [] location (spotted_directives holder (map (λ d. unplaced_directive d.it) ds)) g) f

-- at all places of a schema, entry by entry
abbrev pub SchemaUsesTold : Type 0
SchemaUsesTold = (s : SchemaTree Place) → AreAllDistinct s → (f : PlacedFault) → SchemaUses s f ↔ Told s SchemaUsesBreak f

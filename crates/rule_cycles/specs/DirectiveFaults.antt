-- Private: leads to `RecursiveDirectiveDefinitionAt`. The faults of one directive. They are a relation, as the place of a definition's head is (section 3.13).
use Rattle.std.specs.Prelude.{◌≡◌, ℕ, List, [], ◌∷◌, map, reverse, filter_map, codes, slice_get, Option, None, Some}
use Rattle.graphql_names.specs.Placed.{Placed, Place}
use Rattle.graphql_names.specs.Places.{Recomposes}
use Rattle.tree_directives.specs.DirectiveTree.{DirectiveTree, DirectiveDefinitionTree, unplaced_directive}
use Rattle.schema_types.specs.SchemaTree.{SchemaTree}
use Rattle.fault_data.specs.in_rule_definitions.Diagnostics.{Diagnostic, RecursiveDirectiveDefinition, DeeplyNestedType}
use Rattle.fault_data.specs.in_rule_definitions.Faults.{wrong}
use Rattle.fault_data.specs.in_rule_definitions.PlacedFaults.{PlacedFault}
use Rattle.rule_cycles.specs.Labels.{labels}
use Rattle.rule_cycles.specs.UseNumbers.{Use, uses_at}

-- the directives among these uses
abbrev pub directives_of : List Use → List (Placed Place (DirectiveTree Place))
directives_of uses = filter_map (λ by. by) uses

abbrev pub plain_use : Placed Place (DirectiveTree Place) → Placed Place (DirectiveTree (Unit {0}))
plain_use d = record { it = unplaced_directive d.it; place = d.place }

-- l has one fault with this data, at the head of the definition; without a definition, none
abbrev pub AtHead : Option (List ℕ × Placed Place (DirectiveDefinitionTree Place)) → (List ℕ → Diagnostic Place (List Place)) → List PlacedFault → Type 0
AtHead None breach l = l ≡ []
AtHead (Some e) breach l = (place : Place) × (Recomposes e.1.place e.1.it.name.place place × (l ≡ wrong place (breach e.0) ∷ []))

module _ (s : SchemaTree Place) where
  -- the directives by which a path from the root refers, from the last to the first
  abbrev pub use_trace : ℕ → List ℕ → List (Placed Place (DirectiveTree Place))
  use_trace root path = reverse (directives_of (labels (uses_at s) root path))

  abbrev pub recursive_directive : ℕ → List ℕ → List ℕ → Diagnostic Place (List Place)
  recursive_directive root path n = RecursiveDirectiveDefinition n (map plain_use (use_trace root path))

  abbrev pub deep_directive : List ℕ → Diagnostic Place (List Place)
  deep_directive n = DeeplyNestedType n (codes "directive")

  -- l tells that the directive leads back to itself along this path; below, that a path from it is too long
  abbrev pub TellsDirective : ℕ → List ℕ → List PlacedFault → Type 0
  TellsDirective root path l = AtHead (slice_get s.directives root) (recursive_directive root path) l

  abbrev pub TellsDeepDirective : ℕ → List PlacedFault → Type 0
  TellsDeepDirective root l = AtHead (slice_get s.directives root) deep_directive l

-- Private: leads to `RecursiveInputObjectDefinitionAt`. The faults of one root, and what is told of the roots so far.
use Rattle.std.specs.Prelude.{◌≡◌, ℕ, List, [], ◌∷◌, map, reverse, codes, slice_get}
use Rattle.std.specs.Option.{option_map_or}
use Rattle.graphql_names.specs.Placed.{Placed, Place}
use Rattle.tree_directives.specs.DirectiveTree.{InputValueTree, unplaced_input_value}
use Rattle.schema_types.specs.SchemaTree.{SchemaTree}
use Rattle.fault_data.specs.in_rule_definitions.Diagnostics.{RecursiveInputObjectDefinition, DeeplyNestedType}
use Rattle.fault_data.specs.in_rule_definitions.Faults.{wrong}
use Rattle.rule_cycles.specs.Labels.{Labelled, labels}
use Rattle.rule_cycles.specs.Numbers.{Field, at_number, input_references}
use Rattle.fault_data.specs.in_rule_definitions.PlacedFaults.{PlacedFault}

module _ (s : SchemaTree Place) where
  abbrev pub input_fields_at : ℕ → Labelled Field
  input_fields_at i = at_number (input_references s.types) s.types i

  -- the fields by which a path from the root refers, from the last to the first
  abbrev pub input_trace : ℕ → List ℕ → List Field
  input_trace root path = reverse (labels input_fields_at root path)

  abbrev pub plain_field : Field → Placed Place (InputValueTree (Unit {0}))
  plain_field v = record { it = unplaced_input_value v.it; place = v.place }

  abbrev pub recursive_input_object_definition : ℕ → List ℕ → List PlacedFault
  recursive_input_object_definition root path = option_map_or (λ e. wrong e.1.place (RecursiveInputObjectDefinition e.0 (map plain_field (input_trace root path))) ∷ []) (slice_get s.types root) []

  abbrev pub deeply_nested_input_object : ℕ → List PlacedFault
  deeply_nested_input_object root = option_map_or (λ e. wrong e.1.place (DeeplyNestedType e.0 (codes "input object")) ∷ []) (slice_get s.types root) []

  -- l tells that fields lead from the root back to it along this path; below, that a path from it is too long
  abbrev pub TellsInput : ℕ → List ℕ → List PlacedFault → Type 0
  TellsInput root path l = l ≡ recursive_input_object_definition root path

  abbrev pub TellsDeepInput : ℕ → List PlacedFault → Type 0
  TellsDeepInput root l = l ≡ deeply_nested_input_object root

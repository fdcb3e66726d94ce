-- Private: leads to `Fragments.antt` of the rules' definitions. What the checks tell of single selections and fragments.
use Rattle.std.specs.Prelude.{ℕ, Bool, false, ◌&&◌, not, List, [], ◌∷◌, Option, None, Some, if◌then◌else◌}
use Rattle.std.specs.Option.{option_map_or}
use Rattle.graphql_names.specs.Placed.{Place}
use Rattle.schema_components.specs.Names.{Entries}
use Rattle.schema_types.specs.SchemaTree.{SchemaTree, is_leaf_kind, is_output_kind}
use Rattle.schema_types.specs.Addresses.{under, type_at}
use Rattle.spec_document.specs.MeantTree.{MeantSelection, MeantFragment}
use Rattle.rule_definitions.specs.Diagnostics.{UndefinedFragment, InvalidFragmentTarget}
use Rattle.rule_definitions.specs.Faults.{wrong}
use Rattle.rule_definitions.specs.PlacedFaults.{PlacedFault}
use Rattle.rule_document_definitions.specs.Selected.{spread_name, inline_condition, selection_place}

-- UndefinedFragment: what is told of a selection in a document with these fragments
abbrev pub undefined_fragment : Entries (MeantFragment Place) → MeantSelection Place → List PlacedFault
undefined_fragment fragments x = option_map_or (λ n. option_map_or (λ f. []) (under n fragments) (wrong (selection_place x) (UndefinedFragment n) ∷ [])) (spread_name x) []

module _ (s : SchemaTree Place) where
  -- the type of this name is defined, and is not composite
  abbrev pub is_no_composite : List ℕ → Bool
  is_no_composite n = option_map_or (λ t. not (is_output_kind t.kind && not (is_leaf_kind t.kind))) (type_at s n) false

  -- InvalidFragmentTarget: what is told of a fragment of this name, or of an inline fragment, on a type
  abbrev pub invalid_fragment_target : Place → Option (List ℕ) → List ℕ → List PlacedFault
  invalid_fragment_target place name ty = if is_no_composite ty then wrong place (InvalidFragmentTarget name ty) ∷ [] else []

  abbrev pub fragment_target : MeantFragment Place → List PlacedFault
  fragment_target f = invalid_fragment_target f.place (Some f.name.it) f.type_condition.it

  -- what is told of a selection, if it is an inline fragment with a condition
  abbrev pub inline_target : MeantSelection Place → List PlacedFault
  inline_target x = option_map_or (λ c. invalid_fragment_target (selection_place x) None c) (inline_condition x) []

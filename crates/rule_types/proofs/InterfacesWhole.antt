-- All that is told of a schema tells the rules on interfaces.
use Rattle.std.proofs.Common.{◌≡◌, ℕ, ◌↔◌, List, map, sym, ap, ◌∙◌, Contains}
use Rattle.std.specs.List.{flat_map}
use Rattle.std.proofs.lemmas.List.Folds.{flat_map-map}
use Rattle.graphql_names.specs.NameValue.{NameValue}
use Rattle.graphql_names.specs.Placed.{Place, Text}
use Rattle.tree_type_members.specs.TypeSystemTree.{field_definition_tree}
use Rattle.tree_type_members.specs.declared.field_definition.FieldDefinition.{FieldDefinition}
use Rattle.schema_components.specs.Given.{Given, component_tree}
use Rattle.schema_components.specs.declared.component.Component.{Component}
use Rattle.schema_types.specs.SchemaTree.{SchemaType, SchemaTree}
use Rattle.schema_types.specs.TypeView.{name_text, extended_type}
use Rattle.schema_types.specs.declared.extended_type.ExtendedType.{ExtendedType}
use Rattle.fault_data.specs.Room.{◌⊕◌}
use Rattle.fault_data.specs.in_rule_definitions.Judged.{judged}
use Rattle.fault_data.specs.in_rule_definitions.Rules.{InterfacesBreak}
use Rattle.fault_data.specs.in_rule_definitions.PlacedFaults.{PlacedFault, Told}
use Rattle.schema_types.specs.Distinct.{AreAllDistinct}
use Rattle.fault_data.specs.in_rule_definitions.Words.{Among}
use Rattle.fault_data.proofs.in_rule_definitions.Lookups.{under_given}
use Rattle.fault_data.proofs.in_rule_definitions.Tells.{Tells, tells_same, tells_list, tells_entries}
use Rattle.fault_data.proofs.Judgings.{type_seen, type_look}
use Rattle.rule_types.specs.InterfaceFaults.{Field, field_faults, fields_faults, each_field_faults, type_faults, types_faults}
use Rattle.rule_types.proofs.InterfacesByPlace.{InterfaceBreaks, PlacesBreak, to_places, from_places}
use Rattle.rule_types.proofs.Says.{Is}
use Rattle.rule_types.proofs.InterfacesSays.{says_interfaces}

module _ (s : SchemaTree Place) where
  -- the entries of a map
  pub fields_same : (n : List ℕ) (t : SchemaType Place) (i : Text Place) (es : List (NameValue × Component FieldDefinition))
      → each_field_faults s n t i es ≡ fields_faults s n t i (map (λ e. (name_text e.0, component_tree field_definition_tree e.1)) es)
  fields_same n t i es = sym (flat_map-map (λ (e : List ℕ × Given Place Field). field_faults s n t i e.0 e.1.it) (λ (e : NameValue × Component FieldDefinition). (name_text e.0, component_tree field_definition_tree e.1)) es)

  types_same : (es : List (NameValue × ExtendedType)) → types_faults s es ≡ flat_map (λ (e : List ℕ × SchemaType Place). type_faults s e.0 e.1) (map (λ e. (name_text e.0, extended_type e.1)) es)
  types_same es = sym (flat_map-map (λ (e : List ℕ × SchemaType Place). type_faults s e.0 e.1) (λ (e : NameValue × ExtendedType). (name_text e.0, extended_type e.1)) es)

  says_all : AreAllDistinct s → (types : List (NameValue × ExtendedType)) → s.types ≡ map (λ e. (name_text e.0, extended_type e.1)) types → Tells (Is s) (types_faults s types) (λ g. InterfacesBreak (judged s) g)
  says_all distinct types are =
      tells_list (Is s) (flat_map (λ (e : List ℕ × SchemaType Place). type_faults s e.0 e.1) s.types) (types_faults s types) (λ g. InterfacesBreak (judged s) g)
      (ap (flat_map (λ (e : List ℕ × SchemaType Place). type_faults s e.0 e.1)) are ∙ sym (types_same types))
      (tells_same (Is s) _ (λ g. PlacesBreak (judged s) g) (λ g. InterfacesBreak (judged s) g) (λ g. (from_places (judged s) g, to_places (judged s) g))
      (tells_entries (Is s) type_seen s.types distinct.types (judged s).type_named (type_look s) (type_faults s) (λ n t g. Among t.implements (λ i. InterfaceBreaks (judged s) g n t i)) (λ n t there.
      says_interfaces s n t there (distinct.parts (n, t) (under_given n s.types t there)) (λ m over is_there. distinct.parts (m, over) (under_given m s.types over is_there)))))

-- what is told after other faults
pub told_after : (s : SchemaTree Place) → AreAllDistinct s → (types : List (NameValue × ExtendedType)) → s.types ≡ map (λ e. (name_text e.0, extended_type e.1)) types
    → (old new : List PlacedFault) → new ≡ old ⊕ types_faults s types → (added : List PlacedFault) × ((new ≡ old ⊕ added) × ((f : PlacedFault) → Contains added f ↔ Told s InterfacesBreak f))
told_after s distinct types are old new is = (types_faults s types, (is, says_all s distinct types are))

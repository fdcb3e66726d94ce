-- All that is told of a schema tells the rules of this crate.
use Rattle.std.proofs.Common.{◌≡◌, ℕ, ◌↔◌, List, [], ◌∷◌, ◌++◌, map, refl, sym, ap, ◌∙◌, Contains}
use Rattle.std.specs.List.{flat_map}
use Rattle.std.proofs.lemmas.List.{append-nil}
use Rattle.std.proofs.lemmas.List.Folds.{flat_map-map}
use Rattle.graphql_names.specs.NameValue.{NameValue}
use Rattle.graphql_names.specs.Node.{content}
use Rattle.graphql_names.specs.Placed.{Placed, Place, node_tree}
use Rattle.graphql_names.specs.declared.node.Node.{Node}
use Rattle.tree_directives.specs.DirectiveTree.{InputValueTree, DirectiveDefinitionTree, input_value_tree, directive_definition_tree}
use Rattle.tree_directives.specs.declared.directive.DirectiveDefinition.{DirectiveDefinition}
use Rattle.tree_directives.specs.declared.input_value.InputValueDefinition.{InputValueDefinition}
use Rattle.tree_type_members.specs.TypeSystemTree.{FieldDefinitionTree, EnumValueTree, field_definition_tree, enum_value_tree}
use Rattle.tree_type_members.specs.declared.field_definition.FieldDefinition.{FieldDefinition}
use Rattle.tree_type_members.specs.declared.enum_value.EnumValueDefinition.{EnumValueDefinition}
use Rattle.schema_components.specs.Given.{Given, component_tree}
use Rattle.schema_components.specs.declared.component.Component.{Component}
use Rattle.graphql_names.specs.Places.{is_built_in}
use Rattle.schema_types.specs.SchemaTree.{SchemaType, SchemaTree, kind_words}
use Rattle.schema_types.specs.Plain.{plain_directive_definition}
use Rattle.schema_types.specs.TypeView.{name_text, extended_type}
use Rattle.schema_types.specs.declared.extended_type.ExtendedType.{ExtendedType}
use Rattle.schema_types.specs.declared.extended_type.ExtendedType.TheVariants as rust
use Rattle.fault_data.specs.Room.{◌⊕◌}
use Rattle.fault_data.specs.in_rule_definitions.Diagnostics.{Diagnostic, EmptyFieldSet, EmptyValueSet, EmptyInputValueSet}
use Rattle.fault_data.specs.in_rule_definitions.Faults.{wrong}
use Rattle.fault_data.specs.in_rule_definitions.Judged.{judged}
use Rattle.fault_data.specs.in_rule_definitions.Rules.{extension_places}
use Rattle.fault_data.specs.in_rule_definitions.PlacedFaults.{PlacedFault, Told}
use Rattle.rule_types.specs.TypesBreak.{TypesBreak}
use Rattle.schema_types.specs.Distinct.{AreAllDistinct}
use Rattle.rule_types.specs.FaultLists.{if_none, reserved_name, value_faults, field_faults, input_faults, parts_faults, types_faults, directive_faults, directives_faults, roots_faults, all_faults}
use Rattle.fault_data.proofs.in_rule_definitions.Lookups.{under_given}
use Rattle.fault_data.proofs.Judgings.{type_seen, type_look, directive_look}
use Rattle.rule_types.proofs.ByPlace.{TypeBreaks, DirectiveBreaks, PlacesBreak, to_places, from_places}
use Rattle.fault_data.proofs.in_rule_definitions.Tells.{Tells, tells_same, tells_list, tells_both, tells_entries}
use Rattle.rule_types.proofs.Says.{Is, all_parts, says_type, says_directive}
use Rattle.rule_types.proofs.RootFaults.{says_roots}

none_mapped : {X Y Z : Type 0} (f : X → Y) (xs : List X) (z : Z) → if_none xs z ≡ if_none (map f xs) z
none_mapped f [] z = refl
none_mapped f (x ∷ xs) z = refl

abbrev told_of : Diagnostic Place (List Place) → SchemaType Place → PlacedFault
told_of breach t = wrong t.place breach

module _ (s : SchemaTree Place) where
  -- a type has no parts but those of its kind
  parts_same : (n : List ℕ) (x : ExtendedType) → parts_faults s n x ≡ all_parts s n (extended_type x)
  parts_same n (rust.Scalar t) = refl
  parts_same n (rust.Object t) =
      let es = (content t).fields.entries in
      let x = extended_type (rust.Object t) in
      (λ i. none_mapped {Y = List ℕ × Given Place (Placed Place (FieldDefinitionTree Place))} (λ (e : NameValue × Component FieldDefinition). (name_text e.0, component_tree field_definition_tree e.1)) es (told_of (EmptyFieldSet n x.place (extension_places x)) x) i
      ++ sym (flat_map-map (λ (e : List ℕ × Given Place (Placed Place (FieldDefinitionTree Place))). field_faults s e.0 e.1.it) (λ (e : NameValue × Component FieldDefinition). (name_text e.0, component_tree field_definition_tree e.1)) es) i)
      ∙ sym (append-nil _)
  parts_same n (rust.Interface t) =
      let es = (content t).fields.entries in
      let x = extended_type (rust.Interface t) in
      (λ i. none_mapped {Y = List ℕ × Given Place (Placed Place (FieldDefinitionTree Place))} (λ (e : NameValue × Component FieldDefinition). (name_text e.0, component_tree field_definition_tree e.1)) es (told_of (EmptyFieldSet n x.place (extension_places x)) x) i
      ++ sym (flat_map-map (λ (e : List ℕ × Given Place (Placed Place (FieldDefinitionTree Place))). field_faults s e.0 e.1.it) (λ (e : NameValue × Component FieldDefinition). (name_text e.0, component_tree field_definition_tree e.1)) es) i)
      ∙ sym (append-nil _)
  parts_same n (rust.Union t) = sym (append-nil _)
  parts_same n (rust.Enum t) =
      let es = (content t).values.entries in
      let x = extended_type (rust.Enum t) in
      (λ i. none_mapped {Y = List ℕ × Given Place (Placed Place (EnumValueTree Place))} (λ (e : NameValue × Component EnumValueDefinition). (name_text e.0, component_tree enum_value_tree e.1)) es (told_of (EmptyValueSet n x.place (extension_places x)) x) i
      ++ sym (flat_map-map (λ (e : List ℕ × Given Place (Placed Place (EnumValueTree Place))). value_faults e.0 e.1.it) (λ (e : NameValue × Component EnumValueDefinition). (name_text e.0, component_tree enum_value_tree e.1)) es) i)
      ∙ sym (append-nil _)
  parts_same n (rust.InputObject t) =
      let es = (content t).fields.entries in
      let x = extended_type (rust.InputObject t) in
      (λ i. none_mapped {Y = List ℕ × Given Place (Placed Place (InputValueTree Place))} (λ (e : NameValue × Component InputValueDefinition). (name_text e.0, component_tree input_value_tree e.1)) es (told_of (EmptyInputValueSet n x.place (extension_places x)) x) i
      ++ sym (flat_map-map (λ (e : List ℕ × Given Place (Placed Place (InputValueTree Place))). input_faults s e.0 e.1.it) (λ (e : NameValue × Component InputValueDefinition). (name_text e.0, component_tree input_value_tree e.1)) es) i)

  abbrev whole_faults : List ℕ → SchemaType Place → List PlacedFault
  whole_faults n t = reserved_name (is_built_in t.place) n t.name.place (kind_words t.kind) ++ all_parts s n t

  types_same : (es : List (NameValue × ExtendedType)) → types_faults s es ≡ flat_map (λ (e : List ℕ × SchemaType Place). whole_faults e.0 e.1) (map (λ e. (name_text e.0, extended_type e.1)) es)
  types_same [] = refl
  types_same (e ∷ es) = λ i.
      (reserved_name (is_built_in (extended_type e.1).place) (name_text e.0) (extended_type e.1).name.place (kind_words (extended_type e.1).kind) ++ parts_same (name_text e.0) e.1 i) ++ types_same es i

  directives_same : (es : List (NameValue × Node DirectiveDefinition))
      → directives_faults s es ≡ flat_map (λ (e : List ℕ × Placed Place (DirectiveDefinitionTree Place)). directive_faults s e.0 e.1) (map (λ e. (name_text e.0, node_tree directive_definition_tree e.1)) es)
  directives_same es =
      sym (flat_map-map (λ (e : List ℕ × Placed Place (DirectiveDefinitionTree Place)). directive_faults s e.0 e.1) (λ (e : NameValue × Node DirectiveDefinition). (name_text e.0, node_tree directive_definition_tree e.1)) es)

  says_places : AreAllDistinct s → Tells (Is s) (roots_faults s ++ (flat_map (λ (e : List ℕ × SchemaType Place). whole_faults e.0 e.1) s.types ++ flat_map (λ (e : List ℕ × Placed Place (DirectiveDefinitionTree Place)). directive_faults s e.0 e.1) s.directives)) (λ g. PlacesBreak (judged s) g)
  says_places distinct =
      tells_both (Is s) (roots_faults s) _ _ _ (says_roots s)
      (tells_both (Is s) (flat_map (λ (e : List ℕ × SchemaType Place). whole_faults e.0 e.1) s.types) (flat_map (λ (e : List ℕ × Placed Place (DirectiveDefinitionTree Place)). directive_faults s e.0 e.1) s.directives) _ _
      (tells_entries (Is s) type_seen s.types distinct.types (judged s).type_named (type_look s) whole_faults (λ n t g. TypeBreaks (judged s) g n t) (λ n t there.
      says_type s n t there (distinct.parts (n, t) (under_given n s.types t there))))
      (tells_entries (Is s) plain_directive_definition s.directives distinct.directives (judged s).directive (directive_look s) (directive_faults s) (λ n d g. DirectiveBreaks (judged s) g n d) (says_directive s)))

  says_all : AreAllDistinct s → (types : List (NameValue × ExtendedType)) → s.types ≡ map (λ e. (name_text e.0, extended_type e.1)) types
      → (directives : List (NameValue × Node DirectiveDefinition)) → s.directives ≡ map (λ e. (name_text e.0, node_tree directive_definition_tree e.1)) directives
      → Tells (Is s) (all_faults s types directives) (λ g. TypesBreak (judged s) g)
  says_all distinct types are directives are' =
      let same : flat_map (λ (e : List ℕ × SchemaType Place). whole_faults e.0 e.1) s.types ≡ types_faults s types = ap (flat_map (λ (e : List ℕ × SchemaType Place). whole_faults e.0 e.1)) are ∙ sym (types_same types) in
      let same' : flat_map (λ (e : List ℕ × Placed Place (DirectiveDefinitionTree Place)). directive_faults s e.0 e.1) s.directives ≡ directives_faults s directives =
      ap (flat_map (λ (e : List ℕ × Placed Place (DirectiveDefinitionTree Place)). directive_faults s e.0 e.1)) are' ∙ sym (directives_same directives) in
      tells_list (Is s) (roots_faults s ++ (flat_map (λ (e : List ℕ × SchemaType Place). whole_faults e.0 e.1) s.types ++ flat_map (λ (e : List ℕ × Placed Place (DirectiveDefinitionTree Place)). directive_faults s e.0 e.1) s.directives))
      (all_faults s types directives) (λ g. TypesBreak (judged s) g) (λ i. roots_faults s ++ (same i ++ same' i))
      (tells_same (Is s) _ (λ g. PlacesBreak (judged s) g) (λ g. TypesBreak (judged s) g) (λ g. (from_places (judged s) g, to_places (judged s) g)) (says_places distinct))

-- what is told after other faults
pub told_after : (s : SchemaTree Place) → AreAllDistinct s → (types : List (NameValue × ExtendedType)) → s.types ≡ map (λ e. (name_text e.0, extended_type e.1)) types
    → (directives : List (NameValue × Node DirectiveDefinition)) → s.directives ≡ map (λ e. (name_text e.0, node_tree directive_definition_tree e.1)) directives
    → (old new : List PlacedFault) → new ≡ old ⊕ all_faults s types directives → (added : List PlacedFault) × ((new ≡ old ⊕ added) × ((f : PlacedFault) → Contains added f ↔ Told s TypesBreak f))
told_after s distinct types are directives are' old new is = (all_faults s types directives, (is, says_all s distinct types are directives are'))

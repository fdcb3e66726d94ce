-- A field as what takes arguments, by the definition that the schema has.
use Rattle.std.proofs.Common.{◌≡◌, ◌∙◌, List, ap, sym, Some, slice_get}
use Rattle.std.specs.Option.{option_map}
use Rattle.graphql_names.specs.Node.{content, place}
use Rattle.graphql_names.specs.NameValue.{NameValue}
use Rattle.graphql_names.specs.Placed.{Place}
use Rattle.graphql_names.specs.declared.node.Node.{Node}
use Rattle.tree_directives.specs.DirectiveTree.{input_value_trees}
use Rattle.schema_coordinates.specs.Coordinate.{OfAttribute, OfArgument}
use Rattle.tree_directives.specs.declared.directive.Argument.{Argument}
use Rattle.tree_directives.specs.declared.input_value.InputValueDefinition.{InputValueDefinition}
use Rattle.tree_type_members.specs.TypeSystemTree.{FieldDefinitionTree, field_definition_tree, unplaced_field_definition}
use Rattle.tree_type_members.specs.declared.field_definition.FieldDefinition.{FieldDefinition}
use Rattle.schema_components.specs.Given.{component_tree, plain_given}
use Rattle.schema_components.specs.declared.component.Component.{Component}
use Rattle.schema_types.specs.SchemaTree.{SchemaTree}
use Rattle.schema_types.specs.Addresses.{FieldAt, ArgumentAt, TypeReferenceAt}
use Rattle.schema_types.specs.Plain.{plain}
use Rattle.document_typing.specs.Meanings.{meanings}
use Rattle.graphql_schema.specs.LookUps.{field_named}
use Rattle.graphql_schema.proofs.FieldLooks.{fields_plain}
use Rattle.document_typed_selections.specs.declared.selection.Field.{Field}
use Rattle.rule_document_definitions.specs.Selections.{field_taker}
use Rattle.rule_document_definitions.specs.PlacedDocumentFaults.{place_or_built_in, places_in}
use Rattle.rule_arguments.specs.Trees.{arguments_of, plain_inputs, holder_of, TellsPlaces}
use Rattle.rule_arguments.specs.declared.taker.Taker.{Taker as Rust}
use Rattle.rule_selections.specs.SelectionFaults.{standing_field, IsDefined}
use Rattle.rule_selections.proofs.FieldPlaces.{stands, some_is}
use Rattle.rule_selections.proofs.SameUses.{alike}

module _ (s : SchemaTree Place) (parent : NameValue) (n : Node Field) (f : Field) (is : f ≡ content n) (c : Component FieldDefinition) (found : field_named s parent.text f.name.text ≡ Some (component_tree field_definition_tree c)) where
  same_name : f.name.text ≡ (content n).name.text
  same_name = ap (λ (g : Field). g.name.text) is

  -- the document's own copy of the definition says the same, apart from places
  same_definition : IsDefined s (standing_field parent n) → unplaced_field_definition (field_definition_tree (content c.node)) ≡ (standing_field parent n).definition
  same_definition typed = some_is _ _ (
      sym (ap (option_map (plain_given unplaced_field_definition)) found)
      ∙ fields_plain s parent.text f.name.text
      ∙ ap ((meanings (plain s)).field parent.text) same_name
      ∙ typed)

  module _ (location definition_location : Place) (given : List (Node Argument)) (definitions : List (Node InputValueDefinition))
      (here : location ≡ place n) (there : definition_location ≡ place c.node) (same_given : arguments_of given ≡ arguments_of f.arguments.items) (same_inputs : input_value_trees definitions ≡ input_value_trees (content c.node).arguments.items) where
    pub same_taker : IsDefined s (standing_field parent n)
        → record {
          place = location;
          given = arguments_of given;
          holder = FieldAt parent.text f.name.text;
          definitions = plain_inputs (input_value_trees definitions);
          definition_location = definition_location;
          coordinate = OfAttribute parent.text f.name.text;
          argument_coordinate = OfArgument parent.text f.name.text;
        } ≡ field_taker (places_in s) (standing_field parent n)
    same_taker typed =
        let given' = same_given ∙ ap (λ (g : Field). arguments_of g.arguments.items) is in
        let definitions' = ap plain_inputs same_inputs ∙ ap (λ (d : FieldDefinitionTree (Unit {0})). d.arguments) (same_definition typed) in
        let location' = there ∙ sym (stands s parent.text f.name.text _ found).place ∙ ap (λ m. place_or_built_in s (FieldAt parent.text m)) same_name in
        λ i. record {
          place = here i;
          given = given' i;
          holder = FieldAt parent.text (same_name i);
          definitions = definitions' i;
          definition_location = location' i;
          coordinate = OfAttribute parent.text (same_name i);
          argument_coordinate = OfArgument parent.text (same_name i);
        }

    pub tells_places : (t : Rust) → holder_of t.name ≡ FieldAt parent.text f.name.text → t.definitions.now ≡ definitions → TellsPlaces (place_or_built_in s) s t
    tells_places t holder of = record {
      schema = alike s;
      arguments = λ i v at.
          let e = (stands s parent.text f.name.text _ found).arguments i v (sym (ap (λ l. slice_get l i) (ap input_value_trees of ∙ same_inputs)) ∙ at) in
          (ap (λ h. place_or_built_in s (ArgumentAt h i)) holder ∙ e.0, ap (λ h. place_or_built_in s (TypeReferenceAt (ArgumentAt h i))) holder ∙ e.1);
    }

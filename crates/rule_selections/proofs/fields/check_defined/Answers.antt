use Rattle.std.proofs.Common.{List, map, ◌∙◌, refl, ap, sym, subst, true≢false, is_some}
use Rattle.std.proofs.lemmas.Result.{on_ok_weaker}
use Rattle.graphql_names.specs.Placed.{Place}
use Rattle.tree_directives.specs.DirectiveTree.{input_value_trees}
use Rattle.graphql_schema.specs.SchemaOf.{schema_tree}
use Rattle.graphql_schema.specs.LookUps.{IsFieldNamed, FieldIsMissing}
use Rattle.schema_components.specs.Given.{component_tree}
use Rattle.document_typed_selections.specs.declared.selection.Field.{Field}
use Rattle.schema_types.specs.Plain.{plain}
use Rattle.document_typing.specs.Meanings.{meanings}
use Rattle.rule_selections.proofs.AbsentFields.{field_absent}
use Rattle.fault_data.specs.Adds.{Adds}
use Rattle.rule_definitions.specs.Judged.{judged}
use Rattle.rule_definitions.specs.Uses.{Taker, TakerBreaks}
use Rattle.rule_arguments.specs.in_rule_values.Wanting.{variables_of}
use Rattle.rule_document_definitions.specs.PlacedDocumentFaults.{place_or_built_in}
use Rattle.rule_arguments.specs.Trees.{arguments_of}
use Rattle.tree_directives.specs.DirectiveTree.{argument_tree}
use Rattle.tree_directives.specs.declared.input_value.InputValueDefinition.{InputValueDefinition}
use Rattle.tree_type_members.specs.TypeSystemTree.{field_definition_tree, unplaced_field_definition}
use Rattle.document_typed_selections.specs.TypedParts.{typed_head}
use Rattle.graphql_names.specs.Node.{content}
use Rattle.graphql_names.specs.Placed.{node_tree}
use Rattle.graphql_names.specs.declared.node.Node.{Node}
use Rattle.fault_data.specs.FaultView.{faults_of}
use Rattle.rule_document_definitions.specs.Selections.{field_taker}
use Rattle.rule_document_definitions.specs.PlacedDocumentFaults.{places_in}
use Rattle.rule_arguments.specs.Trees.{plain_inputs}
use Rattle.rule_selections.specs.SelectionFaults.{standing_field}
use Rattle.rule_definitions.proofs.Adding.{gains_nothing}
use Rattle.rule_selections.proofs.NoArguments.{none_break}
use Rattle.rule_selections.proofs.Takers.{same_taker, tells_places}
use Rattle.rule_selections.proofs.fields.check_defined.Goals as goal

pub returns-in_default : goal.returns-in_default
returns-in_default c defined =
    let s = schema_tree c.args.schema.now in
    let n = c.args.parent.now.text in
    let f = c.content-selected.result.now in
    let missing = subst (λ x. FieldIsMissing (schema_tree x) n f.name.text c.in_default.field-0) c.schema.ensures c.in_default.ensures.missing in
    let none = field_absent s n f.name.text c.in_default.field-0 missing in
    absurd (true≢false (sym (ap is_some (none ∙ ap (λ (g : Field). (meanings (plain s)).field n g.name.text) c.content-selected.ensures ∙ defined))))

pub arguments_of_field-defined-requires : goal.arguments_of_field-defined-requires
arguments_of_field-defined-requires c =
    subst (λ x. IsFieldNamed (schema_tree x) c.args.parent.now.text c.content-selected.result.now.name.text (component_tree field_definition_tree c.in-Ok.definition.now)) c.schema.ensures c.in-Ok.ensures.found

pub returns : goal.returns
returns c =
    let s = schema_tree c.args.schema.now in
    let vs = variables_of c.args.variables.now in
    let f = c.content-selected.result.now in
    let component = c.in-Ok.definition.now in
    let found = subst (λ x. IsFieldNamed (schema_tree x) c.args.parent.now.text f.name.text (component_tree field_definition_tree component)) c.schema.ensures c.in-Ok.ensures.found in
    let given = c.as_slice.result.now in
    let definitions = c.arguments_of_field-defined.result in
    let same_inputs = ap input_value_trees c.arguments_of_field-defined.ensures in
    on_ok_weaker c.check_taken.result
    (λ h defined. subst (λ (t : Taker Place). Adds c.args.faults.now c.check_taken.new.faults (TakerBreaks (place_or_built_in s) (judged s) vs t))
    (same_taker s c.args.parent.now c.args.field.now f c.content-selected.ensures component found c.location.result c.location-2.result given definitions c.location.ensures c.location-2.ensures (ap arguments_of c.as_slice.ensures.value) same_inputs defined)
    (h (place_or_built_in s) (tells_places s c.args.parent.now c.args.field.now f c.content-selected.ensures component found c.location.result c.location-2.result given definitions c.location.ensures c.location-2.ensures (ap arguments_of c.as_slice.ensures.value) same_inputs _ refl refl)))
    c.check_taken.ensures

pub returns-then-is_without_arguments : goal.returns-then-is_without_arguments
returns-then-is_without_arguments c =
    let s = schema_tree c.args.schema.now in
    let is = sym c.content-selected.ensures in
    let given = ap (λ (g : Field). (typed_head g).arguments) is ∙ ap (map (node_tree argument_tree)) (c.is_without_arguments.ensures.given c.if-is_without_arguments.true) in
    let defined = ap (λ (g : Field). (unplaced_field_definition (field_definition_tree (content g.definition))).arguments) is ∙ ap (λ (l : List (Node InputValueDefinition)). plain_inputs (input_value_trees l)) (c.is_without_arguments.ensures.defined c.if-is_without_arguments.true) in
    λ _. gains_nothing (faults_of c.args.faults.now) _ (none_break (place_or_built_in s) (judged s) (variables_of c.args.variables.now) (field_taker (places_in s) (standing_field c.args.parent.now c.args.field.now)) given defined)

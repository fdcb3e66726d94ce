use Rattle.std.proofs.Common.{◌∙◌, List, ap, subst}
use Rattle.std.proofs.lemmas.Result.{on_ok_weaker}
use Rattle.graphql_names.specs.Placed.{Placed, Place}
use Rattle.graphql_names.specs.declared.node.Node.{Node}
use Rattle.tree_directives.specs.declared.directive.Argument.{Argument}
use Rattle.tree_directives.specs.declared.input_value.InputValueDefinition.{InputValueDefinition}
use Rattle.tree_type_members.specs.TypeSystemTree.{FieldDefinitionTree, field_definition_tree}
use Rattle.schema_components.specs.Given.{Given, component_tree}
use Rattle.document_typed_selections.specs.TypedParts.{typed_head}
use Rattle.graphql_schema.specs.SchemaOf.{schema_tree}
use Rattle.graphql_schema.specs.LookUps.{IsFieldNamed, FieldIsMissing, field_named}
use Rattle.rule_definitions.specs.Room.{◌⊕◌}
use Rattle.strict_documents.specs.Departing.{given_departures, plain_inputs}
use Rattle.strict_documents.specs.Given.{schema_of, variables_in, given_departures_of}
use Rattle.strict_documents.specs.DepartureViews.{departures_of}
use Rattle.strict_documents.proofs.Found.{nothing_told, found_told}
use Rattle.strict_documents.proofs.Walked.{missing_field}
use Rattle.strict_documents.proofs.arguments.tell_field.Goals as goal

pub arguments_of_field-defined-requires : goal.arguments_of_field-defined-requires
arguments_of_field-defined-requires c =
    subst (λ x. IsFieldNamed (schema_tree x) c.args.parent.now.text c.args.field.now.name.text (component_tree field_definition_tree c.in-Ok.definition.now)) c.schema.ensures c.in-Ok.ensures.found

pub returns-in-Err : goal.returns-in-Err
returns-in-Err c =
    let s = schema_of c.args.strictness.now in
    let f = c.args.field.now in
    let missing = subst (λ x. FieldIsMissing (schema_tree x) c.args.parent.now.text f.name.text c.in-Err.field-0) c.schema.ensures c.in-Err.ensures.missing in
    nothing_told (λ (d : Given Place (Placed Place (FieldDefinitionTree Place))). given_departures s (variables_in c.args.strictness.now) (plain_inputs d.it.it.arguments) (typed_head f).arguments) (departures_of c.args.departures.now)
    (field_named s c.args.parent.now.text f.name.text) (missing_field s c.args.parent.now.text f.name.text c.in-Err.field-0 missing)

pub returns-in-Ok : goal.returns-in-Ok
returns-in-Ok c =
    let s = schema_of c.args.strictness.now in
    let f = c.args.field.now in
    let old = departures_of c.args.departures.now in
    let component = c.in-Ok.definition.now in
    let found = subst (λ x. IsFieldNamed (schema_tree x) c.args.parent.now.text f.name.text (component_tree field_definition_tree component)) c.schema.ensures c.in-Ok.ensures.found in
    on_ok_weaker c.tell_given.result
    (λ told. found_told (λ (d : Given Place (Placed Place (FieldDefinitionTree Place))). given_departures s (variables_in c.args.strictness.now) (plain_inputs d.it.it.arguments) (typed_head f).arguments) old
    (field_named s c.args.parent.now.text f.name.text) (component_tree field_definition_tree component) (departures_of c.tell_given.new.departures) found
    (told
    ∙ ap (λ (l : List (Node Argument)). old ⊕ given_departures_of c.args.strictness.now c.arguments_of_field-defined.result l) c.as_slice.ensures.value
    ∙ ap (λ (l : List (Node InputValueDefinition)). old ⊕ given_departures_of c.args.strictness.now l f.arguments.items) c.arguments_of_field-defined.ensures))
    c.tell_given.ensures

use Rattle.std.proofs.Common.{Bor, sym, ap, ◌∙◌}
use Rattle.graphql_coords.specs.LookUpView.{answer}
use Rattle.graphql_coords.specs.declared.lookup_answers.SchemaLookupError.TheVariants as error
use Rattle.graphql_schema.proofs.Lookups.{got}
use Rattle.graphql_coords.proofs.Answering.{answer_ok_or}
use Rattle.tree_type_members.specs.TypeSystemTree.{field_definition_tree}
use Rattle.tree_type_members.specs.declared.field_definition.FieldDefinition.{FieldDefinition}
use Rattle.schema_components.specs.Names.{entries_of}
use Rattle.schema_components.specs.Given.{component_tree}
use Rattle.schema_components.specs.declared.component.Component.{Component}
use Rattle.graphql_schema.specs.in_schema_types.TypeView.{name_text, extended_type}
use Rattle.graphql_schema.specs.in_schema_types.Addresses.{under}
use Rattle.graphql_coords.specs.LookUps.{field_in}
use Rattle.graphql_schema.specs.in_schema_types.declared.kinds.ObjectType.{ObjectType}
use Rattle.graphql_schema.specs.in_schema_types.declared.kinds.InterfaceType.{InterfaceType}
use Rattle.graphql_coords.proofs.find.field_in.Goals as goal

pub returns-in-Object : goal.returns-in-Object
returns-in-Object c =
    let view = λ (f : Bor (Component FieldDefinition)). component_tree field_definition_tree f.now in
    ap (answer view) c.ok_or.ensures.value
    ∙ answer_ok_or view (error.MissingAttribute c.args.name) c.get-found.result _
    (got (component_tree field_definition_tree) c.args.name.now c.content.result.now.fields c.get-found.result c.get-found.ensures.value
    ∙ ap (λ (o : ObjectType). under c.args.name.now.text (entries_of name_text (component_tree field_definition_tree) o.fields)) c.content.ensures)
    ∙ ap (λ t. field_in c.args.name.now.text (extended_type t)) (sym c.in-Object.is)

pub returns-in-Interface : goal.returns-in-Interface
returns-in-Interface c =
    let view = λ (f : Bor (Component FieldDefinition)). component_tree field_definition_tree f.now in
    ap (answer view) c.ok_or-in-Interface.ensures.value
    ∙ answer_ok_or view (error.MissingAttribute c.args.name) c.get-found-in-Interface.result _
    (got (component_tree field_definition_tree) c.args.name.now c.content-in-Interface.result.now.fields c.get-found-in-Interface.result c.get-found-in-Interface.ensures.value
    ∙ ap (λ (o : InterfaceType). under c.args.name.now.text (entries_of name_text (component_tree field_definition_tree) o.fields)) c.content-in-Interface.ensures)
    ∙ ap (λ t. field_in c.args.name.now.text (extended_type t)) (sym c.in-Interface.is)

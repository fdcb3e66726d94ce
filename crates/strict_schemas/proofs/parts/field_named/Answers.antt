use Rattle.std.proofs.Common.{sym, ap, ◌∙◌}
use Rattle.tree_type_members.specs.TypeSystemTree.{field_definition_tree}
use Rattle.schema_components.specs.Names.{entries_of}
use Rattle.schema_components.specs.Given.{component_tree}
use Rattle.schema_types.specs.Addresses.{under}
use Rattle.schema_types.specs.TypeView.{name_text, extended_type}
use Rattle.schema_types.specs.declared.extended_type.ExtendedType.{ExtendedType}
use Rattle.schema_types.specs.declared.kinds.ObjectType.{ObjectType}
use Rattle.schema_types.specs.declared.kinds.InterfaceType.{InterfaceType}
use Rattle.graphql_schema.proofs.Lookups.{got}
use Rattle.strict_schemas.proofs.parts.field_named.Goals as goal

pub returns-in-Object : goal.returns-in-Object
returns-in-Object c =
    got (component_tree field_definition_tree) c.args.name.now c.content.result.now.fields c.get.result c.get.ensures.value
    ∙ ap (λ (t : ObjectType). under c.args.name.now.text (entries_of name_text (component_tree field_definition_tree) t.fields)) c.content.ensures
    ∙ ap (λ (t : ExtendedType). under c.args.name.now.text (extended_type t).fields) (sym c.in-Object.is)

pub returns-in-Interface : goal.returns-in-Interface
returns-in-Interface c =
    got (component_tree field_definition_tree) c.args.name.now c.content-in-Interface.result.now.fields c.get-in-Interface.result c.get-in-Interface.ensures.value
    ∙ ap (λ (t : InterfaceType). under c.args.name.now.text (entries_of name_text (component_tree field_definition_tree) t.fields)) c.content-in-Interface.ensures
    ∙ ap (λ (t : ExtendedType). under c.args.name.now.text (extended_type t).fields) (sym c.in-Interface.is)

use Rattle.std.proofs.Common.{Bor, sym, ap, ◌∙◌}
use Rattle.graphql_coords.specs.LookUpView.{answer}
use Rattle.graphql_coords.specs.declared.lookup_answers.SchemaLookupError.TheVariants as error
use Rattle.graphql_schema.proofs.Lookups.{got}
use Rattle.graphql_coords.proofs.Answering.{answer_ok_or}
use Rattle.tree_type_members.specs.TypeSystemTree.{enum_value_tree}
use Rattle.tree_type_members.specs.declared.enum_value.EnumValueDefinition.{EnumValueDefinition}
use Rattle.schema_components.specs.Names.{entries_of}
use Rattle.schema_components.specs.Given.{component_tree}
use Rattle.schema_components.specs.declared.component.Component.{Component}
use Rattle.graphql_schema.specs.in_schema_types.TypeView.{name_text, extended_type}
use Rattle.graphql_schema.specs.in_schema_types.Addresses.{under}
use Rattle.graphql_coords.specs.LookUps.{enum_value_in}
use Rattle.graphql_schema.specs.in_schema_types.declared.kinds.EnumType.{EnumType}
use Rattle.graphql_coords.proofs.find.enum_value_in.Goals as goal

pub returns-in-Enum : goal.returns-in-Enum
returns-in-Enum c =
    let view = λ (f : Bor (Component EnumValueDefinition)). component_tree enum_value_tree f.now in
    ap (answer view) c.ok_or.ensures.value
    ∙ answer_ok_or view (error.MissingAttribute c.args.name) c.get-found.result _
    (got (component_tree enum_value_tree) c.args.name.now c.content.result.now.values c.get-found.result c.get-found.ensures.value
    ∙ ap (λ (o : EnumType). under c.args.name.now.text (entries_of name_text (component_tree enum_value_tree) o.values)) c.content.ensures)
    ∙ ap (λ t. enum_value_in c.args.name.now.text (extended_type t)) (sym c.in-Enum.is)

use Rattle.schema_components.specs.Given.{component_tree}
use Rattle.tree_type_members.specs.TypeSystemTree.{field_definition_tree}
use Rattle.schema_inputs.proofs.Lookups.{known_at}
use Rattle.schema_inputs.proofs.inputs.of_field.Goals as goal

pub returns-in-Some : goal.returns-in-Some
returns-in-Some c =
    known_at (component_tree field_definition_tree) c.args.name.now c.args.fields.now (λ f. f.it.it.arguments) c.args.known.now c.in-Some.index c.in-Some.field-0-1.now c.in-Some.field-0-2.now
    c.requires c.in-Some.ensures.value c.in-Some.ensures.entry c.arguments_at.result c.arguments_at.ensures

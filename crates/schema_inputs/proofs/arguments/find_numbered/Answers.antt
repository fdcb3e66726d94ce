use Rattle.std.proofs.Common.{◌∙◌}
use Rattle.graphql_names.specs.Placed.{node_tree}
use Rattle.tree_directives.specs.DirectiveTree.{input_value_tree}
use Rattle.schema_inputs.specs.Inputs.{input_name}
use Rattle.schema_inputs.proofs.Noted.{taken, number_absent, number_there}
use Rattle.schema_inputs.proofs.arguments.find_numbered.Goals as goal

pub returns-in-None : goal.returns-in-None
returns-in-None c =
    number_absent input_name (node_tree input_value_tree) c.args.definitions.now c.args.name.now.text c.get.result c.in-None.is (c.get.ensures.value ∙ c.requires c.args.name.now)

pub returns-in-Some : goal.returns-in-Some
returns-in-Some c =
    let xs = c.args.definitions.now in
    number_there input_name (node_tree input_value_tree) xs c.args.name.now.text c.get.result c.in-Some.index c.in-Some.is (c.get.ensures.value ∙ c.requires c.args.name.now)
    c.get-in-Some.result (taken input_name (node_tree input_value_tree) xs c.in-Some.index.now c.get-in-Some.result c.get-in-Some.ensures.lookup.0 c.get-in-Some.ensures.lookup.1)

use Rattle.std.proofs.Common.{◌∙◌}
use Rattle.graphql_names.specs.Placed.{node_tree}
use Rattle.tree_directives.specs.DirectiveTree.{input_value_tree, input_value_trees}
use Rattle.schema_inputs.specs.Inputs.{input_name}
use Rattle.schema_inputs.proofs.Noted.{taken, number_absent, number_there}
use Rattle.rule_types.proofs.FirstsFacts.{named_first}
use Rattle.rule_types.proofs.interface_arguments.find_numbered.Goals as goal

pub returns-in-None : goal.returns-in-None
returns-in-None c =
    let xs = c.args.arguments.now in
    let n = c.args.name.now.text in
    number_absent input_name (node_tree input_value_tree) xs n c.get.result c.in-None.is (c.get.ensures.value ∙ c.requires c.args.name.now) ∙ named_first (input_value_trees xs) n

pub returns-in-Some : goal.returns-in-Some
returns-in-Some c =
    let xs = c.args.arguments.now in
    let n = c.args.name.now.text in
    number_there input_name (node_tree input_value_tree) xs n c.get.result c.in-Some.index c.in-Some.is (c.get.ensures.value ∙ c.requires c.args.name.now)
    c.get-in-Some.result (taken input_name (node_tree input_value_tree) xs c.in-Some.index.now c.get-in-Some.result c.get-in-Some.ensures.lookup.0 c.get-in-Some.ensures.lookup.1)
    ∙ named_first (input_value_trees xs) n

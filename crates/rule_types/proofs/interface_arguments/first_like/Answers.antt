use Rattle.std.proofs.Common.{ap, ◌∙◌}
use Rattle.std.specs.Option.{option_map}
use Rattle.graphql_names.specs.Placed.{node_tree}
use Rattle.tree_directives.specs.DirectiveTree.{input_value_tree}
use Rattle.tree_directives.specs.declared.input_value.InputValueDefinition.{InputValueDefinition}
use Rattle.rule_types.specs.FaultLists.{first_named}
use Rattle.rule_types.proofs.FirstsFacts.{lent}
use Rattle.rule_types.proofs.interface_arguments.first_like.Goals as goal

pub returns : goal.returns
returns c = λ vs are.
    lent (node_tree input_value_tree) c.get.result ∙ ap (option_map (node_tree input_value_tree)) c.get.ensures.value ∙ are c.content.result.now.name
    ∙ ap (λ (v : InputValueDefinition). first_named vs v.name.text) c.content.ensures

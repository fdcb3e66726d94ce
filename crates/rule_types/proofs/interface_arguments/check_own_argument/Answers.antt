use Rattle.std.proofs.Common.{[], ap, ◌∙◌}
use Rattle.std.specs.Option.{option_map_or}
use Rattle.std.proofs.lemmas.Result.{IfOk-equal}
use Rattle.graphql_names.specs.Placed.{node_tree}
use Rattle.tree_directives.specs.DirectiveTree.{input_value_tree}
use Rattle.tree_type_members.specs.TypeSystemTree.{field_definition_tree}
use Rattle.fault_data.specs.FaultView.{faults_of}
use Rattle.fault_data.specs.Room.{◌⊕◌}
use Rattle.rule_types.specs.InterfaceFaults.{Input, extra_required_argument}
use Rattle.rule_types.proofs.FirstsFacts.{none_lent}
use Rattle.rule_types.proofs.interface_arguments.check_own_argument.Goals as goal

pub returns-in-None : goal.returns-in-None
returns-in-None c = λ vs are.
    let own = c.args.implementation.now in
    let n = own.name.now.text in
    let i = own.interface.now.text in
    let m = own.field_name.now.text in
    let w = node_tree input_value_tree c.args.argument.now in
    let lacking = extra_required_argument n i m (node_tree field_definition_tree own.wanted.now) (node_tree field_definition_tree own.field.now) w in
    IfOk-equal c.extra_required_implementation_field_argument.result _ _ _ c.extra_required_implementation_field_argument.ensures
    (ap (λ o. faults_of c.args.faults.now ⊕ option_map_or (λ (v : Input). []) o lacking) (none_lent (node_tree input_value_tree) c.first_like.result c.in-None.is ∙ c.first_like.ensures vs are))

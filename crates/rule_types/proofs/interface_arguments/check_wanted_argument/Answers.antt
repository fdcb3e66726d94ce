use Rattle.std.proofs.Common.{ap, ◌∙◌}
use Rattle.std.specs.Option.{option_map_or}
use Rattle.std.proofs.lemmas.Result.{IfOk-equal}
use Rattle.graphql_names.specs.Placed.{node_tree}
use Rattle.tree_directives.specs.DirectiveTree.{input_value_tree, input_value_trees}
use Rattle.tree_directives.specs.declared.input_value.InputValueDefinition.{InputValueDefinition}
use Rattle.tree_type_members.specs.TypeSystemTree.{field_definition_tree}
use Rattle.fault_data.specs.FaultView.{faults_of}
use Rattle.fault_data.specs.Room.{◌⊕◌}
use Rattle.rule_types.specs.FaultLists.{first_named}
use Rattle.rule_types.specs.InterfaceFaults.{invalid_implementation_field_argument_type, missing_interface_field_argument}
use Rattle.rule_types.proofs.interface_arguments.check_wanted_argument.Goals as goal

pub returns-in-None : goal.returns-in-None
returns-in-None c =
    let own = c.args.implementation.now in
    let n = own.name.now.text in
    let i = own.interface.now.text in
    let m = own.field_name.now.text in
    let vs = input_value_trees c.args.own.now in
    let w = node_tree input_value_tree c.args.argument.now in
    let lacking = missing_interface_field_argument n i m (node_tree field_definition_tree own.wanted.now) (node_tree field_definition_tree own.field.now) w in
    IfOk-equal c.missing_interface_field_argument.result _ _ _ c.missing_interface_field_argument.ensures
    (ap (λ o. faults_of c.args.faults.now ⊕ option_map_or (λ v. invalid_implementation_field_argument_type n i m w v) o lacking) (c.in-None.ensures ∙ ap (λ (v : InputValueDefinition). first_named vs v.name.text) c.content.ensures))

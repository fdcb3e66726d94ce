use Rattle.std.proofs.Common.{◌≤◌, map, length, ap, ◌∙◌, arith}
use Rattle.std.specs.List.{flat_map}
use Rattle.std.proofs.lemmas.List.{take_all}
use Rattle.graphql_names.specs.Placed.{node_tree}
use Rattle.tree_directives.specs.DirectiveTree.{input_value_tree}
use Rattle.tree_type_members.specs.TypeSystemTree.{field_definition_tree}
use Rattle.fault_data.specs.FaultView.{faults_of}
use Rattle.fault_data.specs.Room.{◌⊕◌}
use Rattle.rule_types.specs.InterfaceFaults.{own_fault}
use Rattle.rule_types.proofs.Telling.{tells_item}
use Rattle.rule_types.proofs.interface_arguments.check_own_arguments.Goals as goal

pub loop-argument-preserved : goal.loop-argument-preserved
loop-argument-preserved c = λ vs are.
    let own = c.args.implementation.now in
    let W = node_tree field_definition_tree own.wanted.now in
    let F = node_tree field_definition_tree own.field.now in
    let told = own_fault own.name.now.text own.interface.now.text own.field_name.now.text W F vs in
    tells_item (node_tree input_value_tree) told (faults_of c.args.faults.now) _ _ c.args.arguments.now c.loop-argument.argument-index c.argument-item.result (omega arith) c.argument-item.is
    (c.loop-argument.invariant vs are) (c.in_ok-check_own_argument.ensures vs are)

pub returns : goal.returns
returns c = λ vs are.
    let own = c.args.implementation.now in
    let W = node_tree field_definition_tree own.wanted.now in
    let F = node_tree field_definition_tree own.field.now in
    let told = own_fault own.name.now.text own.interface.now.text own.field_name.now.text W F vs in
    let xs = c.args.arguments.now in
    let past : length xs ≤ c.loop-argument.argument-index = omega arith in
    let whole = take_all c.loop-argument.argument-index xs past in
    c.loop-argument.invariant vs are ∙ ap (λ l. faults_of c.args.faults.now ⊕ flat_map told (map (node_tree input_value_tree) l)) whole

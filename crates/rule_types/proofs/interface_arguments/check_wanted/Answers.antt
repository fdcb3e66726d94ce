use Rattle.std.proofs.Common.{◌≡◌, ◌≤◌, map, length, ap, ◌∙◌, arith}
use Rattle.std.specs.List.{flat_map}
use Rattle.std.proofs.lemmas.List.{take_all}
use Rattle.graphql_names.specs.Node.{content}
use Rattle.graphql_names.specs.Placed.{node_tree}
use Rattle.tree_directives.specs.DirectiveTree.{input_value_tree, input_value_trees}
use Rattle.tree_type_members.specs.TypeSystemTree.{field_definition_tree}
use Rattle.tree_type_members.specs.declared.field_definition.FieldDefinition.{FieldDefinition}
use Rattle.fault_data.specs.FaultView.{faults_of}
use Rattle.fault_data.specs.Room.{◌⊕◌}
use Rattle.rule_types.specs.InterfaceFaults.{wanted_fault}
use Rattle.rule_types.proofs.Telling.{tells_item}
use Rattle.rule_types.proofs.interface_arguments.check_wanted.Goals as goal

pub loop-argument-preserved : goal.loop-argument-preserved
loop-argument-preserved c =
    let own = c.args.implementation.now in
    let W = node_tree field_definition_tree own.wanted.now in
    let F = node_tree field_definition_tree own.field.now in
    let told = wanted_fault own.name.now.text own.interface.now.text own.field_name.now.text W F (input_value_trees c.args.own.now) in
    tells_item (node_tree input_value_tree) told (faults_of c.args.faults.now) _ _ c.deref-argument-items.result.now c.loop-argument.argument-index c.argument-item.result (omega arith) c.argument-item.is
    c.loop-argument.invariant c.in_ok-check_wanted_argument.ensures

pub returns : goal.returns
returns c =
    let own = c.args.implementation.now in
    let W = node_tree field_definition_tree own.wanted.now in
    let F = node_tree field_definition_tree own.field.now in
    let told = wanted_fault own.name.now.text own.interface.now.text own.field_name.now.text W F (input_value_trees c.args.own.now) in
    let xs = c.deref-argument-items.result.now in
    let past : length xs ≤ c.loop-argument.argument-index = omega arith in
    let whole = take_all c.loop-argument.argument-index xs past in
    let items : xs ≡ (content own.wanted.now).arguments.items = c.deref-argument-items.ensures.value ∙ ap (λ (d : FieldDefinition). d.arguments.items) c.content.ensures in
    c.loop-argument.invariant ∙ ap (λ l. faults_of c.args.faults.now ⊕ flat_map told (map (node_tree input_value_tree) l)) (whole ∙ items)

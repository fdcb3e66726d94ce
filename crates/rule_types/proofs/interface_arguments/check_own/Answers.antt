use Rattle.std.proofs.Common.{◌≡◌, [], map, sym, ap, subst, ◌∙◌}
use Rattle.std.proofs.lemmas.Result.{on_ok_weaker}
use Rattle.graphql_names.specs.Node.{content}
use Rattle.graphql_names.specs.Placed.{node_tree}
use Rattle.tree_directives.specs.DirectiveTree.{input_value_tree, input_value_trees}
use Rattle.tree_type_members.specs.TypeSystemTree.{field_definition_tree}
use Rattle.tree_type_members.specs.declared.field_definition.FieldDefinition.{FieldDefinition}
use Rattle.fault_data.specs.FaultView.{faults_of}
use Rattle.fault_data.specs.Room.{◌⊕◌}
use Rattle.fault_data.proofs.in_rule_definitions.Listing.{empty_is}
use Rattle.schema_inputs.specs.Inputs.{required_inputs}
use Rattle.rule_types.specs.Firsts.{AreFirsts}
use Rattle.rule_types.proofs.Required.{required_own}
use Rattle.rule_types.proofs.interface_arguments.check_own.Goals as goal

pub returns-then-is_empty : goal.returns-then-is_empty
returns-then-is_empty c =
    let own = c.args.implementation.now in
    let W = node_tree field_definition_tree own.wanted.now in
    let F = node_tree field_definition_tree own.field.now in
    let xs = c.with_required-required.result.now in
    let none : xs ≡ [] = empty_is xs (sym c.is_empty.ensures ∙ c.if-is_empty.true) in
    let same = required_own own.name.now.text own.interface.now.text own.field_name.now.text W F (input_value_trees (content own.wanted.now).arguments.items) (input_value_trees []) (input_value_trees (content own.field.now).arguments.items)
    (ap (λ l. required_inputs (input_value_trees l)) (sym none) ∙ c.with_required-required.ensures ∙ ap (λ l. required_inputs (input_value_trees l)) c.requires) in
    ap (λ l. faults_of c.args.faults.now ⊕ l) same

pub returns : goal.returns
returns c =
    let own = c.args.implementation.now in
    let W = node_tree field_definition_tree own.wanted.now in
    let F = node_tree field_definition_tree own.field.now in
    let ws = input_value_trees (content own.wanted.now).arguments.items in
    let xs = c.with_required-required.result.now in
    let definition : c.deref.result.now ≡ (content own.wanted.now).arguments.items = c.deref.ensures.value ∙ ap (λ (d : FieldDefinition). d.arguments.items) c.content.ensures in
    let same = required_own own.name.now.text own.interface.now.text own.field_name.now.text W F ws (input_value_trees xs) (input_value_trees (content own.field.now).arguments.items)
    (c.with_required-required.ensures ∙ ap (λ l. required_inputs (input_value_trees l)) c.requires) in
    on_ok_weaker c.check_own_arguments.result (λ told. told ∙ ap (λ l. faults_of c.args.faults.now ⊕ l) same)
    (c.check_own_arguments.ensures ws (subst (λ l. AreFirsts c.in_ok-of_interface.of_interface (map (node_tree input_value_tree) l)) definition c.in_ok-of_interface.ensures))

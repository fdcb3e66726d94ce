use Rattle.std.proofs.Common.{◌≡◌, List, [], ◌∷◌, find, Option, None, sym, ap, ◌∙◌}
use Rattle.std.specs.Option.{option_map_or}
use Rattle.std.proofs.lemmas.Result.{IfOk-equal}
use Rattle.graphql_names.specs.NameValue.{NameValue}
use Rattle.graphql_names.specs.Placed.{Placed, Place, node_tree}
use Rattle.graphql_names.specs.declared.node.Node.{Node}
use Rattle.std.specs.Borrow.{Bor}
use Rattle.tree_directives.specs.DirectiveTree.{InputValueTree, argument_tree, input_value_tree, input_value_trees}
use Rattle.tree_directives.specs.DirectiveQueries.{input_value_has_name}
use Rattle.tree_directives.specs.declared.directive.Argument.{Argument}
use Rattle.tree_directives.specs.declared.input_value.InputValueDefinition.{InputValueDefinition}
use Rattle.rule_values.specs.in_fault_data.FaultView.{faults_of}
use Rattle.rule_values.specs.in_fault_data.Room.{◌⊕◌}
use Rattle.rule_values.specs.in_rule_definitions.Diagnostics.{UndefinedArgument}
use Rattle.rule_values.specs.in_rule_definitions.Faults.{wrong}
use Rattle.rule_values.specs.in_rule_definitions.Names.{argument_name}
use Rattle.rule_values.specs.in_rule_definitions.PlacedFaults.{PlacedFault}
use Rattle.rule_arguments.specs.Trees.{coordinate_of}
use Rattle.rule_arguments.proofs.Known.{absent}
use Rattle.rule_arguments.proofs.taken.undefined_argument.Goals as goal

pub returns : goal.returns
returns c =
    let taker = c.args.taker.now in
    let definitions = input_value_trees taker.definitions.now in
    let a = node_tree argument_tree c.args.argument.now in
    let text = ap (λ (n : NameValue). n.text) c.in_ok-name.ensures.same ∙ ap (λ (x : Argument). x.name.text) c.content.ensures in
    let none : find (input_value_has_name (argument_name a)) definitions ≡ None =
    ap (λ (x : Argument). find (input_value_has_name x.name.text) definitions) (sym c.content.ensures) ∙ sym c.find_by.ensures
    ∙ absent (λ (v : Bor (Node InputValueDefinition)). node_tree input_value_tree v.now) c.find_by.result (sym c.is_some.ensures ∙ c.if-is_some.false) in
    let told : List PlacedFault = wrong a.place (UndefinedArgument (argument_name a) (coordinate_of taker.name) taker.definition_location) ∷ [] in
    IfOk-equal c.tell.result _ _ _ c.tell.ensures.told
    (ap (λ (l : List PlacedFault). faults_of c.args.faults.now ⊕ l) (
    (λ i. wrong (c.location-location.ensures i) (UndefinedArgument (text i) (c.in_ok-coordinate.ensures i) taker.definition_location) ∷ [])
    ∙ ap (λ (o : Option (Placed Place (InputValueTree Place))). option_map_or (λ v. []) o told) (sym none)))

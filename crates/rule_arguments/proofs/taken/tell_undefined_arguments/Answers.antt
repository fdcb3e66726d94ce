use Rattle.std.proofs.Common.{◌<◌, length, take, sym, ap, ◌∙◌, arith}
use Rattle.std.specs.List.{flat_map}
use Rattle.graphql_names.specs.Placed.{node_tree}
use Rattle.tree_directives.specs.DirectiveTree.{argument_tree, input_value_trees}
use Rattle.rule_values.specs.in_fault_data.FaultView.{faults_of}
use Rattle.rule_values.specs.in_fault_data.Room.{◌⊕◌}
use Rattle.rule_arguments.specs.Trees.{arguments_of, taker_of}
use Rattle.rule_arguments.specs.UseFaults.{undefined_argument}
use Rattle.rule_values.proofs.in_rule_definitions.Listing.{mapped_more}
use Rattle.rule_values.proofs.in_fault_data.Room.{room_flat_map}
use Rattle.rule_arguments.proofs.taken.tell_undefined_arguments.Goals as goal

pub loop-argument-preserved : goal.loop-argument-preserved
loop-argument-preserved c =
    let told = undefined_argument (taker_of c.args.taker.now) (input_value_trees c.args.taker.now.definitions.now) in
    let a = faults_of c.args.faults.now in
    let xs = c.args.taker.now.given.now in
    let i = c.loop-argument.argument-index in
    let x = c.argument-item.result in
    let h : i < length xs = omega arith in
    c.in_ok-undefined_argument.ensures
    ∙ ap (λ l. l ⊕ told (node_tree argument_tree x)) c.loop-argument.invariant
    ∙ room_flat_map told a (arguments_of (take i xs)) (node_tree argument_tree x)
    ∙ ap (λ l. a ⊕ flat_map told l) (sym (mapped_more (node_tree argument_tree) xs i x h c.argument-item.is))

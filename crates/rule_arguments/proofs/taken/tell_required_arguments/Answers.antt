use Rattle.std.proofs.Common.{◌≤◌, ◌<◌, length, take, sym, ap, ◌∙◌, arith}
use Rattle.std.specs.List.{flat_map}
use Rattle.std.proofs.lemmas.List.{take_all}
use Rattle.graphql_names.specs.Placed.{node_tree}
use Rattle.tree_directives.specs.DirectiveTree.{input_value_tree, input_value_trees}
use Rattle.rule_values.specs.in_fault_data.FaultView.{faults_of}
use Rattle.rule_values.specs.in_fault_data.Room.{◌⊕◌}
use Rattle.rule_arguments.specs.Telling.{required_arguments_of}
use Rattle.rule_arguments.specs.Trees.{taker_of}
use Rattle.rule_arguments.specs.UseFaults.{required_argument}
use Rattle.rule_values.proofs.in_rule_definitions.Listing.{mapped_more}
use Rattle.rule_values.proofs.in_fault_data.Room.{no_room, room_flat_map}
use Rattle.rule_arguments.proofs.RequiredOnly.{required_only}
use Rattle.rule_arguments.proofs.taken.tell_required_arguments.Goals as goal

pub loop-definition-preserved : goal.loop-definition-preserved
loop-definition-preserved c =
    let t = taker_of c.args.taker.now in
    let a = faults_of c.args.faults.now in
    let xs = c.with_required-definitions.result.now in
    let i = c.loop-definition.definition-index in
    let x = c.definition-item.result in
    let h : i < length xs = omega arith in
    c.in_ok-required_argument.ensures
    ∙ ap (λ l. l ⊕ required_argument t (node_tree input_value_tree x)) c.loop-definition.invariant
    ∙ room_flat_map (required_argument t) a (input_value_trees (take i xs)) (node_tree input_value_tree x)
    ∙ ap (λ l. a ⊕ flat_map (required_argument t) l) (sym (mapped_more (node_tree input_value_tree) xs i x h c.definition-item.is))

pub returns-then-is_full : goal.returns-then-is_full
returns-then-is_full c = sym (no_room (faults_of c.args.faults.now) (required_arguments_of c.args.taker.now) (c.is_full.ensures.0 c.if-is_full.true))

pub returns : goal.returns
returns c =
    let t = taker_of c.args.taker.now in
    let xs = c.with_required-definitions.result.now in
    let past : length xs ≤ c.loop-definition.definition-index = omega arith in
    c.loop-definition.invariant
    ∙ ap (λ l. faults_of c.args.faults.now ⊕ flat_map (required_argument t) (input_value_trees l)) (take_all c.loop-definition.definition-index xs past)
    ∙ ap (λ l. faults_of c.args.faults.now ⊕ l) (required_only t (input_value_trees xs) (input_value_trees c.args.taker.now.definitions.now) c.with_required-definitions.ensures)

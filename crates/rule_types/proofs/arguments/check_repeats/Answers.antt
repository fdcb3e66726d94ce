use Rattle.std.proofs.Common.{◌<◌, [], ◌∷◌, ◌++◌, map, take, length, sym, ap, subst, ◌∙◌, arith}
use Rattle.std.proofs.lemmas.List.{map_more}
use Rattle.graphql_names.specs.Placed.{node_tree}
use Rattle.tree_directives.specs.DirectiveTree.{input_value_tree}
use Rattle.schema_components.specs.Lists.{each_place}
use Rattle.schema_components.proofs.Places.{each_place-push}
use Rattle.fault_data.specs.FaultView.{faults_of}
use Rattle.fault_data.specs.Room.{◌⊕◌}
use Rattle.fault_data.proofs.Room.{room_both}
use Rattle.rule_types.specs.FaultLists.{unique_input_value}
use Rattle.rule_types.specs.Seen.{AreSeen}
use Rattle.rule_types.proofs.arguments.check_repeats.Goals as goal

pub loop-argument-preserved : goal.loop-argument-preserved
loop-argument-preserved c =
    let xs = c.args.arguments.now in
    let k = c.loop-argument.argument-index in
    let x = c.argument-item.result in
    let h : k < length xs = omega arith in
    let before = map (node_tree input_value_tree) (take k xs) in
    let front = map_more (node_tree input_value_tree) xs k x h ∙ ap (λ y. before ++ node_tree input_value_tree y ∷ []) (sym c.argument-item.is) in
    let seen = c.loop-argument.invariant.seen in
    record {
      told =
          c.in_ok-unique_input_value.ensures before seen
          ∙ (λ i. c.loop-argument.invariant.told i ⊕ unique_input_value before (node_tree input_value_tree x))
          ∙ room_both (faults_of c.args.faults.now) (each_place unique_input_value before) (unique_input_value before (node_tree input_value_tree x))
          ∙ ap (λ l. faults_of c.args.faults.now ⊕ l) (sym (each_place-push unique_input_value before (node_tree input_value_tree x)) ∙ ap (each_place unique_input_value) (sym front));
      seen = subst (AreSeen c.see.new.seen) (sym front) (c.in_ok-see.ensures before seen);
    }

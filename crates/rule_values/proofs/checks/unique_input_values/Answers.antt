use Rattle.std.proofs.lemmas.Result.{on_ok_weaker}
use Rattle.graphql_names.specs.Node.{content}
use Rattle.tree_literals.specs.ValueTree.{value_tree}
use Rattle.fault_data.specs.in_rule_definitions.Values.{UniqueInputValueIn}
use Rattle.rule_values.specs.KeyFaults.{key_faults}
use Rattle.rule_values.proofs.Adding.{adds_told}
use Rattle.rule_values.proofs.KeysTold.{keys_told}
use Rattle.rule_values.proofs.checks.unique_input_values.Goals as goal

pub returns : goal.returns
returns c =
    let v = value_tree (content c.args.value.now) in
    on_ok_weaker c.tell_key_faults.result
    (adds_told c.args.faults.now c.tell_key_faults.new.faults (key_faults v) (UniqueInputValueIn v) (keys_told v))
    c.tell_key_faults.ensures

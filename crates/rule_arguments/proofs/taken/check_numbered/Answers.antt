use Rattle.std.specs.List.{flat_map}
use Rattle.std.proofs.lemmas.Result.{on_ok_weaker}
use Rattle.tree_directives.specs.DirectiveTree.{input_value_trees}
use Rattle.rule_values.specs.in_fault_data.FaultView.{faults_of}
use Rattle.rule_values.specs.in_schema.SchemaOf.{schema_tree}
use Rattle.rule_values.specs.Wanting.{variables_of}
use Rattle.rule_arguments.specs.Trees.{taker_of}
use Rattle.rule_arguments.specs.UseFaults.{undefined_argument, required_argument}
use Rattle.rule_values.proofs.in_fault_data.Adding.{gains_both, gains_list, gains_same}
use Rattle.rule_arguments.proofs.Uses.{lists_undefined_arguments, lists_required_arguments, given_arguments}
use Rattle.rule_arguments.proofs.taken.check_numbered.Goals as goal

pub returns : goal.returns
returns c =
    let s = schema_tree c.args.judging.now.schema.now in
    let vs = variables_of c.args.judging.now.variables.now in
    let t = taker_of c.args.taker.now in
    let ds = input_value_trees c.args.taker.now.definitions.now in
    let a = faults_of c.args.faults.now in
    let b = faults_of c.tell_undefined_arguments.new.faults in
    let d = faults_of c.tell_required_arguments.new.faults in
    let e = faults_of c.check_arguments.new.faults in
    on_ok_weaker c.check_arguments.result
    (λ h at places.
    gains_both a b e
    (gains_list a b (flat_map (undefined_argument t ds) t.given) c.in_ok-tell_undefined_arguments.ensures (lists_undefined_arguments at s vs t ds places.schema places.arguments))
    (gains_both b d e
    (gains_list b d (flat_map (required_argument t) ds) c.in_ok-tell_required_arguments.ensures (lists_required_arguments at s vs t ds places.schema places.arguments))
    (gains_same d e (given_arguments at s vs t ds places.schema places.arguments) h)))
    c.check_arguments.ensures

use Rattle.std.proofs.Common.{◌<◌, length, ap, arith}
use Rattle.graphql_names.specs.Placed.{node_tree}
use Rattle.tree_directives.specs.DirectiveTree.{argument_tree}
use Rattle.rule_values.specs.in_fault_data.FaultView.{faults_of}
use Rattle.rule_values.specs.in_fault_data.Room.{◌⊕◌}
use Rattle.rule_arguments.specs.UseFaults.{repeated_argument}
use Rattle.rule_arguments.proofs.Again.{few, argument_first}
use Rattle.rule_arguments.proofs.given.tell_repeated_arguments.Goals as goal

pub returns-then-given-lt2 : goal.returns-then-given-lt2
returns-then-given-lt2 c =
    let h : length c.args.given.now < 2 = omega arith in
    ap (λ l. faults_of c.args.faults.now ⊕ l) (few (node_tree argument_tree) repeated_argument argument_first c.args.given.now h)

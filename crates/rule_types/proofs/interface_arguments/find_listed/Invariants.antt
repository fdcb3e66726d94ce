use Rattle.std.proofs.Common.{◌≡◌, drop}
use Rattle.tree_directives.specs.DirectiveTree.{input_value_trees}
use Rattle.rule_types.specs.FaultLists.{first_named}
use Rattle.rule_types.proofs.interface_arguments.find_listed.Given as goal

abbrev pub invariant-loop-argument : goal.invariant-loop-argument
invariant-loop-argument l = first_named (input_value_trees l.arguments) l.name.text ≡ first_named (input_value_trees (drop l.argument-index l.arguments)) l.name.text

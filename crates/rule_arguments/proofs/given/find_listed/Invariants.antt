use Rattle.std.proofs.Common.{◌≡◌, drop, find}
use Rattle.tree_directives.specs.DirectiveQueries.{argument_has_name}
use Rattle.rule_arguments.specs.Trees.{arguments_of}
use Rattle.rule_arguments.proofs.given.find_listed.Given as goal

abbrev pub invariant-loop-argument : goal.invariant-loop-argument
invariant-loop-argument l = find (argument_has_name l.name.text) (arguments_of l.given) ≡ find (argument_has_name l.name.text) (arguments_of (drop l.argument-index l.given))

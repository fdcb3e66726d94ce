use Rattle.std.proofs.Common.{◌≡◌, drop}
use Rattle.std.specs.List.{list_any}
use Rattle.tree_directives.specs.DirectiveTree.{input_value_trees}
use Rattle.tree_directives.specs.DirectiveQueries.{input_value_has_name}
use Rattle.strict_schemas.proofs.extra.is_listed.Given as goal

abbrev pub invariant-loop-argument : goal.invariant-loop-argument
invariant-loop-argument l = list_any (input_value_has_name l.name.text) (input_value_trees l.arguments) ≡ list_any (input_value_has_name l.name.text) (input_value_trees (drop l.argument-index l.arguments))

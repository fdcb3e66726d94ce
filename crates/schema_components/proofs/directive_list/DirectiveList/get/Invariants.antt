use Rattle.std.proofs.Common.{◌≡◌, drop, map}
use Rattle.std.specs.Prelude.{find}
use Rattle.tree_operations.specs.DirectiveTree.{directive_tree}
use Rattle.schema_components.specs.Given.{component_tree}
use Rattle.schema_components.specs.Applied.{applied_tree, given_has_name}
use Rattle.schema_components.proofs.directive_list.DirectiveList.get.Given as goal

abbrev pub invariant-loop-directive : goal.invariant-loop-directive
invariant-loop-directive l = find (given_has_name l.name) (applied_tree l.self) ≡ find (given_has_name l.name) (map (component_tree directive_tree) (drop l.directive-index l.directive-items))

-- `==` of components decides whether they are the same without places and origins.
use Rattle.std.proofs.Common.{◌≡◌, ℕ, List}
use Rattle.std.specs.Bool.{Decides}
use Rattle.std.specs.Str.{bytes_eq}
use Rattle.std.proofs.lemmas.Slice.Eq.{bytes_eq-Decides}
use Rattle.tree_literals.specs.in_names.Node.{content}
use Rattle.tree_operations.specs.DirectiveTree.{directive_tree, unplaced_directive}
use Rattle.tree_operations.proofs.Decided.{lists_decide}
use Rattle.tree_operations.proofs.DirectiveEquality.{directive_eq, directive_eq-Decides}
use Rattle.schema_components.specs.Given.{component_tree, component_name_tree, plain_given, given_name}
use Rattle.schema_components.specs.Applied.{applied_tree, unplaced_applied}
use Rattle.schema_components.specs.declared.component_name.ComponentName.{ComponentName}
use Rattle.schema_components.specs.declared.directive_list.DirectiveList.{DirectiveList}
use Rattle.schema_components.specs.contracts.directive_list.DirectiveListPartialEq.TheImpl as directives_impl

abbrev pub component_text : ComponentName → List ℕ
component_text c = c.name.text

pub component_name_eq-Decides : (a b : ComponentName) → Decides (bytes_eq a.name.text b.name.text) (given_name (component_name_tree a) ≡ given_name (component_name_tree b))
component_name_eq-Decides a b = bytes_eq-Decides a.name.text b.name.text

pub directives_eq-Decides : (a b : DirectiveList) → Decides (directives_impl.ghosts.eq a b) (unplaced_applied (applied_tree a) ≡ unplaced_applied (applied_tree b))
directives_eq-Decides a b = lists_decide (λ x y. directive_eq (content x.node) (content y.node)) (plain_given unplaced_directive) (component_tree directive_tree) (λ x y. directive_eq-Decides (content x.node) (content y.node)) a.0.items b.0.items

pub ruleset equality = (component_name_eq-Decides, directives_eq-Decides)

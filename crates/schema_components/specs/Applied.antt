-- Applied directives, each with its origin (GraphQL, October 2021, section 2.12).
use Rattle.std.specs.Prelude.{ℕ, Bool, List, map, bytes_eq}
use Rattle.tree_literals.specs.in_names.Node.{content}
use Rattle.tree_literals.specs.in_names.Placed.{Placed, Place}
use Rattle.tree_operations.specs.DirectiveTree.{DirectiveTree, directive_tree, unplaced_directive}
use Rattle.tree_operations.specs.in_directives.declared.directive.Directive.{Directive}
use Rattle.schema_components.specs.Given.{Given, component_tree, plain_given}
use Rattle.schema_components.specs.declared.component.Component.{Component}
use Rattle.schema_components.specs.declared.directive_list.DirectiveList.{DirectiveList}

-- directives that are applied, in order
abbrev pub Applied : Type 0 → Type 0
Applied P = List (Given P (Placed P (DirectiveTree P)))

abbrev pub applied_tree : DirectiveList → Applied Place
applied_tree ds = map (component_tree directive_tree) ds.0.items

-- the same without places and origins
abbrev pub unplaced_applied : {P : Type 0} → Applied P → List (DirectiveTree (Unit {0}))
unplaced_applied ds = map (plain_given unplaced_directive) ds

-- whether the name of the directive is this text
abbrev pub given_has_name : {P : Type 0} → List ℕ → Given P (Placed P (DirectiveTree P)) → Bool
given_has_name name d = bytes_eq d.it.it.name.it name

abbrev pub component_has_name : List ℕ → Component Directive → Bool
component_has_name name c = bytes_eq (content c.node).name.text name

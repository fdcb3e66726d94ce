-- What the laws of the trees state: which types are compatible, and what a list is after a directive of it was replaced by name
-- (GraphQL, October 2021, sections 2.12 and 5.8.5).
use Rattle.std.specs.Prelude.{◌≡◌, ℕ, List, slice_set}
use Rattle.tree_literals.specs.in_names.declared.node.Node.{Node}
use Rattle.tree_literals.specs.TypeTree.{TypeTree, unplaced_type}
use Rattle.tree_literals.specs.TypeQueries.{AreTypesCompatible}
use Rattle.tree_operations.specs.in_directives.DirectiveNodes.{node_has_name}
use Rattle.tree_operations.specs.in_directives.NamedNodes.{nth_place}
use Rattle.tree_operations.specs.in_directives.declared.directive.Directive.{Directive}

module _ {P : Type 0} where
  -- if a is compatible with b, and b with c, then a is compatible with c
  abbrev pub AreCompatibleThrough : TypeTree P → TypeTree P → TypeTree P → Type 0
  AreCompatibleThrough a b c = AreTypesCompatible a b → AreTypesCompatible b c → AreTypesCompatible a c

  -- if each type is compatible with the other, they are the same, ignoring places
  abbrev pub AreSameBothWays : TypeTree P → TypeTree P → Type 0
  AreSameBothWays a b = AreTypesCompatible a b → AreTypesCompatible b a → unplaced_type a ≡ unplaced_type b

-- the list of directives with this one instead of the n-th directive of a name, counted from 0
abbrev pub with_nth_named : List ℕ → ℕ → Node Directive → List (Node Directive) → List (Node Directive)
with_nth_named name n directive ds = slice_set ds (nth_place (node_has_name name) n ds) directive

-- The directives of one name among the nodes of a list (GraphQL, October 2021, section 2.12).
use Rattle.std.specs.Prelude.{ℕ, List, Bool, filter, bytes_eq}
use Rattle.tree_literals.specs.in_names.Node.{content}
use Rattle.tree_literals.specs.in_names.declared.node.Node.{Node}
use Rattle.tree_directives.specs.declared.directive.Directive.{Directive}
use Rattle.tree_directives.specs.declared.directive_list.NamedDirectives.{NamedDirectives}

-- whether the name of the directive is this text
abbrev pub node_has_name : List ℕ → Node Directive → Bool
node_has_name name d = bytes_eq (content d).name.text name

-- the directives that the iterator has left to give
abbrev pub left_named : NamedDirectives → List (Node Directive)
left_named s = filter (node_has_name s.name.now) s.rest.now

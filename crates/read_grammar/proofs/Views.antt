-- The trees that lists in memory show are the trees that the rules make of their members' trees.
use Rattle.std.proofs.Common.{◌≡◌, List, [], ◌∷◌, refl, ap}
use Rattle.std.specs.Prelude.{map}
use Rattle.graphql_names.specs.Node.{content, place}
use Rattle.graphql_names.specs.declared.name.Name.{Name}
use Rattle.graphql_names.specs.declared.node.Node.{Node}
use Rattle.graphql_names.specs.Placed.{Placed, Place, Text, name_tree, node_tree}
use Rattle.graphql_ast.specs.in_literals.ValueTree.{ValueTree, item_then, entry_then, item_trees, entry_trees, value_tree}
use Rattle.graphql_ast.specs.in_operations.SelectionTree.{selection_then, selection_trees, selection_tree}
use Rattle.graphql_ast.specs.in_literals.declared.value.Value.{Value}
use Rattle.graphql_ast.specs.in_operations.declared.selection.Selection.{Selection}
use Rattle.read_grammar.specs.ValueGrammar.{items_of, entries_of}
use Rattle.read_grammar.specs.OperationGrammar.{selections_of}

-- a field of an object in memory, as the rule reads it
abbrev pub entry_view : Name × Node Value → Text Place × (Unit {0} × Placed Place (ValueTree Place))
entry_view e = (name_tree e.0, (tt, node_tree value_tree e.1))

pub items_viewed : (ns : List (Node Value)) → items_of (map (node_tree value_tree) ns) ≡ item_trees value_tree ns
items_viewed [] = refl
items_viewed (n ∷ ns) = ap (item_then (place n) (value_tree (content n))) (items_viewed ns)

pub entries_viewed : (es : List (Name × Node Value)) → entries_of (map entry_view es) ≡ entry_trees value_tree es
entries_viewed [] = refl
entries_viewed (e ∷ es) = ap (entry_then (name_tree e.0) (place e.1) (value_tree (content e.1))) (entries_viewed es)

pub selections_viewed : (ss : List Selection) → selections_of (map selection_tree ss) ≡ selection_trees selection_tree ss
selections_viewed [] = refl
selections_viewed (s ∷ ss) = ap (selection_then (selection_tree s)) (selections_viewed ss)

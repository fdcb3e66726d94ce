-- Fields, fragment spreads and inline fragments by themselves, and questions about selections (GraphQL, October 2021, sections 2.4, 2.5, 2.7 and 2.8).
use Rattle.std.specs.Prelude.{map, Option, None, Some, unwrap_or}
use Rattle.std.specs.Option.{option_map}
use Rattle.tree_directives.specs.in_literals.in_names.Node.{content, place}
use Rattle.tree_directives.specs.in_literals.in_names.declared.node.Node.{Node}
use Rattle.tree_directives.specs.in_literals.in_names.Placed.{Place, Text, name_tree, node_tree}
use Rattle.tree_directives.specs.DirectiveTree.{argument_tree, directives_tree}
use Rattle.tree_operations.specs.SelectionTree.{SelectionTree, FieldTree, SpreadTree, InlineTree, FieldHead, selection_tree, selection_trees}
use Rattle.tree_operations.specs.declared.selection.Field.{Field}
use Rattle.tree_operations.specs.declared.selection.FragmentSpread.{FragmentSpread}
use Rattle.tree_operations.specs.declared.selection.InlineFragment.{InlineFragment}

-- a field without its selections
abbrev pub field_head : Field → FieldHead Place
field_head f = record {
  alias = option_map name_tree f.alias;
  name = name_tree f.name;
  arguments = map (node_tree argument_tree) f.arguments.items;
  directives = directives_tree f.directives;
}

-- a field, a fragment spread, and an inline fragment, at a place
abbrev pub field_tree : Place → Field → SelectionTree Place
field_tree p f = FieldTree p (field_head f) (selection_trees selection_tree f.selection_set.items)

abbrev pub spread_tree : Place → FragmentSpread → SelectionTree Place
spread_tree p s = SpreadTree p (name_tree s.fragment_name) (directives_tree s.directives)

abbrev pub inline_tree : Place → InlineFragment → SelectionTree Place
inline_tree p f = InlineTree p (option_map name_tree f.type_condition) (directives_tree f.directives) (selection_trees selection_tree f.selection_set.items)

-- the same for nodes of these
abbrev pub field_node_tree : Node Field → SelectionTree Place
field_node_tree n = field_tree (place n) (content n)

abbrev pub spread_node_tree : Node FragmentSpread → SelectionTree Place
spread_node_tree n = spread_tree (place n) (content n)

abbrev pub inline_node_tree : Node InlineFragment → SelectionTree Place
inline_node_tree n = inline_tree (place n) (content n)

module _ {P : Type 0} where
  -- the place of a selection
  abbrev pub selection_place : SelectionTree P → P
  selection_place (FieldTree p h ts) = p
  selection_place (SpreadTree p n ds) = p
  selection_place (InlineTree p c ds ts) = p

  -- the selection, if it is a field
  abbrev pub as_field_tree : SelectionTree P → Option (SelectionTree P)
  as_field_tree (FieldTree p h ts) = Some (FieldTree p h ts)
  as_field_tree _ = None

  -- the selection, if it is a fragment spread
  abbrev pub as_spread_tree : SelectionTree P → Option (SelectionTree P)
  as_spread_tree (SpreadTree p n ds) = Some (SpreadTree p n ds)
  as_spread_tree _ = None

  -- the selection, if it is an inline fragment
  abbrev pub as_inline_tree : SelectionTree P → Option (SelectionTree P)
  as_inline_tree (InlineTree p c ds ts) = Some (InlineTree p c ds ts)
  as_inline_tree _ = None

  -- the response key of a field: its alias, else its name (section 2.7)
  abbrev pub response_name_of : FieldHead P → Text P
  response_name_of h = unwrap_or h.alias h.name

-- Fields, fragment spreads and inline fragments outside of sets, with parts added, and queries on them (GraphQL,
-- October 2021, sections 2.4, 2.5, 2.7 and 2.8).
use Rattle.std.specs.Prelude.{List, [], ◌++◌, map, Bool, if◌then◌else◌, Option, None, Some, unwrap_or}
use Rattle.std.specs.Option.{option_map}
use Rattle.graphql_names.specs.Node.{content, place}
use Rattle.graphql_names.specs.declared.node.Node.{Node}
use Rattle.graphql_names.specs.Placed.{Placed, Place, Text, name_tree, node_tree}
use Rattle.tree_literals.specs.TypeQueries.{inner_name}
use Rattle.tree_literals.specs.ValueTree.{ValueTree}
use Rattle.tree_directives.specs.DirectiveTree.{ArgumentTree, Arguments, Directives, argument_tree, directives_tree}
use Rattle.tree_definitions.specs.in_operations.SelectionTree.{FieldHead}
use Rattle.tree_definitions.specs.in_type_members.TypeSystemTree.{FieldDefinitionTree, field_definition_tree}
use Rattle.document_typed_selections.specs.TypedTree.{TypedSelection, TypedField, TypedSpread, TypedInline, TypedSet, typed_set, TypedSelections, no_typed, typed_then, typed_set_tree}
use Rattle.document_typed_selections.specs.declared.selection.Field.{Field}
use Rattle.document_typed_selections.specs.declared.selection.FragmentSpread.{FragmentSpread}
use Rattle.document_typed_selections.specs.declared.selection.InlineFragment.{InlineFragment}

-- a field without its definition and without its selection set
abbrev pub typed_head : Field → FieldHead Place
typed_head f = record {
  alias = option_map name_tree f.alias;
  name = name_tree f.name;
  arguments = map (node_tree argument_tree) f.arguments.items;
  directives = directives_tree f.directives;
}

-- the definition of a field
abbrev pub own_definition : Field → Placed Place (FieldDefinitionTree Place)
own_definition f = node_tree field_definition_tree f.definition

-- a field, a fragment spread and an inline fragment at a place
abbrev pub typed_field : Place → Field → TypedSelection Place
typed_field p f = TypedField p (node_tree field_definition_tree f.definition) (typed_head f) (typed_set_tree f.selection_set)

abbrev pub typed_spread : Place → FragmentSpread → TypedSelection Place
typed_spread p s = TypedSpread p (name_tree s.fragment_name) (directives_tree s.directives)

abbrev pub typed_inline : Place → InlineFragment → TypedSelection Place
typed_inline p f = TypedInline p (option_map name_tree f.type_condition) (directives_tree f.directives) (typed_set_tree f.selection_set)

-- the same for nodes of these
abbrev pub typed_field_node : Node Field → TypedSelection Place
typed_field_node n = typed_field (place n) (content n)

abbrev pub typed_spread_node : Node FragmentSpread → TypedSelection Place
typed_spread_node n = typed_spread (place n) (content n)

abbrev pub typed_inline_node : Node InlineFragment → TypedSelection Place
typed_inline_node n = typed_inline (place n) (content n)

-- a field with this name and definition alone; its empty set is on the named type inside the definition's type
abbrev pub bare_field : Text Place → Placed Place (FieldDefinitionTree Place) → TypedSelection Place
bare_field n d = TypedField None d (record { alias = None; name = n; arguments = []; directives = [] }) (typed_set (inner_name d.it.ty) no_typed)

-- ... on condition { }, its empty set on the type of the condition, or without a condition on this type
abbrev pub bare_inline : Option (Text Place) → Text Place → TypedSelection Place
bare_inline condition ty = TypedInline None condition [] (typed_set (unwrap_or condition ty) no_typed)

-- name: value, at no place
abbrev pub new_argument : Text Place → Placed Place (ValueTree Place) → Placed Place (ArgumentTree Place)
new_argument n v = record { it = record { name = n; value = v }; place = None }

module _ {P : Type 0} where
  -- the place of a selection
  abbrev pub typed_place : TypedSelection P → P
  typed_place (TypedField p d h s) = p
  typed_place (TypedSpread p n ds) = p
  typed_place (TypedInline p c ds s) = p

  -- the directives that are applied to a selection
  abbrev pub typed_directives : TypedSelection P → Directives P
  typed_directives (TypedField p d h s) = h.directives
  typed_directives (TypedSpread p n ds) = ds
  typed_directives (TypedInline p c ds s) = ds

  -- the selection, if it is a field
  abbrev pub as_typed_field : TypedSelection P → Option (TypedSelection P)
  as_typed_field (TypedField p d h s) = Some (TypedField p d h s)
  as_typed_field _ = None

  -- the selection, if it is a fragment spread
  abbrev pub as_typed_spread : TypedSelection P → Option (TypedSelection P)
  as_typed_spread (TypedSpread p n ds) = Some (TypedSpread p n ds)
  as_typed_spread _ = None

  -- the selection, if it is an inline fragment
  abbrev pub as_typed_inline : TypedSelection P → Option (TypedSelection P)
  as_typed_inline (TypedInline p c ds s) = Some (TypedInline p c ds s)
  as_typed_inline _ = None

  -- the selections of a list, and of a set, with further ones after them
  abbrev pub and_then : TypedSelections P → TypedSelections P → TypedSelections P
  and_then no_typed more = more
  and_then (typed_then s ss) more = typed_then s (and_then ss more)

  abbrev pub set_and : TypedSelections P → TypedSet P → TypedSet P
  set_and more (typed_set ty ss) = typed_set ty (and_then ss more)

  -- a set, with further selections if `added` is true
  abbrev pub set_and_if : Bool → TypedSelections P → TypedSet P → TypedSet P
  set_and_if added more s = if added then set_and more s else s

  -- a field with this alias, or with none
  abbrev pub aliased : Option (Text P) → TypedSelection P → TypedSelection P
  aliased alias (TypedField p d h s) = TypedField p d (record h { alias = alias }) s
  aliased alias t = t

  -- a field with further arguments
  abbrev pub and_arguments : Arguments P → TypedSelection P → TypedSelection P
  and_arguments more (TypedField p d h s) = TypedField p d (record h { arguments = h.arguments ++ more }) s
  and_arguments more t = t

  -- a selection with further directives
  abbrev pub and_directives : Directives P → TypedSelection P → TypedSelection P
  and_directives more (TypedField p d h s) = TypedField p d (record h { directives = h.directives ++ more }) s
  and_directives more (TypedSpread p n ds) = TypedSpread p n (ds ++ more)
  and_directives more (TypedInline p c ds s) = TypedInline p c (ds ++ more) s

  -- a field or an inline fragment with further selections in its set
  abbrev pub and_selections : TypedSelections P → TypedSelection P → TypedSelection P
  and_selections more (TypedField p d h s) = TypedField p d h (set_and more s)
  and_selections more (TypedSpread p n ds) = TypedSpread p n ds
  and_selections more (TypedInline p c ds s) = TypedInline p c ds (set_and more s)

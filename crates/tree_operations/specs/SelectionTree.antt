-- Selections (GraphQL, October 2021, sections 2.4, 2.5, 2.8).
use Rattle.std.specs.Prelude.{List, [], ◌∷◌, map, Option}
use Rattle.std.specs.Option.{option_map}
use Rattle.tree_directives.specs.in_literals.in_names.Node.{content, place}
use Rattle.tree_directives.specs.in_literals.in_names.Placed.{Place, Text, name_tree, node_tree, unplaced_text}
use Rattle.tree_directives.specs.DirectiveTree.{Arguments, Directives, argument_tree, directives_tree, unplaced_arguments, unplaced_directives}
use Rattle.tree_operations.specs.declared.selection.Selection.{Selection}
use Rattle.tree_operations.specs.declared.selection.Selection.TheOpen.{Selection-F, Field-F, InlineFragment-F, Field, FragmentSpread, InlineFragment}
use Rattle.tree_operations.specs.declared.selection.Selection.TheFolds.{fold-Selection}

-- a field without its selections: alias: name(arguments) @directives
pub record FieldHead (P : Type 0) : Type 0 where
  pub alias : Option (Text P)
  pub name : Text P
  pub arguments : Arguments P
  pub directives : Directives P

-- head { selections }, ...name @directives, ... on condition @directives { selections }
mutual
  pub data SelectionTree (P : Type 0) : Type 0 where
    FieldTree : P → FieldHead P → SelectionTrees P → SelectionTree P
    SpreadTree : P → Text P → Directives P → SelectionTree P
    InlineTree : P → Option (Text P) → Directives P → SelectionTrees P → SelectionTree P

  pub data SelectionTrees (P : Type 0) : Type 0 where
    no_selections : SelectionTrees P
    selection_then : SelectionTree P → SelectionTrees P → SelectionTrees P

abbrev pub selection_trees : {A : Type 0} → (A → SelectionTree Place) → List A → SelectionTrees Place
selection_trees f [] = no_selections
selection_trees f (x ∷ xs) = selection_then (f x) (selection_trees f xs)

abbrev pub AtPlace : Type 0
AtPlace = Place → SelectionTree Place

abbrev pub field_step : Field-F (SelectionTree Place) AtPlace AtPlace → AtPlace
field_step f = λ p. FieldTree p (record {
  alias = option_map name_tree f.alias;
  name = name_tree f.name;
  arguments = map (node_tree argument_tree) f.arguments.items;
  directives = directives_tree f.directives;
}) (selection_trees (λ t. t) f.selection_set.items)

abbrev pub inline_step : InlineFragment-F (SelectionTree Place) AtPlace AtPlace → AtPlace
inline_step f = λ p. InlineTree p (option_map name_tree f.type_condition) (directives_tree f.directives) (selection_trees (λ t. t) f.selection_set.items)

abbrev pub selection_step : Selection-F (SelectionTree Place) AtPlace AtPlace → SelectionTree Place
selection_step (Field n) = content n (place n)
selection_step (FragmentSpread n) = SpreadTree (place n) (name_tree (content n).fragment_name) (directives_tree (content n).directives)
selection_step (InlineFragment n) = content n (place n)

-- the tree of a selection
abbrev pub selection_tree : Selection → SelectionTree Place
selection_tree = fold-Selection (SelectionTree Place) AtPlace AtPlace selection_step field_step inline_step

abbrev pub unplaced_head : {P : Type 0} → FieldHead P → FieldHead (Unit {0})
unplaced_head h = record {
  alias = option_map unplaced_text h.alias;
  name = unplaced_text h.name;
  arguments = unplaced_arguments h.arguments;
  directives = unplaced_directives h.directives;
}

abbrev mutual
  pub unplaced_selection : {P : Type 0} → SelectionTree P → SelectionTree (Unit {0})
  unplaced_selection (FieldTree p h ts) = FieldTree tt (unplaced_head h) (unplaced_selections ts)
  unplaced_selection (SpreadTree p n ds) = SpreadTree tt (unplaced_text n) (unplaced_directives ds)
  unplaced_selection (InlineTree p c ds ts) = InlineTree tt (option_map unplaced_text c) (unplaced_directives ds) (unplaced_selections ts)

  pub unplaced_selections : {P : Type 0} → SelectionTrees P → SelectionTrees (Unit {0})
  unplaced_selections no_selections = no_selections
  unplaced_selections (selection_then t ts) = selection_then (unplaced_selection t) (unplaced_selections ts)

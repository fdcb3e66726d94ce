-- Selections whose fields have definitions and whose sets have types (GraphQL, October 2021, sections 2.4, 2.5 and 2.8).
use Rattle.std.specs.Prelude.{List, [], ◌∷◌, map, Option, Bool, true, false}
use Rattle.std.specs.Option.{option_map}
use Rattle.graphql_names.specs.Node.{content, place}
use Rattle.graphql_names.specs.Placed.{Placed, Place, Text, name_tree, node_tree, unplaced_text, unplaced_node}
use Rattle.tree_directives.specs.DirectiveTree.{Directives, argument_tree, directives_tree, unplaced_directives}
use Rattle.tree_definitions.specs.in_operations.SelectionTree.{FieldHead, unplaced_head}
use Rattle.tree_definitions.specs.in_type_members.TypeSystemTree.{FieldDefinitionTree, field_definition_tree, unplaced_field_definition}
use Rattle.document_typed_selections.specs.declared.selection.Selection.{Selection}
use Rattle.document_typed_selections.specs.declared.selection.Selection.TheOpen.{Selection-F, Field-F, InlineFragment-F, SelectionSet-F, Field, FragmentSpread, InlineFragment}
use Rattle.document_typed_selections.specs.declared.selection.Selection.TheFolds.{fold-Selection, fold-SelectionSet}
use Rattle.document_typed_selections.specs.declared.selection.SelectionSet.{SelectionSet}

-- a field with its definition, ...name @directives, ... on condition @directives { }; and a set on the type of this name
mutual
  pub data TypedSelection (P : Type 0) : Type 0 where
    TypedField : P → Placed P (FieldDefinitionTree P) → FieldHead P → TypedSet P → TypedSelection P
    TypedSpread : P → Text P → Directives P → TypedSelection P
    TypedInline : P → Option (Text P) → Directives P → TypedSet P → TypedSelection P

  pub data TypedSet (P : Type 0) : Type 0 where
    typed_set : Text P → TypedSelections P → TypedSet P

  pub data TypedSelections (P : Type 0) : Type 0 where
    no_typed : TypedSelections P
    typed_then : TypedSelection P → TypedSelections P → TypedSelections P

abbrev pub typed_selections : {A : Type 0} → (A → TypedSelection Place) → List A → TypedSelections Place
typed_selections f [] = no_typed
typed_selections f (x ∷ xs) = typed_then (f x) (typed_selections f xs)

abbrev pub AtPlace : Type 0
AtPlace = Place → TypedSelection Place

abbrev pub field_step : Field-F (TypedSelection Place) AtPlace AtPlace (TypedSet Place) → AtPlace
field_step f = λ p. TypedField p (node_tree field_definition_tree f.definition) (record {
  alias = option_map name_tree f.alias;
  name = name_tree f.name;
  arguments = map (node_tree argument_tree) f.arguments.items;
  directives = directives_tree f.directives;
}) f.selection_set

abbrev pub inline_step : InlineFragment-F (TypedSelection Place) AtPlace AtPlace (TypedSet Place) → AtPlace
inline_step f = λ p. TypedInline p (option_map name_tree f.type_condition) (directives_tree f.directives) f.selection_set

abbrev pub set_step : SelectionSet-F (TypedSelection Place) AtPlace AtPlace (TypedSet Place) → TypedSet Place
set_step s = typed_set (name_tree s.ty) (typed_selections (λ t. t) s.selections.items)

abbrev pub selection_step : Selection-F (TypedSelection Place) AtPlace AtPlace (TypedSet Place) → TypedSelection Place
selection_step (Field n) = content n (place n)
selection_step (FragmentSpread n) = TypedSpread (place n) (name_tree (content n).fragment_name) (directives_tree (content n).directives)
selection_step (InlineFragment n) = content n (place n)

-- what contracts see of a selection, and of a selection set
abbrev pub typed_selection_tree : Selection → TypedSelection Place
typed_selection_tree = fold-Selection (TypedSelection Place) AtPlace AtPlace (TypedSet Place) selection_step field_step inline_step set_step

abbrev pub typed_set_tree : SelectionSet → TypedSet Place
typed_set_tree = fold-SelectionSet (TypedSelection Place) AtPlace AtPlace (TypedSet Place) selection_step field_step inline_step set_step

module _ {P : Type 0} where
  -- the members, in order
  abbrev pub typed_selections_list : TypedSelections P → List (TypedSelection P)
  typed_selections_list no_typed = []
  typed_selections_list (typed_then s ss) = s ∷ typed_selections_list ss

  -- the name of a set's type, and its selections
  abbrev pub set_type : TypedSet P → Text P
  set_type (typed_set ty ss) = ty

  abbrev pub set_selections : TypedSet P → TypedSelections P
  set_selections (typed_set ty ss) = ss

  -- whether a set has no selection
  abbrev pub holds_none : TypedSet P → Bool
  holds_none (typed_set ty no_typed) = true
  holds_none (typed_set ty (typed_then s ss)) = false

abbrev mutual
  pub unplaced_typed_selection : {P : Type 0} → TypedSelection P → TypedSelection (Unit {0})
  unplaced_typed_selection (TypedField p d h s) = TypedField tt (unplaced_node unplaced_field_definition d) (unplaced_head h) (unplaced_typed_set s)
  unplaced_typed_selection (TypedSpread p n ds) = TypedSpread tt (unplaced_text n) (unplaced_directives ds)
  unplaced_typed_selection (TypedInline p c ds s) = TypedInline tt (option_map unplaced_text c) (unplaced_directives ds) (unplaced_typed_set s)

  pub unplaced_typed_set : {P : Type 0} → TypedSet P → TypedSet (Unit {0})
  unplaced_typed_set (typed_set ty ss) = typed_set (unplaced_text ty) (unplaced_typed_selections ss)

  pub unplaced_typed_selections : {P : Type 0} → TypedSelections P → TypedSelections (Unit {0})
  unplaced_typed_selections no_typed = no_typed
  unplaced_typed_selections (typed_then s ss) = typed_then (unplaced_typed_selection s) (unplaced_typed_selections ss)

-- The fields directly in a selection set, without entering fragments (GraphQL, October 2021, section 2.4).
use Rattle.std.specs.Prelude.{List, [], ◌∷◌}
use Rattle.graphql_names.specs.declared.node.Node.{Node}
use Rattle.document_typed_selections.specs.TypedTree.{TypedSelection, TypedField, TypedSelections, no_typed, typed_then}
use Rattle.document_typed_selections.specs.declared.selection.Selection.{Selection}
use Rattle.document_typed_selections.specs.declared.selection.Selection.TheOpen.{Selection-F, Field as FieldOf}
use Rattle.document_typed_selections.specs.declared.selection.Selection.TheViews.{out-Selection}
use Rattle.document_typed_selections.specs.declared.selection.Field.{Field}
use Rattle.document_typed_selections.specs.declared.selection.InlineFragment.{InlineFragment}
use Rattle.document_typed_selections.specs.declared.selection.SelectionSet.{SelectionSet}
use Rattle.document_typed_selections.specs.declared.fields.Fields.{Fields}

-- the fields among selections, in order
abbrev pub fields_in : {P : Type 0} → TypedSelections P → List (TypedSelection P)
fields_in no_typed = []
fields_in (typed_then (TypedField p d h s) ss) = TypedField p d h s ∷ fields_in ss
fields_in (typed_then _ ss) = fields_in ss

-- private: the nodes of these fields
abbrev pub and_field : Selection-F Selection Field InlineFragment SelectionSet → List (Node Field) → List (Node Field)
and_field (FieldOf n) ns = n ∷ ns
and_field _ ns = ns

abbrev pub field_nodes : List Selection → List (Node Field)
field_nodes [] = []
field_nodes (s ∷ ss) = and_field (out-Selection s) (field_nodes ss)

-- the fields that an iterator has still to yield
abbrev pub left_fields : Fields → List (Node Field)
left_fields it = field_nodes it.rest.now

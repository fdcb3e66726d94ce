-- Small documents, selections and a value, for which the laws ask nothing that is not so.
use Rattle.std.specs.Prelude.{◌≡◌, ℕ, true, List, [], ◌∷◌, codes, None, Some}
use Rattle.std.specs.List.{list_all}
use Rattle.std.proofs.Common.{refl}
use Rattle.round_trip.specs.in_literals.Joined.{joined}
use Rattle.read_operations.specs.in_literals.ValueLayout.{value_text}
use Rattle.read_operations.specs.in_directives.declared.operation_type.OperationType.TheVariants.{Query}
use Rattle.graphql_names.specs.Placed.{Text}
use Rattle.read_operations.specs.in_values.Writable.{value_writable, selections_writable}
use Rattle.read_operations.specs.in_literals.TypeTree.{NamedTree}
use Rattle.read_operations.specs.in_literals.ValueTree.{ValueTree, StringTree, FloatTree, IntTree, ListTree, no_items, item_then}
use Rattle.read_operations.specs.in_operations.SelectionTree.{SelectionTrees, FieldTree, SpreadTree, no_selections, selection_then}
use Rattle.read_operations.specs.in_definitions.DefinitionTree.{DefinitionTree, Operation, UnionType, ObjectType, ExtendInterface}
use Rattle.read_operations.specs.in_definitions.DocumentLayout.{document_text}
use Rattle.read_operations.specs.in_definitions.Writable.{definition_writable}
use Rattle.round_trip.specs.WellFormed.{value_well_formed, selections_well_formed}
use Rattle.round_trip.specs.SelectionsLayout.{selections_text}
use Rattle.round_trip.specs.Definitions.{definition_well_formed}

abbrev plain : List ℕ → Text (Unit {0})
plain text = record { it = text; place = tt }

abbrev some_value : ValueTree (Unit {0})
some_value = ListTree (item_then tt (IntTree (codes "-10")) (item_then tt (FloatTree (codes "1.5e3")) (item_then tt (StringTree (codes "a")) no_items)))

value_row : (value_well_formed some_value ≡ true) × ((value_writable true some_value ≡ true) × (value_text some_value ≡ codes "[-10, 1.5e3, \"a\"]"))
unfolding joined
value_row = (refl, (refl, refl))

abbrev some_operation : DefinitionTree (Unit {0})
some_operation = Operation tt (record {
  operation_type = Query;
  name = Some (plain (codes "q"));
  variables = [];
  directives = [];
  selections = selection_then (FieldTree tt (record { alias = None; name = plain (codes "a"); arguments = []; directives = [] }) no_selections) no_selections;
})

operation_row : (definition_well_formed some_operation ≡ true) × ((definition_writable some_operation ≡ true) × (document_text None 0 (some_operation ∷ []) ≡ codes "query q { a }"))
unfolding joined
operation_row = (refl, (refl, refl))

abbrev some_selections : SelectionTrees (Unit {0})
some_selections = selection_then (FieldTree tt (record { alias = None; name = plain (codes "a"); arguments = []; directives = [] }) no_selections) (selection_then (SpreadTree tt (plain (codes "b")) []) no_selections)

selections_row : (selections_well_formed some_selections ≡ true) × ((selections_writable some_selections ≡ true) × (selections_text None some_selections 1 ≡ codes "a ...b"))
unfolding joined
selections_row = (refl, (refl, refl))

selections_on_lines_row : selections_text (Some (codes " ")) some_selections 1 ≡ codes " a\n ...b"
unfolding joined
selections_on_lines_row = refl

abbrev some_types : List (DefinitionTree (Unit {0}))
some_types =
    UnionType tt (Some (plain (codes "d"))) (record { name = plain (codes "U"); directives = []; members = plain (codes "A") ∷ [] })
    ∷ ObjectType tt None (record { name = plain (codes "A"); interfaces = plain (codes "I") ∷ []; directives = []; fields = [] })
    ∷ ExtendInterface tt (record {
      name = plain (codes "I");
      interfaces = [];
      directives = [];
      fields = record { place = tt; it = record { description = None; name = plain (codes "f"); arguments = []; ty = NamedTree (plain (codes "A")); directives = [] } } ∷ [];
    })
    ∷ []

types_row : (list_all definition_well_formed some_types ≡ true) × ((list_all definition_writable some_types ≡ true) × (document_text None 0 some_types ≡ codes "\"d\" union U = A type A implements I extend interface I { f: A }"))
unfolding joined
types_row = (refl, (refl, refl))

types_on_lines_row : document_text (Some (codes " ")) 0 some_types ≡ codes "\"d\"\nunion U = A\n\ntype A implements I\n\nextend interface I {\n f: A\n}\n"
unfolding joined
types_on_lines_row = refl

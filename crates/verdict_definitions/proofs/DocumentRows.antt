-- Rows that are refused by a rule on documents or on merging.
use Rattle.std.proofs.Common.{ℕ, List, [], ◌∷◌, codes, bytes_eq, None, Some, refl, ap, subst, inl, inr, true≢false, arith}
use Rattle.graphql_names.specs.Placed.{Place, Placed}
use Rattle.schema_built_in.specs.Table.{built_in_definitions}
use Rattle.tree_definitions.specs.DefinitionTree.{Operation}
use Rattle.graphql_faults.specs.in_grammar.Places.{place_in}
use Rattle.schema_fold.specs.in_directives.declared.operation_type.OperationType.TheVariants.{Query}
use Rattle.schema_fold.specs.in_literals.TypeTree.{NamedTree}
use Rattle.tree_definitions.specs.in_operations.SelectionTree.{FieldHead, FieldTree, no_selections, selection_then}
use Rattle.tree_definitions.specs.in_operations.OperationTree.{OperationTree, VariableDefinitionTree}
use Rattle.schema_types.specs.SchemaTree.{SchemaTree}
use Rattle.document_typing.specs.KeptDocument.{kept_document, meant_operation}
use Rattle.spec_document.specs.MeantTree.{Definition, MeantDocument, MeantOperation, MeantField, meant_set, no_meant}
use Rattle.rule_definitions.specs.Diagnostics.{UnusedVariable}
use Rattle.rule_definitions.specs.Faults.{wrong}
use Rattle.rule_definitions.proofs.Lists.{not_in_nil}
use Rattle.graphql_faults.specs.in_document_rule_definitions.DocumentFaults.{OfData, OfDocument, broken}
use Rattle.graphql_faults.specs.in_document_rule_definitions.Selected.{Standing, StandingField, InOperation, SelectionAt}
use Rattle.graphql_faults.specs.in_document_rule_definitions.Reached.{first}
use Rattle.graphql_faults.specs.in_document_rule_definitions.UsedVariables.{IsUsedIn, IsInSelection}
use Rattle.graphql_faults.specs.in_document_rule_definitions.Merging.{SameName, telling}
use Rattle.graphql_faults.specs.in_document_rule_definitions.PlacedDocumentFaults.{PlacedDocumentFault, DocumentFails, DocumentMergingFails}
use Rattle.graphql_faults.proofs.in_document_rule_definitions.RowWords.{of_present, not_at_index, none_reached, no_fragment}
use Rattle.graphql_faults.specs.in_document_errors.DocumentBreaches.{ConflictingFieldName}
use Rattle.graphql_faults.specs.DetailsTree.{of_document}
use Rattle.verdict_definitions.specs.Texts.{SourceText, Tree, ReadsText}
use Rattle.verdict_definitions.specs.Meaning.{document_schema, document_over}
use Rattle.verdict_definitions.specs.Judge.{IsAccepted}
use Rattle.verdict_definitions.specs.Says.{SaysDocument}
use Rattle.verdict_definitions.proofs.RowReading.{reader, reads}
use Rattle.verdict_definitions.proofs.RowTrees.{terms, named, node, field_definition, object, field}
use Rattle.verdict_definitions.proofs.RowMeanings.{meanings_found, same_meanings}
use Rattle.verdict_definitions.proofs.RowJudging.{document_refused, merging_refused}
use Rattle.verdict_definitions.proofs.TextRows.{query_field, query_field_tree, query_field_reads}

-- a field of type Int, as the schema has it
abbrev int_field : List ℕ → Definition
int_field name = record { description = None; name = record { it = name; place = tt }; arguments = []; ty = NamedTree (record { it = codes "Int"; place = tt }); directives = [] }

-- ---- S `type Query { field: Int }`, D `query Q($v: Int) { field }`: `UnusedVariable` at 2:8

abbrev pub unused : SourceText
unused = codes "query Q($v: Int) { field }"

abbrev pub v_variable : Placed Place (VariableDefinitionTree Place)
v_variable = node (record { name = named (codes "v") (place_in 2 9 10); ty = node (NamedTree (named (codes "Int") (place_in 2 12 15))) (place_in 2 12 15); default_value = None; directives = [] }) (place_in 2 8 15)

abbrev unused_query : OperationTree Place
unused_query = record { operation_type = Query; name = Some (named (codes "Q") (place_in 2 6 7)); variables = v_variable ∷ []; directives = []; selections = field (codes "field") 19 24 no_selections }

abbrev pub unused_tree : Tree
unused_tree = Operation (place_in 2 0 26) unused_query ∷ []

pub unused_reads : ReadsText 2 unused unused_tree
unfolding reader
unused_reads = reads 500 2 unused unused_tree refl

abbrev pub field_schema : SchemaTree Place
field_schema = document_schema terms (query_field_tree ∷ [])

abbrev pub unused_document : MeantDocument Place
unused_document = kept_document (meanings_found field_schema) unused_tree

abbrev pub unused_operation : MeantOperation Place
unused_operation = meant_operation (meanings_found field_schema) (record { place = place_in 2 0 26; base = codes "Query"; it = unused_query })

abbrev pub unused_fault : PlacedDocumentFault
unused_fault = OfData (wrong (place_in 2 8 10) (UnusedVariable (codes "v")))

-- its one selection
abbrev field_head : FieldHead Place
field_head = record { alias = None; name = named (codes "field") (place_in 2 19 24); arguments = []; directives = [] }

abbrev pub field_there : StandingField Place
field_there = record { position = SelectionAt (InOperation (Some (codes "Q"))) 0; parent = codes "Query"; place = place_in 2 19 24; definition = int_field (codes "field"); head = field_head; set = meant_set (codes "Int") no_meant }

abbrev field_standing : Standing Place
field_standing = record { position = SelectionAt (InOperation (Some (codes "Q"))) 0; parent = codes "Query"; it = MeantField (place_in 2 19 24) (int_field (codes "field")) field_head (meant_set (codes "Int") no_meant) }

not_in_field : IsInSelection (codes "v") field_standing → ⊥
not_in_field (inl h) = not_at_index h
not_in_field (inr h) = not_at_index (of_present field_there h)

not_used : IsUsedIn (codes "v") unused_document unused_operation → ⊥
unfolding built_in_definitions place_in
not_used (inl h) = not_at_index h
not_used (inr (inl h)) = none_reached unused_document unused_operation 1 refl h (not_in_field, tt)
not_used (inr (inr h)) = no_fragment unused_document unused_operation 1 refl (refl, tt) h

unused_fails : DocumentFails field_schema unused_document unused_fault
unfolding built_in_definitions place_in
unused_fails = inl (
  unused_operation,
  (
    (0, omega arith, refl),
    inl (inr (inr (inl (
      0,
      (
        v_variable,
        (
          refl,
          (
            not_used,
            (
              place_in 2 8 10,
              (
                record {
                  other_file = λ h. absurd (h refl);
                  before = λ same less. absurd (omega (arith, less));
                  reaches = λ same le. record { file = refl; begins = refl; ends = refl };
                },
                refl,
              ),
            ),
          ),
        ),
      ),
    )))),
  ),
)

unused_fails_over : DocumentFails field_schema (document_over field_schema unused_tree) unused_fault
unused_fails_over = subst (λ m. DocumentFails field_schema (kept_document m unused_tree) unused_fault) (same_meanings field_schema) unused_fails

pub unused_refused : IsAccepted terms (query_field ∷ []) unused → ⊥
unused_refused = document_refused terms query_field unused query_field_tree query_field_reads unused_tree unused_reads (λ f c. not_in_nil f c) unused_fault unused_fails_over

pub unused_said : SaysDocument field_schema 500 2 unused (of_document unused_fault)
unused_said = inr (unused_tree, (unused_reads, inr (unused_fault, (refl, inl unused_fails_over))))

-- ---- S `type Query { a: Int b: Int }`, D `{ x: a x: b }`: `ConflictingFieldName` at 2:7

abbrev pub a_and_b : SourceText
a_and_b = codes "type Query { a: Int b: Int }"

abbrev a_and_b_tree : Tree
a_and_b_tree = object (place_in 1 0 28) (named (codes "Query") (place_in 1 5 10)) (field_definition (codes "a") 13 14 (codes "Int") 16 19 ∷ field_definition (codes "b") 20 21 (codes "Int") 23 26 ∷ []) ∷ []

a_and_b_reads : ReadsText 1 a_and_b a_and_b_tree
unfolding reader
a_and_b_reads = reads 500 1 a_and_b a_and_b_tree refl

abbrev pub conflict : SourceText
conflict = codes "{ x: a x: b }"

abbrev x_is_a : FieldHead Place
x_is_a = record { alias = Some (named (codes "x") (place_in 2 2 3)); name = named (codes "a") (place_in 2 5 6); arguments = []; directives = [] }

abbrev x_is_b : FieldHead Place
x_is_b = record { alias = Some (named (codes "x") (place_in 2 7 8)); name = named (codes "b") (place_in 2 10 11); arguments = []; directives = [] }

abbrev conflict_query : OperationTree Place
conflict_query = record {
  operation_type = Query;
  name = None;
  variables = [];
  directives = [];
  selections = selection_then (FieldTree (place_in 2 2 6) x_is_a no_selections) (selection_then (FieldTree (place_in 2 7 11) x_is_b no_selections) no_selections);
}

abbrev pub conflict_tree : Tree
conflict_tree = Operation (place_in 2 0 13) conflict_query ∷ []

pub conflict_reads : ReadsText 2 conflict conflict_tree
unfolding reader
conflict_reads = reads 500 2 conflict conflict_tree refl

abbrev pub a_and_b_schema : SchemaTree Place
a_and_b_schema = document_schema terms (a_and_b_tree ∷ [])

abbrev pub conflict_operation : MeantOperation Place
conflict_operation = meant_operation (meanings_found a_and_b_schema) (record { place = place_in 2 0 13; base = codes "Query"; it = conflict_query })

-- the field of that name, at that index of the operation, without what it selects
abbrev standing_at : ℕ → List ℕ → Place → FieldHead Place → Standing Place
standing_at index name place head = record { position = SelectionAt (InOperation None) index; parent = codes "Query"; it = MeantField place (int_field name) head (meant_set (codes "Int") no_meant) }

abbrev field_at : ℕ → List ℕ → Place → FieldHead Place → StandingField Place
field_at index name place head = record { position = SelectionAt (InOperation None) index; parent = codes "Query"; place = place; definition = int_field name; head = head; set = meant_set (codes "Int") no_meant }

abbrev pub first_x : StandingField Place
first_x = field_at 0 (codes "a") (place_in 2 2 6) x_is_a

abbrev pub second_x : StandingField Place
second_x = field_at 1 (codes "b") (place_in 2 7 11) x_is_b

abbrev pub conflict_fault : PlacedDocumentFault
conflict_fault = OfDocument (broken (place_in 2 7 11) (ConflictingFieldName (codes "x") (telling first_x tt) (telling second_x tt)))

conflict_fails : DocumentMergingFails a_and_b_schema (kept_document (meanings_found a_and_b_schema) conflict_tree) conflict_fault
unfolding built_in_definitions place_in
conflict_fails = (
  conflict_operation,
  (
    (0, omega arith, refl),
    inr (inl (
      first_x,
      (
        second_x,
        (
          (
            [],
            (
              [],
              (
                ((standing_at 0 (codes "a") (place_in 2 2 6) x_is_a, (first (0, omega arith, refl), refl)), tt),
                (((standing_at 1 (codes "b") (place_in 2 7 11) x_is_b, (first (1, omega arith, refl), refl)), tt), ((refl, inl refl), tt)),
              ),
            ),
          ),
          (differ, refl),
        ),
      ),
    )),
  ),
)
  where
    differ : SameName first_x second_x → ⊥
    differ e = true≢false (ap (λ n. bytes_eq n (codes "a")) e)

conflict_fails_over : DocumentMergingFails a_and_b_schema (document_over a_and_b_schema conflict_tree) conflict_fault
conflict_fails_over = subst (λ m. DocumentMergingFails a_and_b_schema (kept_document m conflict_tree) conflict_fault) (same_meanings a_and_b_schema) conflict_fails

pub conflict_refused : IsAccepted terms (a_and_b ∷ []) conflict → ⊥
conflict_refused = merging_refused terms a_and_b conflict a_and_b_tree a_and_b_reads conflict_tree conflict_reads (λ f c. not_in_nil f c) conflict_fault conflict_fails_over

pub conflict_said : SaysDocument a_and_b_schema 500 2 conflict (of_document conflict_fault)
conflict_said = inr (conflict_tree, (conflict_reads, inr (conflict_fault, (refl, inr (inl conflict_fails_over)))))

-- What is no valid document or no valid schema by the book, and what does not merge: if the book left out the rule, or had it wrong, these laws would
-- fail.
use Rattle.std.specs.Prelude.{◌≡◌, ℕ, true, List, Contains, None, Some}
use Rattle.graphql_names.specs.Placed.{Placed}
use Rattle.tree_operations.specs.OperationTree.{VariableDefinitionTree}
use Rattle.tree_type_members.specs.TypeSystemTree.{FieldDefinitionTree}
use Rattle.schema_types.specs.Looks.{TypeLooks}
use Rattle.rule_definitions.specs.Judged.{Judged}
use Rattle.rule_definitions.specs.Names.{defined_name}
use Rattle.rule_document_definitions.specs.Selected.{operations, own, field_name, response_key}
use Rattle.rule_document_definitions.specs.UsedVariables.{IsUsedIn}
use Rattle.book_validity.specs.Words.{Document, Operation, Field, Never}
use Rattle.book_validity.specs.FieldSelectionMerging.{IsIn}
use Rattle.book_validity.specs.Document.{IsValidDocument, DoFieldsMerge}
use Rattle.book_validity.specs.Schema.{IsValidSchema}

-- an operation with a variable that it does not use
abbrev pub UnusedVariableIsInvalid : Type 0
UnusedVariableIsInvalid = (s : Judged) (d : Document) (o : Operation) (x : Placed (Unit {0}) (VariableDefinitionTree (Unit {0}))) → Contains (operations d) o → Contains o.variables x
    → Never (IsUsedIn (defined_name x) d o) → Never (IsValidDocument s d)

-- two fields of an operation on one type, with one response key and different names
abbrev pub ConflictingFieldsDoNotMerge : Type 0
ConflictingFieldsDoNotMerge = (s : Judged) (d : Document) (o : Operation) (f g : Field) → Contains (operations d) o → IsIn d (own o) f → IsIn d (own o) g
    → response_key f ≡ response_key g → f.parent ≡ g.parent → Never (field_name f ≡ field_name g) → Never (DoFieldsMerge s d)

-- a type without a field m of an interface i that it implements
abbrev pub MissingFieldIsInvalid : Type 0
MissingFieldIsInvalid = (s : Judged) (n i m : List ℕ) (t over : TypeLooks) (wanted : FieldDefinitionTree (Unit {0})) → s.type_named n ≡ Some t → t.implements i ≡ true
    → s.type_named i ≡ Some over → over.field m ≡ Some wanted → t.field m ≡ None → Never (IsValidSchema s)

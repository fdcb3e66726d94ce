-- Rows of the book: S `type Query { field: Int }`, D `{ field }` has a yes, and so each of its records has a value; an unused
-- variable and two conflicting fields have none.
use Rattle.std.proofs.Common.{[], ◌∷◌}
use Rattle.schema_built_in.specs.Table.{built_in_definitions}
use Rattle.rule_definitions.specs.Judged.{judged}
use Rattle.verdict_definitions.specs.Meaning.{all_definitions, schema_of, meanings_over}
use Rattle.verdict_definitions.proofs.RowTrees.{terms}
use Rattle.verdict_definitions.proofs.TextRows.{query_field, just_field}
use Rattle.verdict_definitions.proofs.PairRows.{pair_accepted}
use Rattle.verdict_definitions.proofs.DocumentRows.{unused, unused_refused, a_and_b, conflict, conflict_refused}
use Rattle.book_validity.specs.Schema.{IsValidSchema}
use Rattle.book_validity.specs.Document.{IsValidDocument, DoFieldsMerge}
use Rattle.book_validity.specs.Typing.{IsTypedDocument}
use Rattle.book_validity.specs.Folding.{AreFoldable}
use Rattle.book_validity.specs.Yes.{meaning_over, schema_for_documents, IsYes}
use Rattle.book_validity.proofs.AcceptedFacts.{accepted_by_the_book}

pub pair_yes : IsYes terms (query_field ∷ []) just_field
pair_yes = (accepted_by_the_book terms (query_field ∷ []) just_field).0 pair_accepted

-- ---- each part of it

folds : AreFoldable built_in_definitions (all_definitions pair_yes.schema.trees)
folds = pair_yes.schema.folds

schema_valid : IsValidSchema (judged (schema_of terms pair_yes.schema.trees))
schema_valid = pair_yes.schema.valid

typed : IsTypedDocument (meanings_over (schema_for_documents terms pair_yes.schema.trees)) pair_yes.over.tree
typed = pair_yes.over.typed

document_valid : IsValidDocument (judged (schema_for_documents terms pair_yes.schema.trees)) (meaning_over (schema_for_documents terms pair_yes.schema.trees) pair_yes.over.tree)
document_valid = pair_yes.over.valid

merges : DoFieldsMerge (judged (schema_for_documents terms pair_yes.schema.trees)) (meaning_over (schema_for_documents terms pair_yes.schema.trees) pair_yes.over.tree)
merges = pair_yes.over.merges

-- ---- no yes

unused_has_none : IsYes terms (query_field ∷ []) unused → ⊥
unused_has_none accepted = unused_refused ((accepted_by_the_book terms (query_field ∷ []) unused).1 accepted)

conflict_has_none : IsYes terms (a_and_b ∷ []) conflict → ⊥
conflict_has_none accepted = conflict_refused ((accepted_by_the_book terms (a_and_b ∷ []) conflict).1 accepted)

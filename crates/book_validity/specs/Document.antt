-- A valid document: every rule of section 5, as the specification states it, holds of what the document means over a schema.
-- Faults and places play no part. Typing (3.3.1, 5.1.1, 5.2.1.1, 5.2.2.1, 5.3.1, 5.3.3, 5.5.1.1, 5.5.1.2) comes before it.
use Rattle.std.specs.Prelude.{◌≡◌}
use Rattle.tree_directives.specs.declared.operation_type.OperationType.TheVariants as operation
use Rattle.tree_directives.specs.OperationQueries.{location_of_operation}
use Rattle.rule_definitions.specs.Words.{IfPresent}
use Rattle.rule_definitions.specs.Judged.{Judged}
use Rattle.rule_document_definitions.specs.Selected.{as_field, selection_location, selection_directives, operations}
use Rattle.rule_document_definitions.specs.Reached.{Reached, ReachesFragment}
use Rattle.book_validity.specs.Words.{Document, Operation, Fragment, Selection, Each}
use Rattle.book_validity.specs.Directives.{AreDirectivesValid}
use Rattle.book_validity.specs.Fields.{IsValidField}
use Rattle.book_validity.specs.FieldSelectionMerging.{DoItsFieldsMerge}
use Rattle.book_validity.specs.Fragments.{IsValidSpread, IsValidFragment, AreFragmentsUsed}
use Rattle.book_validity.specs.Variables.{AreVariablesValid}
use Rattle.book_validity.specs.Subscriptions.{IsValidSubscription}
use Rattle.book_validity.specs.Defer.{AreDefersValid, AreLabelsValid}

-- a selection that an operation reaches
pub record IsValidSelection (s : Judged) (d : Document) (o : Operation) (x : Selection) : Type 0 where
  -- 5.3 Fields
  pub field : IfPresent (as_field x) (IsValidField s o)
  -- 5.5 Fragments
  pub spread : IsValidSpread s d x
  -- 5.7 Directives
  pub directives : AreDirectivesValid s o.variables (selection_location x.it) (selection_directives x.it)

pub record IsValidOperation (s : Judged) (d : Document) (o : Operation) : Type 0 where
  -- 5.2.3 Subscription Operation Definitions
  pub subscription : o.operation_type ≡ operation.Subscription → IsValidSubscription d o
  -- 5.3 to 5.8, of each selection and each fragment that it reaches
  pub selections : (x : Selection) → Reached d o x → IsValidSelection s d o x
  pub fragments : (f : Fragment) → ReachesFragment d o f → IsValidFragment s d o f
  -- 5.7 Directives
  pub directives : AreDirectivesValid s o.variables (location_of_operation o.operation_type) o.directives
  -- 5.8 Variables
  pub variables : AreVariablesValid s d o
  -- @defer
  pub defers : AreDefersValid d o

pub record IsValidDocument (s : Judged) (d : Document) : Type 0 where
  pub operations : Each (operations d) (IsValidOperation s d)
  -- 5.5.1.4 Fragments Must Be Used
  pub fragments : AreFragmentsUsed d
  -- @defer
  pub labels : AreLabelsValid d

-- 5.3.2 Field Selection Merging
abbrev pub DoFieldsMerge : Judged → Document → Type 0
DoFieldsMerge s d = Each (operations d) (DoItsFieldsMerge s d)

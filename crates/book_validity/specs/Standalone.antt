-- A document that is valid without a schema: the rules of section 5 that do not depend on types (5.4.2, 5.5, 5.6.3, 5.7.1 and 5.8).
-- No directive is defined then, so none is used.
use Rattle.rule_definitions.specs.Words.{IfPresent}
use Rattle.rule_definitions.specs.Names.{argument_name, defined_name}
use Rattle.rule_document_definitions.specs.Selected.{operations, as_field, spread_name, selection_directives, fragment_named}
use Rattle.rule_document_definitions.specs.Reached.{Closed, Reached, ReachesFragment}
use Rattle.rule_document_definitions.specs.UsedVariables.{IsUsedIn}
use Rattle.book_validity.specs.Words.{Document, Operation, Fragment, Selection, Given, Applied, Never, Each, IsThere, AreUnique}
use Rattle.book_validity.specs.Values.{HasUniqueKeys}
use Rattle.book_validity.specs.Fragments.{Spreads, AreFragmentsUsed}
use Rattle.book_validity.specs.Defer.{AreDefersValid, AreLabelsValid}

-- 5.7.1 Directives Are Defined: none is
abbrev pub UsesNone : Applied → Type 0
UsesNone ds = Each ds (λ e. ⊥)

-- the arguments that are given
pub record AreArgumentsValidAlone (given : Given) : Type 0 where
  -- 5.4.2 Argument Uniqueness
  pub unique : AreUnique argument_name given
  -- 5.6.3 Input Object Field Uniqueness
  pub keys : Each given (λ a. HasUniqueKeys a.it.value.it)

-- a selection that an operation reaches
pub record IsValidSelectionAlone (d : Document) (x : Selection) : Type 0 where
  pub arguments : IfPresent (as_field x) (λ f. AreArgumentsValidAlone f.head.arguments)
  -- 5.5.2.1 Fragment Spread Target Defined
  pub defined : IfPresent (spread_name x.it) (λ n. IsThere (fragment_named d n))
  pub directives : UsesNone (selection_directives x.it)

-- a fragment that an operation reaches
pub record IsValidFragmentAlone (d : Document) (f : Fragment) : Type 0 where
  -- 5.5.2.2 Fragment Spreads Must Not Form Cycles
  pub acyclic : Never (Closed (Spreads d f.name.it) (Spreads d) f.name.it)
  pub directives : UsesNone f.directives

pub record IsValidOperationAlone (d : Document) (o : Operation) : Type 0 where
  -- 5.8.1 Variable Uniqueness
  pub unique : AreUnique defined_name o.variables
  -- 5.6.3 Input Object Field Uniqueness: of a default
  pub keys : Each o.variables (λ x. IfPresent x.it.default_value (λ v. HasUniqueKeys v.it))
  -- 5.8.4 All Variables Used
  pub used : Each o.variables (λ x. IsUsedIn (defined_name x) d o)
  pub selections : (x : Selection) → Reached d o x → IsValidSelectionAlone d x
  pub fragments : (f : Fragment) → ReachesFragment d o f → IsValidFragmentAlone d f
  pub directives : UsesNone o.directives
  pub variable_directives : Each o.variables (λ x. UsesNone x.it.directives)
  -- @defer
  pub defers : AreDefersValid d o

pub record IsValidAlone (d : Document) : Type 0 where
  pub operations : Each (operations d) (IsValidOperationAlone d)
  -- 5.5.1.4 Fragments Must Be Used
  pub fragments : AreFragmentsUsed d
  -- @defer
  pub labels : AreLabelsValid d

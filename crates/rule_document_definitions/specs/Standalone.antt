-- The rules on a document without a schema (GraphQL, October 2021, sections 5.4.2, 5.5, 5.6.3, 5.7.1 and 5.8).
use Rattle.std.specs.Prelude.{false, [], None, ◌⊎◌}
use Rattle.tree_directives.specs.DirectiveTree.{Arguments, Directives}
use Rattle.spec_document.specs.MeantTree.{MeantOperation, MeantDocument}
use Rattle.rule_definitions.specs.Words.{AtSomeIndex}
use Rattle.rule_definitions.specs.Faults.{FaultAt}
use Rattle.rule_definitions.specs.Judged.{Judged}
use Rattle.rule_definitions.specs.Values.{UniqueInputValueIn}
use Rattle.rule_definitions.specs.Uses.{UniqueArgumentAt, UndefinedDirectiveAt}
use Rattle.rule_document_definitions.specs.Places.{Places}
use Rattle.rule_document_definitions.specs.DocumentFaults.{DocumentFault, OfData, OfDocument, OfLimit}
use Rattle.rule_document_definitions.specs.Selected.{selection_directives}
use Rattle.rule_document_definitions.specs.Reached.{AtOperation, AtReached, AtReachedField, AtReachedFragment}
use Rattle.rule_document_definitions.specs.Variables.{UniqueVariableAt, UniqueDefaultKeyAt, UnusedVariableAt}
use Rattle.rule_document_definitions.specs.Fragments.{UndefinedFragmentAt, RecursiveFragmentDefinitionAt, UnusedFragmentAt}
use Rattle.rule_document_definitions.specs.DocumentRules.{DeferredBreaks}

-- a schema with no type and no directive
abbrev pub no_schema : Judged
no_schema = record {
  definition = record { description = None; directives = []; query = None; mutation = None; subscription = None };
  directive = λ n. None;
  type_named = λ n. None;
  built_in = λ a. false;
}

module _ {P E : Type 0} (places : Places P) (d : MeantDocument P) (fault : FaultAt P E) where
  -- UniqueArgument or UniqueInputValue is broken by given arguments, with this fault
  abbrev pub GivenBreaksAlone : Arguments P → Type 0
  GivenBreaksAlone given = UniqueArgumentAt places.at no_schema [] given fault ⊎ AtSomeIndex given (λ i a. UniqueInputValueIn a.it.value.it fault)

  -- one of these rules is broken by directives at one place, or UndefinedDirective, as no directive is defined
  abbrev pub UsesBreakAlone : Directives P → Type 0
  UsesBreakAlone ds = AtSomeIndex ds (λ i e. UndefinedDirectiveAt places.at no_schema [] e fault ⊎ GivenBreaksAlone e.it.arguments)

  -- one of these rules is broken in an operation, by its variables, or by what it reaches
  abbrev pub GivenInBreaks : MeantOperation P → Type 0
  GivenInBreaks o =
      UsesBreakAlone o.directives
      ⊎ (AtSomeIndex o.variables (λ i x. UsesBreakAlone x.it.directives)
      ⊎ (AtReached d o (λ x. UsesBreakAlone (selection_directives x.it))
      ⊎ (AtReachedField d o (λ f. GivenBreaksAlone f.head.arguments)
      ⊎ AtReachedFragment d o (λ f. UsesBreakAlone f.directives))))

  abbrev pub OperationBreaksAlone : MeantOperation P → Type 0
  OperationBreaksAlone o =
      UniqueVariableAt o fault ⊎ (UniqueDefaultKeyAt o fault ⊎ (UnusedVariableAt o fault places d
      ⊎ (UndefinedFragmentAt d fault o ⊎ (RecursiveFragmentDefinitionAt d fault places o ⊎ GivenInBreaks o))))

-- one of these rules, or one on `@defer`, is broken, with this fault
abbrev pub StandaloneFails : {P E : Type 0} → Places P → MeantDocument P → DocumentFault P E → Type 0
StandaloneFails places d (OfData fault) = AtOperation d (λ o. OperationBreaksAlone places d fault o) ⊎ UnusedFragmentAt d fault
StandaloneFails places d (OfDocument fault) = DeferredBreaks d fault
StandaloneFails places d (OfLimit place) = ⊥

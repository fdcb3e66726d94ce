-- Variables (section 5.8).
use Rattle.std.specs.Prelude.{◌≡◌, List, [], ℕ, true}
use Rattle.tree_literals.specs.TypeTree.{unplaced_type}
use Rattle.tree_directives.specs.declared.directive_location.DirectiveLocation.TheVariants as location
use Rattle.schema_types.specs.SchemaTree.{is_input_kind}
use Rattle.rule_definitions.specs.Words.{Present, IfPresent}
use Rattle.rule_definitions.specs.Judged.{Judged}
use Rattle.rule_definitions.specs.Names.{defined_name}
use Rattle.rule_definitions.specs.GivenValues.{wanted_name}
use Rattle.rule_document_definitions.specs.UsedVariables.{wanted_by, IsUsedIn}
use Rattle.book_validity.specs.Words.{Document, Operation, Each, AreUnique}
use Rattle.book_validity.specs.Coercion.{IsOfCorrectType}
use Rattle.book_validity.specs.Values.{HasUniqueKeys}
use Rattle.book_validity.specs.Directives.{AreDirectivesValid}

-- the type of this name exists, and is an input type (IsInputType, section 3.4.2)
abbrev pub IsInputType : Judged → List ℕ → Type 0
IsInputType s n = Present (s.type_named n) (λ t. is_input_kind t.kind ≡ true)

pub record AreVariablesValid (s : Judged) (d : Document) (o : Operation) : Type 0 where
  -- 5.8.1 Variable Uniqueness
  pub unique : AreUnique defined_name o.variables
  -- 5.8.2 Variables Are Input Types
  pub input_types : Each o.variables (λ x. IsInputType s (wanted_name (wanted_by x.it)))
  -- 5.8.4 All Variables Used
  pub used : Each o.variables (λ x. IsUsedIn (defined_name x) d o)
  -- 5.6.1 Values of Correct Type: of a default, in which there are no variables
  pub defaults : Each o.variables (λ x. IfPresent x.it.default_value (λ v. IsOfCorrectType s [] (unplaced_type x.it.ty.it) v.it))
  -- 5.6.3 Input Object Field Uniqueness
  pub keys : Each o.variables (λ x. IfPresent x.it.default_value (λ v. HasUniqueKeys v.it))
  -- 5.7 Directives
  pub directives : Each o.variables (λ x. AreDirectivesValid s [] location.VariableDefinition x.it.directives)

-- Arguments (section 5.4), with the rules on the values and variables that are given by them (5.6, 5.8.3 and 5.8.5): of a field
-- or of a directive, whose argument definitions these are.
use Rattle.std.specs.Prelude.{◌≡◌, true, false}
use Rattle.tree_literals.specs.ValueQueries.{variable_name}
use Rattle.tree_directives.specs.DirectiveTree.{InputValues}
use Rattle.tree_directives.specs.DirectiveQueries.{is_required_input, given_value}
use Rattle.rule_definitions.specs.Words.{IfPresent}
use Rattle.rule_definitions.specs.Judged.{Judged}
use Rattle.rule_definitions.specs.Names.{defined_name, argument_name, input_name}
use Rattle.rule_definitions.specs.GivenValues.{is_absent_or_null}
use Rattle.rule_definitions.specs.VariableUsage.{IsVariableUsageAllowed}
use Rattle.book_validity.specs.Words.{OperationVariables, Given, Each, IsThere, AreUnique, named}
use Rattle.book_validity.specs.Coercion.{IsOfCorrectType}
use Rattle.book_validity.specs.Values.{HasUniqueKeys}

pub record AreArgumentsValid (s : Judged) (variables : OperationVariables) (definitions : InputValues (Unit {0})) (given : Given) : Type 0 where
  -- 5.4.1 Argument Names: each argument that is given is defined
  pub names : Each given (λ a. IsThere (named input_name definitions (argument_name a)))
  -- 5.4.2 Argument Uniqueness
  pub unique : AreUnique argument_name given
  -- 5.4.2.1 Required Arguments: each required argument is given, and not as null
  pub required : Each definitions (λ v. is_required_input v.it ≡ true → is_absent_or_null (given_value (input_name v) given) ≡ false)
  -- 5.6.1 Values of Correct Type, with 5.6.2, 5.6.4 and 5.8.3
  pub values : Each given (λ a. IfPresent (named input_name definitions (argument_name a)) (λ v. IsOfCorrectType s variables v.it.ty.it a.it.value.it))
  -- 5.6.3 Input Object Field Uniqueness
  pub keys : Each given (λ a. HasUniqueKeys a.it.value.it)
  -- Laxer: a variable is judged that is the whole value; one inside a list or an object is compared by the name inside its type (`variable` of `IsCoercible`)
  -- Laxer: a default that is null counts as one (`IsVariableUsageAllowed`)
  -- 5.8.5 All Variable Usages Are Allowed
  pub usages : Each given (λ a. IfPresent (named input_name definitions (argument_name a)) (λ v.
      IfPresent (variable_name a.it.value.it) (λ n. IfPresent (named defined_name variables n.it) (λ x. IsVariableUsageAllowed x.it v.it))))

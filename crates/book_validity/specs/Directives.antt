-- Directives (section 5.7): those that are used at one place.
use Rattle.std.specs.Prelude.{◌≡◌, ℕ, false, Contains, slice_get, Some}
use Rattle.graphql_names.specs.Placed.{Placed}
use Rattle.tree_directives.specs.DirectiveTree.{DirectiveTree}
use Rattle.tree_directives.specs.declared.directive_location.DirectiveLocation.{DirectiveLocation}
use Rattle.rule_definitions.specs.Words.{IfPresent}
use Rattle.rule_definitions.specs.Judged.{Judged}
use Rattle.rule_definitions.specs.Names.{directive_name}
use Rattle.book_validity.specs.Words.{OperationVariables, Applied, Each, IsThere}
use Rattle.book_validity.specs.Arguments.{AreArgumentsValid}

pub record AreDirectivesValid (s : Judged) (variables : OperationVariables) (location : DirectiveLocation) (ds : Applied) : Type 0 where
  -- 5.7.1 Directives Are Defined
  pub defined : Each ds (λ e. IsThere (s.directive (directive_name e)))
  -- 5.7.2 Directives Are In Valid Locations
  pub located : Each ds (λ e. IfPresent (s.directive (directive_name e)) (λ definition. Contains definition.locations location))
  -- 5.7.3 Directives Are Unique Per Location: no two that are not repeatable have one name
  pub unique : (i j : ℕ) (e f : Placed (Unit {0}) (DirectiveTree (Unit {0}))) → slice_get ds i ≡ Some e → slice_get ds j ≡ Some f → directive_name e ≡ directive_name f
      → IfPresent (s.directive (directive_name f)) (λ definition. definition.repeatable ≡ false → i ≡ j)
  -- 5.4, 5.6, 5.8: their arguments
  pub arguments : Each ds (λ e. IfPresent (s.directive (directive_name e)) (λ definition. AreArgumentsValid s variables definition.arguments e.it.arguments))

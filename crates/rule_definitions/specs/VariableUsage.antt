-- IsVariableUsageAllowed (GraphQL, October 2021, section 5.8.5).
use Rattle.std.specs.Prelude.{◌≡◌, true, false, is_some, ◌⊎◌}
use Rattle.tree_literals.specs.TypeTree.{unplaced_type}
use Rattle.tree_literals.specs.TypeQueries.{has_mark, nullable_type, AreTypesCompatible}
use Rattle.tree_directives.specs.DirectiveTree.{InputValueTree}
use Rattle.schema_types.specs.in_operations.OperationTree.{VariableDefinitionTree}

module _ {P : Type 0} where
  -- Laxer: a default that is null counts as one
  -- a variable may be used for an argument: a nullable variable fits a non-null argument only with a default on either side
  abbrev pub IsVariableUsageAllowed : VariableDefinitionTree P → InputValueTree (Unit {0}) → Type 0
  IsVariableUsageAllowed x v =
      AreTypesCompatible (unplaced_type x.ty.it) v.ty.it
      ⊎ (((has_mark x.ty.it ≡ false) × (has_mark v.ty.it ≡ true))
      × (((is_some x.default_value ≡ true) ⊎ (is_some v.default_value ≡ true)) × AreTypesCompatible (unplaced_type x.ty.it) (nullable_type v.ty.it)))

-- Two algorithms of the specification compared with what the checker does, and where they differ.
use Rattle.std.specs.Prelude.{◌≡◌, ◌↔◌, ℕ, true, false, List, is_some, ◌⊎◌}
use Rattle.tree_literals.specs.TypeTree.{unplaced_type}
use Rattle.tree_literals.specs.TypeQueries.{has_mark, nullable_type, AreTypesCompatible}
use Rattle.tree_literals.specs.ValueQueries.{is_null_value}
use Rattle.tree_directives.specs.DirectiveTree.{InputValueTree}
use Rattle.tree_operations.specs.OperationTree.{VariableDefinitionTree}
use Rattle.schema_types.specs.declared.type_kind.TypeKind.TheVariants as kind
use Rattle.rule_definitions.specs.Words.{Present}
use Rattle.rule_definitions.specs.Judged.{Judged}
use Rattle.rule_definitions.specs.VariableUsage.{IsVariableUsageAllowed}
use Rattle.book_validity.specs.Words.{Never}
use Rattle.book_validity.specs.Fragments.{AppliesNowhere}
use Rattle.book_validity.specs.Schema.{IsValidSchema}

-- ---- IsVariableUsageAllowed (section 5.8.5)

module _ (x : VariableDefinitionTree (Unit {0})) (v : InputValueTree (Unit {0})) where
  -- "If locationType is a non-null type AND variableType is NOT a non-null type"
  abbrev pub NeedsDefault : Type 0
  NeedsDefault = (has_mark x.ty.it ≡ false) × (has_mark v.ty.it ≡ true)

  -- "Let hasNonNullVariableDefaultValue be true if a default value exists for variableDefinition and is not the value null."
  abbrev pub HasNonNullVariableDefaultValue : Type 0
  HasNonNullVariableDefaultValue = Present x.default_value (λ d. is_null_value d.it ≡ false)

  -- "Let hasLocationDefaultValue be true if a default value exists for the Argument or ObjectField where variableUsage is located."
  abbrev pub HasLocationDefaultValue : Type 0
  HasLocationDefaultValue = is_some v.default_value ≡ true

  -- "Return AreTypesCompatible(variableType, nullableLocationType)."
  abbrev pub IsCompatibleWithNullable : Type 0
  IsCompatibleWithNullable = AreTypesCompatible (unplaced_type x.ty.it) (nullable_type v.ty.it)

  -- the specification's algorithm returns true
  abbrev pub IsAllowedByTheText : Type 0
  IsAllowedByTheText =
      (NeedsDefault × ((HasNonNullVariableDefaultValue ⊎ HasLocationDefaultValue) × IsCompatibleWithNullable))
      ⊎ (Never NeedsDefault × AreTypesCompatible (unplaced_type x.ty.it) v.ty.it)

  -- allowed beyond that algorithm: the variable's default is null
  abbrev pub IsAllowedByNull : Type 0
  IsAllowedByNull = NeedsDefault × (Present x.default_value (λ d. is_null_value d.it ≡ true) × IsCompatibleWithNullable)

-- a variable may be a whole argument by that algorithm, or since a default that is null counts as a default
abbrev pub UsagesAllowed : Type 0
UsagesAllowed = (x : VariableDefinitionTree (Unit {0})) (v : InputValueTree (Unit {0})) → IsVariableUsageAllowed x v ↔ (IsAllowedByTheText x v ⊎ IsAllowedByNull x v)

-- ---- GetPossibleTypes (section 5.5.2.3)

module _ (s : Judged) where
  -- Stricter: the object types alone of those that the text gives
  -- "If type is an object type, return a set containing type. If type is an interface type, return the set of types implementing type.
  -- If type is a union type, return the set of possible types of type."
  abbrev pub IsPossibleType : List ℕ → List ℕ → Type 0
  IsPossibleType type object = Present (s.type_named type) (λ t.
      ((t.kind ≡ kind.Object) × (object ≡ type))
      ⊎ (((t.kind ≡ kind.Interface) × Present (s.type_named object) (λ u. (u.kind ≡ kind.Object) × (u.implements type ≡ true)))
      ⊎ ((t.kind ≡ kind.Union) × (t.has_member object ≡ true))))

  -- no type but a union has members, as in each schema that is folded
  abbrev pub OnlyUnionsHaveMembers : Type 0
  OnlyUnionsHaveMembers = (n m : List ℕ) → Present (s.type_named n) (λ t. t.has_member m ≡ true) → Present (s.type_named n) (λ t. t.kind ≡ kind.Union)

-- a fragment can apply nowhere exactly when "applicableTypes" has no object type and the fragment is not on the parent type itself
abbrev pub SpreadsPossible : Type 0
SpreadsPossible = (s : Judged) → IsValidSchema s → OnlyUnionsHaveMembers s → (parent condition : List ℕ)
    → AppliesNowhere s parent condition ↔ (Never (condition ≡ parent) × ((object : List ℕ) → IsPossibleType s parent object → Never (IsPossibleType s condition object)))

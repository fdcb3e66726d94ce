-- What the specification asks of a value where it is given, beyond what the checker asks (GraphQL, October 2021, sections 3.5.2, 3.11 and 5.8.5).
use Rattle.std.specs.Prelude.{ℕ, Bool, false, List, ◌&&◌, ◌||◌, not, bytes_eq, codes, is_some, Option, None, Some, if◌then◌else◌}
use Rattle.std.specs.Option.{option_map_or}
use Rattle.std.specs.Float.{float_is_finite}
use Rattle.std.specs.Float.Parse.{parse_float}
use lib.Ieee.{binary64}
use Rattle.tree_literals.specs.TypeTree.{TypeTree, NamedTree, NonNullNamedTree, ListTree, NonNullListTree, unplaced_type}
use Rattle.tree_literals.specs.TypeQueries.{has_mark, is_list_type, nullable_type}
use Rattle.tree_literals.specs.ValueTree.{ValueTree, IntTree, FloatTree}
use Rattle.tree_literals.specs.ValueQueries.{is_null_value, variable_name, list_items}
use Rattle.tree_operations.specs.OperationTree.{VariableDefinitionTree}
use Rattle.rule_definitions.specs.Names.{named_in}
use Rattle.strict_documents.specs.Locations.{Location}

-- ---- 3.5.2 Float

-- the 64-bit float that is nearest to the number is finite (IEEE 754)
abbrev pub is_finite_number : List ℕ → Bool
is_finite_number digits = option_map_or float_is_finite (parse_float binary64 digits) false

-- the number as it is written, if the value is one
abbrev pub number_text : {P : Type 0} → ValueTree P → Option (List ℕ)
number_text (IntTree digits) = Some digits
number_text (FloatTree digits) = Some digits
number_text v = None

-- a number for a Float that no finite 64-bit float is nearest to
abbrev pub is_past_64_bits : {P : Type 0} → Location → ValueTree P → Bool
is_past_64_bits l v = bytes_eq (named_in l.ty) (codes "Float") && option_map_or (λ digits. not (is_finite_number digits)) (number_text v) false

-- ---- 3.11 List

-- an item where a list is expected, which is neither a list nor null nor a variable: only a whole value counts as a list of one
abbrev pub is_lone_item : {P : Type 0} → Location → ValueTree P → Bool
is_lone_item l v = (l.is_item && is_list_type l.ty) && not (is_null_value v || (is_some (variable_name v) || is_some (list_items v)))

-- ---- 5.8.5 All Variable Usages Are Allowed

-- AreTypesCompatible(variableType, locationType)
abbrev pub are_types_compatible : TypeTree (Unit {0}) → TypeTree (Unit {0}) → Bool
are_types_compatible (NamedTree a) (NamedTree b) = bytes_eq a.it b.it
are_types_compatible (NonNullNamedTree a) (NamedTree b) = bytes_eq a.it b.it
are_types_compatible (NonNullNamedTree a) (NonNullNamedTree b) = bytes_eq a.it b.it
are_types_compatible (ListTree a) (ListTree b) = are_types_compatible a b
are_types_compatible (NonNullListTree a) (ListTree b) = are_types_compatible a b
are_types_compatible (NonNullListTree a) (NonNullListTree b) = are_types_compatible a b
are_types_compatible _ _ = false

module _ {P : Type 0} (x : VariableDefinitionTree P) (l : Location) where
  -- "If locationType is a non-null type AND variableType is NOT a non-null type"
  abbrev pub needs_default : Bool
  needs_default = has_mark l.ty && not (has_mark x.ty.it)

  -- "hasNonNullVariableDefaultValue": "a default value exists for variableDefinition and is not the value null"
  abbrev pub has_non_null_default : Bool
  has_non_null_default = option_map_or (λ d. not (is_null_value d.it)) x.default_value false

  -- IsVariableUsageAllowed(variableDefinition, variableUsage); `has_default` is "hasLocationDefaultValue"
  abbrev pub is_usage_allowed : Bool
  is_usage_allowed =
      if needs_default then (has_non_null_default || l.has_default) && are_types_compatible (unplaced_type x.ty.it) (nullable_type l.ty)
      else are_types_compatible (unplaced_type x.ty.it) l.ty

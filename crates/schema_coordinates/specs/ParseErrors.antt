-- Why a text is not a coordinate.
use Rattle.std.specs.Prelude.{◌≡◌, ℕ, Bool, true, false, List}
use Rattle.std.specs.List.{list_all}
use Rattle.graphql_names.specs.NameSyntax.{is_name}
use Rattle.schema_coordinates.specs.Coordinate.{Coordinate, HasForm, is_named}
use Rattle.schema_coordinates.specs.declared.parse_error.SchemaCoordinateParseError.{SchemaCoordinateParseError}
use Rattle.schema_coordinates.specs.declared.parse_error.SchemaCoordinateParseError.TheVariants.{InvalidFormat, InvalidName, Memory}

-- `InvalidFormat`: the text has none of these forms. `InvalidName`: it has one, and a part is not a name. `Memory`: it has one, and each part is a name.
abbrev pub ParseErrorIsDue : (Coordinate → Bool) → List ℕ → SchemaCoordinateParseError → Type 0
ParseErrorIsDue form text InvalidFormat = (c : Coordinate) → form c ≡ true → HasForm text c → ⊥
ParseErrorIsDue form text (InvalidName e) = (c : Coordinate) × ((form c ≡ true) × (HasForm text c × (is_named c ≡ false)))
ParseErrorIsDue form text Memory = (c : Coordinate) × ((form c ≡ true) × (HasForm text c × (is_named c ≡ true)))

-- the same for the parts alone
abbrev pub PartsErrorIsDue : List (List ℕ) → SchemaCoordinateParseError → Type 0
PartsErrorIsDue texts InvalidFormat = ⊥
PartsErrorIsDue texts (InvalidName e) = list_all is_name texts ≡ false
PartsErrorIsDue texts Memory = list_all is_name texts ≡ true

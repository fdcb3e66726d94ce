-- What contracts see of uses of what is deprecated.
use Rattle.std.specs.Prelude.{◌≡◌, ◌↔◌, ℕ, Vec, List, ◌++◌, map, take, codes, Contains, unwrap_or}
use Rattle.std.specs.Option.{option_map}
use Rattle.std.specs.String.{string_bytes}
use Rattle.std.specs.declared.alloc.Global.{Global}
use Rattle.graphql_names.specs.Placed.{Place}
use Rattle.schema_coordinates.specs.Coordinate.{printed}
use Rattle.schema_coordinates.specs.CoordinateView.{schema_coordinate}
use Rattle.schema_types.specs.SchemaTree.{SchemaTree}
use Rattle.spec_document.specs.MeantTree.{MeantDocument}
use Rattle.rule_definitions.specs.Room.{most_told}
use Rattle.rule_warnings.specs.Deprecated.{DeprecatedUse, DeprecatedUsedIn}
use Rattle.rule_warnings.specs.declared.deprecated_use.UseKind.{UseKind}
use Rattle.rule_warnings.specs.declared.deprecated_use.UseKind.TheVariants as kind
use Rattle.rule_warnings.specs.declared.deprecated_use.DeprecatedUse.{DeprecatedUse as Rust}

-- the name of a warning
abbrev pub warning_name : UseKind → List ℕ
warning_name kind.Field = codes "DeprecatedField"
warning_name kind.Argument = codes "DeprecatedArgument"
warning_name kind.InputField = codes "DeprecatedInputField"
warning_name kind.EnumValue = codes "DeprecatedEnumValue"

-- its text
abbrev pub warning_text : {P : Type 0} → DeprecatedUse P → List ℕ
warning_text u = codes "`" ++ (printed u.coordinate ++ (codes "` is deprecated: " ++ u.reason))

abbrev pub use_tree : Rust → DeprecatedUse Place
use_tree u = record {
  place = u.location;
  kind = u.kind;
  coordinate = schema_coordinate u.coordinate;
  reason = unwrap_or (option_map string_bytes u.given_reason) (codes "No longer supported");
}

abbrev pub uses_of : Vec Rust Global → List (DeprecatedUse Place)
uses_of uses = map use_tree uses.items

-- the first 1,000 of all uses of what is deprecated in the document under the schema
abbrev pub TellsDeprecatedUses : SchemaTree Place → MeantDocument Place → Vec Rust Global → Type 0
TellsDeprecatedUses s d uses = (all : List (DeprecatedUse Place)) × ((uses_of uses ≡ take most_told all) × ((u : DeprecatedUse Place) → Contains all u ↔ DeprecatedUsedIn s u d))

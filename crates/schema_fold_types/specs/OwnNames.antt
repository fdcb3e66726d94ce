-- A schema in which each thing is under its own name, and no two things are under the same name.
use Rattle.std.specs.Prelude.{◌≡◌, ℕ, List, map, All}
use Rattle.std.specs.List.{IsDistinct}
use Rattle.std.specs.Map.{keys_of, values_of}
use Rattle.std.specs.Str.{bytes_eq}
use Rattle.graphql_names.specs.Placed.{Place}
use Rattle.schema_fold_index.specs.in_components.Names.{Entries}
use Rattle.schema_fold_index.specs.in_components.Given.{given_name}
use Rattle.schema_fold_index.specs.in_schema_types.SchemaTree.{SchemaType, SchemaTree}
use Rattle.schema_fold_index.specs.in_fold.NumberedDefinition.{directive_name}
use Rattle.schema_fold_index.specs.in_fold.Components.{field_key, value_key, input_key}

-- each key is the name of the value under it, and no two keys are the same
abbrev pub AreNamed : {V : Type 0} → (V → List ℕ) → Entries V → Type 0
AreNamed name es = (keys_of es ≡ map name (values_of es)) × IsDistinct bytes_eq (keys_of es)

-- `AreNamed` holds for the fields, values and input fields of a type, and it has no interface and no member twice
pub record HasOwnNames (t : SchemaType Place) : Type 0 where
  pub interfaces : IsDistinct bytes_eq (map given_name t.interfaces)
  pub fields : AreNamed field_key t.fields
  pub members : IsDistinct bytes_eq (map given_name t.members)
  pub values : AreNamed value_key t.values
  pub inputs : AreNamed input_key t.inputs

abbrev pub TypesUnderOwnNames : Entries (SchemaType Place) → Type 0
TypesUnderOwnNames types = AreNamed (λ t. t.name.it) types × All HasOwnNames (values_of types)

abbrev pub UnderOwnNames : SchemaTree Place → Type 0
UnderOwnNames s = AreNamed directive_name s.directives × TypesUnderOwnNames s.types

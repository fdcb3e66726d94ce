-- In a schema no two things of one kind have the same name, as in every map and set.
use Rattle.std.specs.Prelude.{ℕ, List, map, bytes_eq, Contains}
use Rattle.std.specs.List.{IsDistinct}
use Rattle.std.specs.Map.{keys_of}
use Rattle.graphql_names.specs.NameValue.{NameValue}
use Rattle.graphql_names.specs.Placed.{Place}
use Rattle.schema_components.specs.Given.{given_name}
use Rattle.schema_components.specs.Names.{Entries}
use Rattle.schema_types.specs.SchemaTree.{SchemaType, SchemaTree}
use Rattle.schema_types.specs.TypeView.{extended_type}
use Rattle.schema_types.specs.declared.extended_type.ExtendedType.{ExtendedType}

-- no two of these entries have the same name
abbrev pub AreUnder : {V : Type 0} → Entries V → Type 0
AreUnder es = IsDistinct bytes_eq (keys_of es)

-- no two fields, input fields, values, members or interfaces of a type have the same name
pub record ArePartsDistinct (t : SchemaType Place) : Type 0 where
  pub fields : AreUnder t.fields
  pub inputs : AreUnder t.inputs
  pub values : AreUnder t.values
  pub members : IsDistinct bytes_eq (map given_name t.members)
  pub interfaces : IsDistinct bytes_eq (map given_name t.interfaces)

-- no two types or directive definitions have the same name, and the parts of each type are distinct
pub record AreAllDistinct (s : SchemaTree Place) : Type 0 where
  pub types : AreUnder s.types
  pub directives : AreUnder s.directives
  pub parts : (e : List ℕ × SchemaType Place) → Contains s.types e → ArePartsDistinct e.1

-- the parts of each of these types are distinct
abbrev pub AreEachDistinct : List (NameValue × ExtendedType) → Type 0
AreEachDistinct es = (e : NameValue × ExtendedType) → Contains es e → ArePartsDistinct (extended_type e.1)

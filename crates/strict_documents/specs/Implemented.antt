-- Private: leads to `is_without_object`. The names of the interfaces that objects implement, in a set of names.
use Rattle.std.specs.Prelude.{◌≡◌, ◌&&◌, ◌||◌, ℕ, Bool, List, map}
use Rattle.std.specs.List.{list_any}
use Rattle.indexmap.specs.IndexSet.{IndexSet}
use Rattle.graphql_names.specs.NameValue.{NameValue}
use Rattle.graphql_names.specs.Placed.{Place}
use Rattle.schema_components.specs.Given.{given_name}
use Rattle.schema_components.specs.Lists.{is_among}
use Rattle.schema_components.specs.Names.{Entries}
use Rattle.schema_types.specs.SchemaTree.{SchemaTree, SchemaType, same_kind}
use Rattle.schema_types.specs.declared.type_kind.TypeKind.TheVariants as type
use Rattle.rule_reach.specs.NotedNames.{noted_names}
use Rattle.strict_documents.specs.Applying.{is_implemented}

-- the type is an object that lists the interface; some of these types is one
abbrev pub is_implemented_by : SchemaType Place → List ℕ → Bool
is_implemented_by ty n = same_kind ty.kind type.Object && is_among n (map given_name ty.interfaces)

abbrev pub is_implemented_among : Entries (SchemaType Place) → List ℕ → Bool
is_implemented_among es n = list_any (λ e. is_implemented_by e.1 n) es

module _ {S : Type 0} where
  abbrev pub is_noted : IndexSet NameValue S → List ℕ → Bool
  is_noted names n = is_among n (noted_names names)

  -- the new set has the names of the old one, and those that pass the test
  abbrev pub AddsNames : IndexSet NameValue S → IndexSet NameValue S → (List ℕ → Bool) → Type 0
  AddsNames old new passes = (n : List ℕ) → is_noted new n ≡ (is_noted old n || passes n)

  -- the set has exactly the names of the interfaces that some object of the schema implements
  abbrev pub AreImplemented : SchemaTree Place → IndexSet NameValue S → Type 0
  AreImplemented t names = (n : List ℕ) → is_noted names n ≡ is_implemented t n

-- Kept: a schema without each built-in scalar that is the inner type of no field, argument or input field; those of introspection types
-- count (GraphQL, October 2021, section 3.5).
use Rattle.std.specs.Prelude.{ℕ, Bool, ◌&&◌, ◌||◌, not, List, [], ◌++◌, map, filter, bytes_eq, is_none, None}
use Rattle.std.specs.List.{list_any, IsDistinct, AllByRecursion}
use Rattle.std.specs.Map.{keys_of}
use Rattle.graphql_names.specs.Placed.{Place}
use Rattle.graphql_names.specs.Places.{is_built_in}
use Rattle.tree_literals.specs.TypeTree.{TypeTree}
use Rattle.tree_literals.specs.TypeQueries.{inner_name}
use Rattle.tree_directives.specs.DirectiveTree.{InputValues}
use Rattle.schema_types.specs.in_type_members.TypeSystemTree.{FieldDefinitionTree}
use Rattle.schema_types.specs.BuiltIn.{built_in, name}
use Rattle.schema_types.specs.SchemaTree.{SchemaType, SchemaTree, same_kind}
use Rattle.schema_types.specs.Addresses.{type_at}
use Rattle.schema_types.specs.declared.type_kind.TypeKind.TheVariants as kind
use Rattle.rule_definitions.specs.Names.{scalar_names}

-- ---- on entries

module _ (n : List ℕ) where
  -- n is the inner name of the reference to a type
  abbrev pub is_inside : TypeTree Place → Bool
  is_inside ty = bytes_eq n (inner_name ty).it

  abbrev pub is_inside_arguments : InputValues Place → Bool
  is_inside_arguments vs = list_any (λ v. is_inside v.it.ty.it) vs

  abbrev pub is_inside_field : FieldDefinitionTree Place → Bool
  is_inside_field f = is_inside f.ty || is_inside_arguments f.arguments

  abbrev pub is_inside_type : SchemaType Place → Bool
  is_inside_type t = list_any (λ e. is_inside_field e.1.it.it) t.fields || list_any (λ e. is_inside e.1.it.it.ty.it) t.inputs

  -- a field, an argument or an input field of the schema has the inner type n
  abbrev pub is_referenced : SchemaTree Place → Bool
  is_referenced s = list_any (λ e. is_inside_type e.1) s.types || list_any (λ e. is_inside_arguments e.1.it.arguments) s.directives

abbrev pub is_dropped : SchemaTree Place → List ℕ × SchemaType Place → Bool
is_dropped s e = same_kind e.1.kind kind.Scalar && is_built_in e.1.place && not (is_referenced e.0 s)

abbrev pub kept : SchemaTree Place → SchemaTree Place
kept s = record s { types = filter (λ e. not (is_dropped s e)) s.types }

-- the entry of a built-in scalar in a schema
abbrev pub built_in_scalar : List ℕ → List ℕ × SchemaType Place
built_in_scalar n = (n, record { kind = kind.Scalar; place = built_in; description = None; name = name n; directives = []; interfaces = []; fields = []; members = []; values = []; inputs = [] })

abbrev pub is_missing : SchemaTree Place → List ℕ → Bool
is_missing s n = is_none (type_at s n) && is_referenced n s

-- the kept schema, and after its types each of the five built-in scalars that something refers to and that is missing
abbrev pub validated : SchemaTree Place → SchemaTree Place
validated s = record (kept s) { types = (kept s).types ++ map built_in_scalar (filter (is_missing s) scalar_names) }

-- ---- names that differ

-- no two directives, types, fields of one type, or input fields of one type have the same name
pub record AreDistinct (s : SchemaTree Place) : Type 0 where
  pub directives : IsDistinct bytes_eq (keys_of s.directives)
  pub types : IsDistinct bytes_eq (keys_of s.types)
  pub parts : AllByRecursion (λ e. IsDistinct bytes_eq (keys_of e.1.fields) × IsDistinct bytes_eq (keys_of e.1.inputs)) s.types

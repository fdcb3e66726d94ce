-- The meta-fields: fields that types have though no definition gives them (GraphQL, October 2021, sections 4.1 and 4.2), with the place of built-ins.
use Rattle.std.specs.Prelude.{ℕ, Bool, List, [], ◌∷◌, ◌++◌, Option, None, codes, if◌then◌else◌}
use Rattle.std.specs.List.{find}
use Rattle.std.specs.Str.{bytes_eq}
use Rattle.graphql_names.specs.Placed.{Placed, Place}
use Rattle.tree_type_members.specs.TypeSystemTree.{FieldDefinitionTree}
use Rattle.schema_fold.specs.BuiltIn.{a, one, argument, field, field_with}

-- __typename: String!
abbrev pub typename_field : Placed Place (FieldDefinitionTree Place)
typename_field = field (codes "__typename") (one (codes "String"))

-- __schema: __Schema!
abbrev pub schema_field : Placed Place (FieldDefinitionTree Place)
schema_field = field (codes "__schema") (one (codes "__Schema"))

-- __type(name: String!): __Type
abbrev pub type_field : Placed Place (FieldDefinitionTree Place)
type_field = field_with (argument (codes "name") (one (codes "String")) None ∷ []) (codes "__type") (a (codes "__Type"))

-- the meta-fields of a type: `__typename` of an object, an interface or a union, `__schema` and `__type` of the query root
abbrev pub meta_fields : Bool → Bool → List (Placed Place (FieldDefinitionTree Place))
meta_fields is_composite is_query_root =
    (if is_composite then typename_field ∷ [] else []) ++ (if is_query_root then schema_field ∷ type_field ∷ [] else [])

-- the meta-field of that name
abbrev pub meta_field_of : Bool → Bool → List ℕ → Option (Placed Place (FieldDefinitionTree Place))
meta_field_of is_composite is_query_root name = find (λ f. bytes_eq name f.it.name.it) (meta_fields is_composite is_query_root)

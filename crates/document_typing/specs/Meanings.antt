-- What typing reads of a schema, the same for equal schemas: the roots, which types there are, and the fields that can be selected on each (GraphQL, October 2021, sections 3.3.1, 4.1, 4.2 and 5.3.1).
use Rattle.std.specs.Prelude.{ℕ, Bool, true, false, List, [], codes, Option, None, Some, is_some}
use Rattle.std.specs.Option.{option_map_or}
use Rattle.graphql_names.specs.Placed.{Text}
use Rattle.tree_literals.specs.TypeTree.{TypeTree, NamedTree}
use Rattle.tree_literals.specs.TypeQueries.{inner_name}
use Rattle.tree_directives.specs.DirectiveTree.{InputValues}
use Rattle.tree_operations.specs.OperationQueries.{default_root_name}
use Rattle.tree_directives.specs.declared.operation_type.OperationType.{OperationType}
use Rattle.tree_directives.specs.declared.operation_type.OperationType.TheVariants.{Query, Mutation, Subscription}
use Rattle.schema_types.specs.SchemaTree.{same_kind}
use Rattle.schema_types.specs.Plain.{PlainSchema}
use Rattle.schema_types.specs.Looks.{Looks, looks}
use Rattle.schema_types.specs.declared.type_kind.TypeKind.{TypeKind}
use Rattle.schema_types.specs.declared.type_kind.TypeKind.TheVariants as kind
use Rattle.graphql_schema.specs.FieldLooks.{field_named}
use Rattle.document_typing.specs.MeantTree.{Definition}

pub record Meanings : Type 0 where
  -- the name of the root type of an operation, if there is one
  pub root : OperationType → Option (List ℕ)
  -- whether a type of that name exists, is a scalar, is an enum
  pub has_type : List ℕ → Bool
  pub is_scalar : List ℕ → Bool
  pub is_enum : List ℕ → Bool
  -- given the name of a type and the name of a field: the definition of that field on that type, if there is one
  pub field : List ℕ → List ℕ → Option Definition

-- ---- fields by name alone

abbrev pub bare_name : List ℕ → Text (Unit {0})
bare_name n = record { it = n; place = tt }

-- name(arguments): ty
abbrev pub plain_field : List ℕ → InputValues (Unit {0}) → TypeTree (Unit {0}) → Definition
plain_field n arguments ty = record { description = None; name = bare_name n; arguments = arguments; ty = ty; directives = [] }

-- the name of the type inside a field's type
abbrev pub inner_type : Definition → List ℕ
inner_type d = (inner_name d.ty).it

-- ---- under a schema

module _ (s : Looks) where
  abbrev pub root_named : OperationType → Option (List ℕ)
  root_named Query = s.definition.query
  root_named Mutation = s.definition.mutation
  root_named Subscription = s.definition.subscription

  abbrev pub is_of_kind : TypeKind → List ℕ → Bool
  is_of_kind k n = option_map_or (λ t. same_kind t.kind k) (s.type_named n) false

  abbrev pub meanings_in : Meanings
  meanings_in = record {
    root = root_named;
    has_type = λ n. is_some (s.type_named n);
    is_scalar = is_of_kind kind.Scalar;
    is_enum = is_of_kind kind.Enum;
    field = field_named s;
  }

abbrev pub meanings : PlainSchema → Meanings
meanings s = meanings_in (looks s)

-- ---- without a schema

-- a field of that name: it has no arguments, and its type is `UNKNOWN`
abbrev pub unknown_definition : List ℕ → Definition
unknown_definition m = plain_field m [] (NamedTree (bare_name (codes "UNKNOWN")))

-- each root has its default name, each type condition a type, and each field a definition
abbrev pub meanings_without_schema : Meanings
meanings_without_schema = record {
  root = λ o. Some (default_root_name o);
  has_type = λ n. true;
  is_scalar = λ n. false;
  is_enum = λ n. false;
  field = λ n m. Some (unknown_definition m);
}

-- what typing reads of the schema, or without a schema
abbrev pub meanings_of : Option PlainSchema → Meanings
meanings_of schema = option_map_or meanings schema meanings_without_schema

-- An example: a small schema that keeps every rule, in which a type has no literal. It has a scalar `Foo` whose place is that of what is
-- built in, so one of its built-in scalars is not among the five.
use Rattle.std.specs.Prelude.{ℕ, List, [], ◌∷◌, codes, None, Some}
use Rattle.graphql_names.specs.Placed.{Place, Text}
use Rattle.graphql_names.specs.declared.span.FileId.{FileId}
use Rattle.tree_literals.specs.TypeTree.{TypeTree, NamedTree, NonNullNamedTree}
use Rattle.tree_literals.specs.ValueTree.{ValueTree}
use Rattle.rule_definitions.specs.in_schema_types.in_type_members.TypeSystemTree.{FieldDefinitionTree}
use Rattle.rule_definitions.specs.in_schema_types.SchemaTree.{SchemaType, SchemaTree}
use Rattle.rule_definitions.specs.in_schema_types.declared.type_kind.TypeKind.{TypeKind}
use Rattle.rule_definitions.specs.in_schema_types.declared.type_kind.TypeKind.TheVariants as kind
use Rattle.rule_definitions.specs.in_schema_types.BuiltIn.{built_in}
use Rattle.rule_definitions.specs.Judged.{judged}
use Rattle.rule_definitions.specs.Rules.{SchemaRules}
use Rattle.rule_schema_laws.specs.Literals.{IsInputType, IsLiteral}

abbrev pub name_without_place : List ℕ → Text Place
name_without_place n = record { it = n; place = None }

abbrev pub foo : TypeTree Place
foo = NamedTree (name_without_place (codes "Foo"))

-- a: Foo
abbrev pub field_a : FieldDefinitionTree Place
field_a = record { description = None; name = name_without_place (codes "a"); arguments = []; ty = foo; directives = [] }

abbrev pub type_without_parts : TypeKind → Place → List ℕ → SchemaType Place
type_without_parts k place n = record { kind = k; place = place; description = None; name = name_without_place n; directives = []; interfaces = []; fields = []; members = []; values = []; inputs = [] }

-- type Q { a: Foo }
abbrev pub type_q : SchemaType Place
type_q = record (type_without_parts kind.Object None (codes "Q")) { fields = (codes "a", record { extension = None; it = record { it = field_a; place = None } }) ∷ [] }

-- scalar Foo
abbrev pub type_foo : SchemaType Place
type_foo = type_without_parts kind.Scalar built_in (codes "Foo")

-- schema { query: Q } type Q { a: Foo } scalar Foo
abbrev pub small : SchemaTree Place
small = record {
  definition = record { place = None; description = None; directives = []; query = Some (record { extension = None; it = name_without_place (codes "Q") }); mutation = None; subscription = None };
  directives = [];
  types = (codes "Q", type_q) ∷ (codes "Foo", type_foo) ∷ [];
}

abbrev pub foo_required : TypeTree (Unit {0})
foo_required = NonNullNamedTree (record { it = codes "Foo"; place = tt })

-- every rule holds, `Foo!` is an input type, and no value is a literal of it
pub record IsWithout : Type 0 where
  pub rules : SchemaRules (judged small)
  pub input : IsInputType (judged small) foo_required
  pub none : (file : FileId) (v : ValueTree Place) → IsLiteral (judged small) foo_required file v → ⊥

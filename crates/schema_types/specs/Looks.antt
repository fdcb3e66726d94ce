-- A schema as lookups by name, without places, origins and order: all that a rule reads of a schema. They are the same for equal schemas.
use Rattle.std.specs.Prelude.{ℕ, Bool, List, Option}
use Rattle.std.specs.Option.{option_map}
use Rattle.std.specs.FinMap as fin
use Rattle.std.specs.FinSet as set
use Rattle.graphql_names.specs.Placed.{Text}
use Rattle.schema_components.specs.in_directives.DirectiveTree.{DirectiveTree, InputValueTree, DirectiveDefinitionTree}
use Rattle.spec_tree.specs.in_type_members.TypeSystemTree.{FieldDefinitionTree, EnumValueTree}
use Rattle.schema_types.specs.Plain.{PlainType, PlainRoots, PlainSchema}
use Rattle.schema_types.specs.declared.type_kind.TypeKind.{TypeKind}

-- a type: which interfaces and which members it lists, and what it has under a name
pub record TypeLooks : Type 0 where
  pub kind : TypeKind
  pub description : Option (Text (Unit {0}))
  pub name : Text (Unit {0})
  pub directives : List (DirectiveTree (Unit {0}))
  pub implements : List ℕ → Bool
  pub field : List ℕ → Option (FieldDefinitionTree (Unit {0}))
  pub has_member : List ℕ → Bool
  pub value : List ℕ → Option (EnumValueTree (Unit {0}))
  pub input : List ℕ → Option (InputValueTree (Unit {0}))

-- a schema: its schema definition, and what it has under a name
pub record Looks : Type 0 where
  pub definition : PlainRoots
  pub directive : List ℕ → Option (DirectiveDefinitionTree (Unit {0}))
  pub type_named : List ℕ → Option TypeLooks

abbrev pub type_looks : PlainType → TypeLooks
type_looks t = record {
  kind = t.kind;
  description = t.description;
  name = t.name;
  directives = t.directives;
  implements = set.contains t.interfaces;
  field = fin.get t.fields;
  has_member = set.contains t.members;
  value = fin.get t.values;
  input = fin.get t.inputs;
}

abbrev pub looks : PlainSchema → Looks
looks s = record {
  definition = s.definition;
  directive = fin.get s.directives;
  type_named = λ n. option_map type_looks (fin.get s.types n);
}

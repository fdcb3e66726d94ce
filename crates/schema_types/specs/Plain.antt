-- A schema without places, origins and the order of its maps and sets. Applied directives and arguments are in order.
use Rattle.std.specs.Prelude.{ℕ, List, Option}
use Rattle.std.specs.Option.{option_map}
use Rattle.graphql_names.specs.Placed.{Text, Placed, unplaced_text}
use Rattle.schema_components.specs.in_directives.DirectiveTree.{DirectiveTree, InputValueTree, DirectiveDefinitionTree, unplaced_input_value, unplaced_directive_definition}
use Rattle.spec_tree.specs.in_type_members.TypeSystemTree.{FieldDefinitionTree, EnumValueTree, unplaced_field_definition, unplaced_enum_value}
use Rattle.schema_components.specs.Names.{NamedMap, Names, named, names}
use Rattle.schema_components.specs.Given.{plain_given, given_name}
use Rattle.schema_components.specs.Applied.{unplaced_applied}
use Rattle.schema_types.specs.SchemaTree.{SchemaType, SchemaRoots, SchemaTree}
use Rattle.schema_types.specs.declared.type_kind.TypeKind.{TypeKind}

pub record PlainType : Type 0 where
  pub kind : TypeKind
  pub description : Option (Text (Unit {0}))
  pub name : Text (Unit {0})
  pub directives : List (DirectiveTree (Unit {0}))
  pub interfaces : Names
  pub fields : NamedMap (FieldDefinitionTree (Unit {0}))
  pub members : Names
  pub values : NamedMap (EnumValueTree (Unit {0}))
  pub inputs : NamedMap (InputValueTree (Unit {0}))

pub record PlainRoots : Type 0 where
  pub description : Option (Text (Unit {0}))
  pub directives : List (DirectiveTree (Unit {0}))
  pub query : Option (List ℕ)
  pub mutation : Option (List ℕ)
  pub subscription : Option (List ℕ)

pub record PlainSchema : Type 0 where
  pub definition : PlainRoots
  pub directives : NamedMap (DirectiveDefinitionTree (Unit {0}))
  pub types : NamedMap PlainType

module _ {P : Type 0} where
  abbrev pub plain_type : SchemaType P → PlainType
  plain_type t = record {
    kind = t.kind;
    description = option_map unplaced_text t.description;
    name = unplaced_text t.name;
    directives = unplaced_applied t.directives;
    interfaces = names given_name t.interfaces;
    fields = named (plain_given unplaced_field_definition) t.fields;
    members = names given_name t.members;
    values = named (plain_given unplaced_enum_value) t.values;
    inputs = named (plain_given unplaced_input_value) t.inputs;
  }

  abbrev pub plain_roots : SchemaRoots P → PlainRoots
  plain_roots r = record {
    description = option_map unplaced_text r.description;
    directives = unplaced_applied r.directives;
    query = option_map given_name r.query;
    mutation = option_map given_name r.mutation;
    subscription = option_map given_name r.subscription;
  }

  abbrev pub plain_directive_definition : Placed P (DirectiveDefinitionTree P) → DirectiveDefinitionTree (Unit {0})
  plain_directive_definition d = unplaced_directive_definition d.it

  -- two schemas are equal when `plain` of both is the same
  abbrev pub plain : SchemaTree P → PlainSchema
  plain s = record {
    definition = plain_roots s.definition;
    directives = named plain_directive_definition s.directives;
    types = named plain_type s.types;
  }

-- The fold of a list of definitions: what a schema has of each type and directive, by position in the whole list.
use Rattle.std.specs.Prelude.{ℕ, List, ◌++◌, map}
use Rattle.std.specs.List.{find}
use Rattle.std.specs.Option.{option_map_or}
use Rattle.std.specs.Str.{bytes_eq}
use Rattle.graphql_names.specs.Placed.{Placed, Place}
use Rattle.tree_directives.specs.DirectiveTree.{DirectiveDefinitionTree}
use Rattle.schema_types.specs.in_components.Lists.{firsts}
use Rattle.schema_types.specs.in_components.Names.{Entries}
use Rattle.schema_types.specs.in_components.Given.{given_name}
use Rattle.schema_types.specs.SchemaTree.{SchemaType, SchemaTree}
use Rattle.schema_types.specs.TypeParts.{TypeDefinition}
use Rattle.schema_fold.specs.NumberedDefinition.{Definitions, NumberedDefinition, numbered, type_name, types_in, directive_name, directives_in}
use Rattle.schema_fold.specs.Components.{components, field_key, value_key, input_key, keyed_firsts}
use Rattle.schema_fold.specs.SchemaFold.{folded_schema}

-- what a schema has of a type: the first interface, field, member, value and input field of each name, and all applied directives
abbrev pub folded_type : List NumberedDefinition → TypeDefinition Place → SchemaType Place
folded_type list t = record {
  kind = t.parts.kind;
  place = t.place;
  description = t.description;
  name = t.parts.name;
  directives = components (λ p. p.directives) list t;
  interfaces = firsts given_name (components (λ p. p.interfaces) list t);
  fields = keyed_firsts field_key (components (λ p. p.fields) list t);
  members = firsts given_name (components (λ p. p.members) list t);
  values = keyed_firsts value_key (components (λ p. p.values) list t);
  inputs = keyed_firsts input_key (components (λ p. p.inputs) list t);
}

-- the types, in the order of their definitions
abbrev pub folded_types : ℕ → Definitions → Entries (SchemaType Place)
folded_types first ds = map (λ t. (type_name t, folded_type (numbered first ds) t)) (firsts type_name (types_in ds))

-- the definition of a directive: the first of its name in the texts, or else d
abbrev pub chosen_directive : Definitions → Placed Place (DirectiveDefinitionTree Place) → Placed Place (DirectiveDefinitionTree Place)
chosen_directive texts d = option_map_or (λ own. own) (find (λ own. bytes_eq (directive_name d) (directive_name own)) (directives_in texts)) d

-- the directive definitions: one in the texts replaces the built-in one of its name
abbrev pub folded_directives : Definitions → Definitions → Entries (Placed Place (DirectiveDefinitionTree Place))
folded_directives built_in texts = map (λ d. (directive_name d, chosen_directive texts d)) (firsts directive_name (directives_in (built_in ++ texts)))

-- the schema that the built-in definitions followed by these fold to, if extensions are numbered from `first`
abbrev pub fold : Definitions → ℕ → Definitions → SchemaTree Place
fold built_in first texts = record {
  definition = folded_schema first (built_in ++ texts);
  directives = folded_directives built_in texts;
  types = folded_types first (built_in ++ texts);
}

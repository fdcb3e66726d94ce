-- Private: leads to `specs/Out.antt` of `schema_types`. What is written from what is filed under givers.
use Rattle.std.specs.Prelude.{List, [], ◌∷◌, map, Option, None, Some, Vec, if◌then◌else◌}
use Rattle.std.specs.declared.alloc.Global.{Global}
use Rattle.indexmap.specs.IndexMap.{IndexMap}
use Rattle.graphql_names.specs.Places.{is_built_in}
use Rattle.graphql_names.specs.Placed.{Place, node_tree}
use Rattle.graphql_names.specs.declared.node.Node.{Node}
use Rattle.tree_directives.specs.DirectiveTree.{Directives, directive_tree}
use Rattle.tree_directives.specs.declared.directive.Directive.{Directive}
use Rattle.tree_type_members.specs.TypeSystemTree.{SchemaParts}
use Rattle.tree_definitions.specs.DefinitionTree.{DefinitionTree}
use Rattle.schema_components.specs.Given.{ExtensionTree, extension_tree, place_of}
use Rattle.schema_components.specs.declared.component.ComponentOrigin.{ComponentOrigin}
use Rattle.schema_components.specs.declared.extension.ExtensionId.{ExtensionId}
use Rattle.schema_types.specs.TypeView.{schema_roots}
use Rattle.schema_types.specs.Out.{schema_parts_given_by}
use Rattle.schema_types.specs.declared.extended_type.ExtendedType.{ExtendedType}
use Rattle.schema_types.specs.declared.schema_definition.SchemaDefinition.{SchemaDefinition}
use Rattle.schema_writing.specs.Filed.{filed_under}
use Rattle.schema_writing.specs.Contents.{type_contents, defined_from, extended_from}
use Rattle.schema_writing.specs.ContentsView.{filed_parts}
use Rattle.schema_writing.specs.SchemaParts.{schema_extended_from}
use Rattle.schema_writing.specs.declared.parts.FiledType.{FiledType}

-- ---- the schema definition

module _ {S : Type 0} where
  -- the directives that are filed under this giver
  abbrev pub filed_directives : Option (ExtensionTree Place) → IndexMap ComponentOrigin (Vec (Node Directive) Global) S → Directives Place
  filed_directives giver directives = map (node_tree directive_tree) (filed_under giver directives.entries)

  -- what this giver gave to the schema: its directives, taken from the filed ones, and its roots
  abbrev pub schema_given : Option (ExtensionTree Place) → Node SchemaDefinition → IndexMap ComponentOrigin (Vec (Node Directive) Global) S → SchemaParts Place
  schema_given giver definition directives = record { directives = filed_directives giver directives; roots = (schema_parts_given_by None giver (schema_roots definition)).roots }

  -- the extension of the schema with that identity
  abbrev pub schema_extension : Node SchemaDefinition → IndexMap ComponentOrigin (Vec (Node Directive) Global) S → ExtensionId → DefinitionTree Place
  schema_extension definition directives id = schema_extended_from (schema_roots definition) (extension_tree id) (filed_directives (Some (extension_tree id)) directives)

-- ---- a type, with what is filed of it

-- the definition of the type, if it is not built in
abbrev pub type_definition : ExtendedType → FiledType → List (DefinitionTree Place)
type_definition t filed = if is_built_in (type_contents t).place then [] else defined_from (type_contents t) (filed_parts None filed) ∷ []

-- the extension of the type with that identity
abbrev pub type_extension : ExtendedType → FiledType → ExtensionId → DefinitionTree Place
type_extension t filed id = extended_from (type_contents t) (place_of id) (filed_parts (Some (extension_tree id)) filed)

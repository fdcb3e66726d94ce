-- Parts of type system definitions and extensions that the grammar can write (GraphQL, October 2021, appendix B):
-- what it requires of them apart from their form.
use Rattle.std.specs.Prelude.{Bool, not, ◌&&◌, ◌||◌, true, List}
use Rattle.std.specs.List.{list_all}
use Rattle.tree_literals.specs.in_names.Placed.{Placed}
use Rattle.tree_literals.specs.ValueWritable.{can_be_enum}
use Rattle.tree_directives.specs.DirectiveWritable.{is_none_of, directives_writable, input_values_writable}
use Rattle.tree_type_members.specs.TypeSystemTree.{FieldDefinitionTree, EnumValueTree, SchemaParts, ScalarParts, FieldsParts, UnionParts, EnumParts, InputObjectParts}

abbrev pub has_some : {A : Type 0} → List A → Bool
has_some xs = not (is_none_of xs)

abbrev pub field_definition_writable : {P : Type 0} → FieldDefinitionTree P → Bool
field_definition_writable f = input_values_writable f.arguments && directives_writable true f.directives

abbrev pub field_definitions_writable : {P : Type 0} → List (Placed P (FieldDefinitionTree P)) → Bool
field_definitions_writable fs = list_all (λ f. field_definition_writable f.it) fs

abbrev pub enum_value_writable : {P : Type 0} → EnumValueTree P → Bool
enum_value_writable v = can_be_enum v.value.it && directives_writable true v.directives

abbrev pub enum_values_writable : {P : Type 0} → List (Placed P (EnumValueTree P)) → Bool
enum_values_writable vs = list_all (λ v. enum_value_writable v.it) vs

-- a schema definition names a root operation type, and its directives can be written
abbrev pub schema_writable : {P : Type 0} → SchemaParts P → Bool
schema_writable s = directives_writable true s.directives && has_some s.roots

abbrev pub fields_writable : {P : Type 0} → FieldsParts P → Bool
fields_writable t = directives_writable true t.directives && field_definitions_writable t.fields

abbrev pub enum_writable : {P : Type 0} → EnumParts P → Bool
enum_writable t = directives_writable true t.directives && enum_values_writable t.values

abbrev pub input_object_writable : {P : Type 0} → InputObjectParts P → Bool
input_object_writable t = directives_writable true t.directives && input_values_writable t.fields

-- an extension has at least one part other than its name
abbrev pub schema_extension_writable : {P : Type 0} → SchemaParts P → Bool
schema_extension_writable s = directives_writable true s.directives && (has_some s.directives || has_some s.roots)

abbrev pub scalar_extension_writable : {P : Type 0} → ScalarParts P → Bool
scalar_extension_writable t = directives_writable true t.directives && has_some t.directives

abbrev pub fields_extension_writable : {P : Type 0} → FieldsParts P → Bool
fields_extension_writable t = fields_writable t && (has_some t.interfaces || has_some t.directives || has_some t.fields)

abbrev pub union_extension_writable : {P : Type 0} → UnionParts P → Bool
union_extension_writable t = directives_writable true t.directives && (has_some t.directives || has_some t.members)

abbrev pub enum_extension_writable : {P : Type 0} → EnumParts P → Bool
enum_extension_writable t = enum_writable t && (has_some t.directives || has_some t.values)

abbrev pub input_object_extension_writable : {P : Type 0} → InputObjectParts P → Bool
input_object_extension_writable t = input_object_writable t && (has_some t.directives || has_some t.fields)

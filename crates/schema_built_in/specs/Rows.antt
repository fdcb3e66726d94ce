-- Private: leads to `built_in_definitions`. The definitions that the rows of the table give.
use Rattle.std.specs.Prelude.{ℕ, Bool, false, List, ◌&&◌, map, Option, None, Some}
use Rattle.std.specs.List.{list_all}
use Rattle.std.specs.Str.{bytes_eq}
use Rattle.graphql_names.specs.NameSyntax.{is_name}
use Rattle.graphql_names.specs.Placed.{Placed, Place}
use Rattle.tree_literals.specs.TypeTree.{TypeTree}
use Rattle.tree_literals.specs.ValueTree.{ValueTree, StringTree, BooleanTree}
use Rattle.tree_directives.specs.DirectiveTree.{InputValueTree}
use Rattle.tree_type_members.specs.TypeSystemTree.{FieldDefinitionTree}
use Rattle.schema_fold.specs.in_definitions.DefinitionTree.{DefinitionTree}
use Rattle.schema_fold.specs.BuiltIn.{a, one, some, all, argument, field_with, directive, scalar, object, enum}
use Rattle.schema_built_in.specs.declared.table.Row.{Row}
use Rattle.schema_built_in.specs.declared.table.Row.TheVariants as row
use Rattle.schema_built_in.specs.declared.table.ArgumentRow.{ArgumentRow}
use Rattle.schema_built_in.specs.declared.table.DefaultRow.{DefaultRow}
use Rattle.schema_built_in.specs.declared.table.DefaultRow.TheVariants as default_row
use Rattle.schema_built_in.specs.declared.table.FieldRow.{FieldRow}
use Rattle.schema_built_in.specs.declared.table.TypeRow.{TypeRow}
use Rattle.schema_built_in.specs.declared.table.TypeRow.TheVariants as type_row

abbrev pub row_type : TypeRow → TypeTree Place
row_type (type_row.Nullable n) = a n.now
row_type (type_row.NonNull n) = one n.now
row_type (type_row.ListOf n) = some n.now
row_type (type_row.NonNullListOf n) = all n.now

abbrev pub row_default : DefaultRow → Option (ValueTree Place)
row_default default_row.Absent = None
row_default (default_row.Text text) = Some (StringTree text.now)
row_default default_row.False = Some (BooleanTree false)

abbrev pub row_argument : ArgumentRow → Placed Place (InputValueTree Place)
row_argument r = argument r.0.now (row_type r.1) (row_default r.2)

abbrev pub row_field : FieldRow → Placed Place (FieldDefinitionTree Place)
row_field r = field_with (map row_argument r.1.now) r.0.now (row_type r.2)

abbrev pub row_definition : Row → DefinitionTree Place
row_definition (row.Directive n arguments locations) = directive n.now (map row_argument arguments.now) locations.now
row_definition (row.Scalar n) = scalar n.now
row_definition (row.Object n fields) = object n.now (map row_field fields.now)
row_definition (row.Enum n values) = enum n.now (map (λ v. v.now) values.now)

abbrev pub is_scalar_named : List ℕ → Row → Bool
is_scalar_named name (row.Scalar n) = bytes_eq name n.now
is_scalar_named name _ = false

-- ---- whether all names are Name tokens

abbrev pub has_type_name : TypeRow → Bool
has_type_name (type_row.Nullable n) = is_name n.now
has_type_name (type_row.NonNull n) = is_name n.now
has_type_name (type_row.ListOf n) = is_name n.now
has_type_name (type_row.NonNullListOf n) = is_name n.now

abbrev pub has_argument_names : ArgumentRow → Bool
has_argument_names r = is_name r.0.now && has_type_name r.1

abbrev pub has_field_names : FieldRow → Bool
has_field_names r = is_name r.0.now && has_type_name r.2 && list_all has_argument_names r.1.now

abbrev pub has_names : Row → Bool
has_names (row.Directive n arguments locations) = is_name n.now && list_all has_argument_names arguments.now
has_names (row.Scalar n) = is_name n.now
has_names (row.Object n fields) = is_name n.now && list_all has_field_names fields.now
has_names (row.Enum n values) = is_name n.now && list_all (λ v. is_name v.now) values.now

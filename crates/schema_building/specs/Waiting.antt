-- The types that are extended and not defined, also those left in an iterator.
use Rattle.std.specs.Prelude.{ℕ, Bool, not, ◌&&◌, List, map, is_some}
use Rattle.std.specs.Borrow.{Bor}
use Rattle.std.specs.List.{filter}
use Rattle.std.specs.Map.{lookup}
use Rattle.std.specs.Str.{bytes_eq}
use Rattle.graphql_names.specs.NameValue.{NameValue}
use Rattle.graphql_names.specs.Placed.{Place, Text, name_tree}
use Rattle.schema_built_in.specs.in_schema_types.declared.type_kind.TypeKind.{TypeKind}
use Rattle.schema_built_in.specs.in_fold.NumberedDefinition.{type_named}
use Rattle.schema_built_in.specs.Table.{built_in_definitions}
use Rattle.schema_fold_index.specs.Index.{NamedKind, FiledEntries, filed_kind}
use Rattle.schema_fold_index.specs.declared.index.Index.{Index}
use Rattle.schema_building.specs.declared.waiting.OrphanExtensionTypes.{OrphanExtensionTypes}

-- whether no type of that name is defined, and none is built in
abbrev pub is_orphan_in : FiledEntries → List ℕ → Bool
is_orphan_in defined n = not (is_some (lookup (λ k. bytes_eq n k.text) defined)) && not (is_some (type_named n built_in_definitions))

-- those of these names and kinds whose type is neither defined nor built in
abbrev pub orphans_of : FiledEntries → List NamedKind → List NamedKind
orphans_of defined ks = filter (λ k. is_orphan_in defined k.0.it) ks

abbrev pub orphan_kinds : Index → List NamedKind
orphan_kinds index = orphans_of index.defined.entries (map filed_kind index.extended.entries)

-- the names and kinds that an iterator has still to yield
abbrev pub left_kinds : OrphanExtensionTypes → List NamedKind
left_kinds w = orphans_of w.defined.now.entries (map filed_kind w.extended)

abbrev pub lent_kind : Bor NameValue × TypeKind → NamedKind
lent_kind k = (name_tree k.0.now, k.1)

abbrev pub left_names : OrphanExtensionTypes → List (Text Place)
left_names w = map (λ k. k.0) (left_kinds w)

abbrev pub lent_name : Bor NameValue → Text Place
lent_name n = name_tree n.now

-- A schema and selections for the rows of `TypingRows.antt`.
use Rattle.std.specs.Prelude.{ℕ, false, List, [], ◌∷◌, Option, None, Some}
use Rattle.std.specs.List.{find}
use Rattle.std.specs.Option.{option_map}
use Rattle.std.specs.Str.{bytes_eq}
use Rattle.graphql_names.specs.Placed.{Text}
use Rattle.tree_literals.specs.TypeTree.{TypeTree}
use Rattle.tree_operations.specs.SelectionTree.{FieldHead, SelectionTree, FieldTree, InlineTree, SelectionTrees, no_selections, selection_then}
use Rattle.tree_directives.specs.declared.operation_type.OperationType.{OperationType}
use Rattle.tree_definitions.specs.DefinitionTree.{DefinitionTree, Operation, Fragment}
use Rattle.schema_types.specs.in_components.Lists.{is_among}
use Rattle.schema_types.specs.Looks.{Looks, TypeLooks}
use Rattle.schema_types.specs.declared.type_kind.TypeKind.{TypeKind}
use Rattle.document_typing.specs.MeantTree.{MeantSelection, MeantField, MeantSpread, MeantInline}
use Rattle.document_typing.specs.Meanings.{bare_name, plain_field, inner_type}

-- ---- schemas

-- a type with these fields
abbrev pub type_with : TypeKind → List ℕ → List (List ℕ × TypeTree (Unit {0})) → List (List ℕ) → TypeLooks
type_with k n fields members = record {
  kind = k;
  description = None;
  name = bare_name n;
  directives = [];
  implements = λ i. false;
  field = λ m. option_map (λ f. plain_field m [] f.1) (find (λ f. bytes_eq m f.0) fields);
  has_member = λ m. is_among m members;
  value = λ v. None;
  input = λ v. None;
}

-- a schema of these types with a query root
abbrev pub schema_of : List ℕ → List TypeLooks → Looks
schema_of query types = record {
  definition = record { description = None; directives = []; query = Some query; mutation = None; subscription = None };
  directive = λ n. None;
  type_named = λ n. find (λ t. bytes_eq n t.name.it) types;
}

-- ---- selections, whose places are numbers

abbrev pub name_at : ℕ → List ℕ → Text ℕ
name_at p n = record { it = n; place = p }

abbrev pub set_of : List (SelectionTree ℕ) → SelectionTrees ℕ
set_of [] = no_selections
set_of (s ∷ ss) = selection_then s (set_of ss)

abbrev pub head : ℕ → List ℕ → FieldHead ℕ
head p n = record { alias = None; name = name_at p n; arguments = []; directives = [] }

abbrev pub field : ℕ → List ℕ → List (SelectionTree ℕ) → SelectionTree ℕ
field p n ss = FieldTree p (head p n) (set_of ss)

abbrev pub inline_on : ℕ → List ℕ → List (SelectionTree ℕ) → SelectionTree ℕ
inline_on p c ss = InlineTree p (Some (name_at p c)) [] (set_of ss)

abbrev pub operation : ℕ → OperationType → Option (List ℕ) → List (SelectionTree ℕ) → DefinitionTree ℕ
operation p ty n ss = Operation p (record { operation_type = ty; name = option_map (name_at p) n; variables = []; directives = []; selections = set_of ss })

abbrev pub fragment_on : ℕ → List ℕ → List ℕ → List (SelectionTree ℕ) → DefinitionTree ℕ
fragment_on p n c ss = Fragment p (record { name = name_at p n; type_condition = name_at p c; directives = []; selections = set_of ss })

-- the name inside the type of a field
abbrev pub field_type : MeantSelection ℕ → List ℕ
field_type (MeantField p d h s) = inner_type d
field_type (MeantSpread p n ds) = []
field_type (MeantInline p c ds s) = []

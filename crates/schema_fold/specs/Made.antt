-- Private: leads to `specs/Fold.antt`. A type made from its definition and the components that are kept.
use Rattle.std.specs.Prelude.{◌≡◌, [], Option, Some}
use Rattle.std.specs.Option.{option_map}
use Rattle.graphql_names.specs.Placed.{Place, Text, name_tree, text_tree}
use Rattle.tree_definitions.specs.DefinitionTree.{DefinitionTree}
use Rattle.schema_types.specs.SchemaTree.{SchemaType}
use Rattle.schema_types.specs.TypeParts.{TypeDefinition, type_here}
use Rattle.schema_types.specs.declared.type_kind.TypeKind.{TypeKind}
use Rattle.schema_types.specs.declared.type_kind.TypeKind.TheVariants.{Scalar, Object, Interface, Union, Enum, InputObject}
use Rattle.schema_fold.specs.Kept.{KeptComponents}
use Rattle.schema_fold.specs.PartsView.{parts_view}
use Rattle.schema_fold.specs.declared.parts.Defined.{Defined}
use Rattle.schema_fold.specs.declared.make.Head.{Head}

abbrev pub defined_view : Defined → TypeDefinition Place
defined_view d = record { place = d.location; description = option_map (λ t. text_tree t.now) d.description; parts = parts_view d.parts }

abbrev pub made_at : TypeKind → Place → Option (Text Place) → Text Place → KeptComponents → SchemaType Place
made_at kind place description name kept = record {
  kind = kind;
  place = place;
  description = description;
  name = name;
  directives = kept.directives;
  interfaces = kept.interfaces;
  fields = kept.fields;
  members = kept.members;
  values = kept.values;
  inputs = kept.inputs;
}

abbrev pub made : TypeDefinition Place → KeptComponents → SchemaType Place
made t kept = made_at t.parts.kind t.place t.description t.parts.name kept

abbrev pub headed : TypeKind → Place → Head → KeptComponents → SchemaType Place
headed kind place head kept = made_at kind place (option_map text_tree head.description) (name_tree head.name) kept

-- the classes that types of this kind do not have are empty
abbrev pub IsOfKind : TypeKind → KeptComponents → Type 0
IsOfKind Scalar kept = (kept.interfaces ≡ []) × (kept.fields ≡ []) × (kept.members ≡ []) × (kept.values ≡ []) × (kept.inputs ≡ [])
IsOfKind Object kept = (kept.members ≡ []) × (kept.values ≡ []) × (kept.inputs ≡ [])
IsOfKind Interface kept = (kept.members ≡ []) × (kept.values ≡ []) × (kept.inputs ≡ [])
IsOfKind Union kept = (kept.interfaces ≡ []) × (kept.fields ≡ []) × (kept.values ≡ []) × (kept.inputs ≡ [])
IsOfKind Enum kept = (kept.interfaces ≡ []) × (kept.fields ≡ []) × (kept.members ≡ []) × (kept.inputs ≡ [])
IsOfKind InputObject kept = (kept.interfaces ≡ []) × (kept.fields ≡ []) × (kept.members ≡ []) × (kept.values ≡ [])

-- t is what some definition of a type defines
abbrev pub IsDefinition : TypeDefinition Place → Type 0
IsDefinition t = (d : DefinitionTree Place) × (type_here d ≡ Some t)

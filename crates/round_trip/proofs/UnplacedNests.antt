-- Places do not count in how deep a tree nests.
use Rattle.std.proofs.Common.{◌≡◌, ℕ, suc, max, List, [], ◌∷◌, map, Option, Some, None, refl, ap, ◌∙◌}
use Rattle.std.specs.Option.{option_map}
use Rattle.graphql_names.specs.Placed.{Placed, unplaced_node}
use Rattle.read_operations.specs.in_literals.TypeTree.{TypeTree, NamedTree, NonNullNamedTree, ListTree as ListTypeTree, NonNullListTree, unplaced_type}
use Rattle.read_operations.specs.in_literals.ValueTree.{ValueTree, NullTree, EnumTree, VariableTree, StringTree, FloatTree, IntTree, BooleanTree, ListTree, ObjectTree, ItemTrees, no_items, item_then, EntryTrees, no_entries, entry_then, unplaced_value, unplaced_items, unplaced_entries}
use Rattle.read_operations.specs.in_directives.DirectiveTree.{Arguments, Directives, InputValueTree, InputValues, unplaced_argument, unplaced_arguments, unplaced_directive, unplaced_directives, unplaced_input_value}
use Rattle.read_operations.specs.in_operations.SelectionTree.{SelectionTree, FieldTree, SpreadTree, InlineTree, SelectionTrees, no_selections, selection_then, unplaced_selection, unplaced_selections}
use Rattle.read_operations.specs.in_operations.OperationTree.{VariableDefinitionTree, OperationTree, unplaced_variable_definition, unplaced_operation}
use Rattle.read_operations.specs.in_type_members.TypeSystemTree.{FieldDefinitionTree, SchemaParts, FieldsParts, EnumParts, InputObjectParts, unplaced_field_definition, unplaced_enum_value, unplaced_root, unplaced_schema, unplaced_fields, unplaced_enum, unplaced_input_object}
use Rattle.read_operations.specs.in_definitions.DefinitionTree.{DefinitionTree, Operation, Fragment, DirectiveDefinition, Schema, ScalarType, ObjectType, InterfaceType, UnionType, EnumType, InputObjectType, ExtendSchema, ExtendScalar, ExtendObject, ExtendInterface, ExtendUnion, ExtendEnum, ExtendInputObject, unplaced_definition, unplaced_document}
use Rattle.round_trip.specs.TreeDepth.{deepest, bracketed, type_depth, value_depth, items_depth, entries_depth, default_depth, argument_depth, arguments_depth, directive_depth, directives_depth, selection_depth, selections_depth, set_depth, variable_depth, operation_depth, input_value_depth, input_values_depth, field_definition_depth, enum_value_depth, fields_depth, enum_depth, input_object_depth, schema_depth, definition_depth, document_depth}

max_same : {a a' b b' : ℕ} → a ≡ a' → b ≡ b' → max a b ≡ max a' b'
max_same {a} {a'} {b} {b'} e f = ap (λ (n : ℕ). max n b) e ∙ ap (max a') f

module _ {A B : Type 0} (d : B → ℕ) (e : A → ℕ) (f : A → B) (same : (x : A) → d (f x) ≡ e x) where
  deepest-map : (xs : List A) → deepest d (map f xs) ≡ deepest e xs
  deepest-map [] = refl
  deepest-map (x ∷ xs) = max_same (same x) (deepest-map xs)

  bracketed-map : (xs : List A) → bracketed d (map f xs) ≡ bracketed e xs
  bracketed-map [] = refl
  bracketed-map (x ∷ xs) = ap suc (deepest-map (x ∷ xs))

module _ {P : Type 0} where
  pub type_unplaced : (t : TypeTree P) → type_depth (unplaced_type t) ≡ type_depth t
  type_unplaced (NamedTree n) = refl
  type_unplaced (NonNullNamedTree n) = refl
  type_unplaced (ListTypeTree t) = ap suc (type_unplaced t)
  type_unplaced (NonNullListTree t) = ap suc (type_unplaced t)

  mutual
    value_unplaced : (t : ValueTree P) → value_depth (unplaced_value t) ≡ value_depth t
    value_unplaced NullTree = refl
    value_unplaced (EnumTree n) = refl
    value_unplaced (VariableTree n) = refl
    value_unplaced (StringTree s) = refl
    value_unplaced (FloatTree s) = refl
    value_unplaced (IntTree s) = refl
    value_unplaced (BooleanTree b) = refl
    value_unplaced (ListTree ts) = ap suc (items_unplaced ts)
    value_unplaced (ObjectTree ts) = ap suc (entries_unplaced ts)

    items_unplaced : (ts : ItemTrees P) → items_depth (unplaced_items ts) ≡ items_depth ts
    items_unplaced no_items = refl
    items_unplaced (item_then p t ts) = max_same (value_unplaced t) (items_unplaced ts)

    entries_unplaced : (ts : EntryTrees P) → entries_depth (unplaced_entries ts) ≡ entries_depth ts
    entries_unplaced no_entries = refl
    entries_unplaced (entry_then n p t ts) = max_same (value_unplaced t) (entries_unplaced ts)

  default_unplaced : (v : Option (Placed P (ValueTree P))) → default_depth (option_map (unplaced_node unplaced_value) v) ≡ default_depth v
  default_unplaced None = refl
  default_unplaced (Some x) = value_unplaced x.it

  arguments_unplaced : (as' : Arguments P) → arguments_depth (unplaced_arguments as') ≡ arguments_depth as'
  arguments_unplaced as' = bracketed-map (λ a. argument_depth a.it) (λ a. argument_depth a.it) (unplaced_node unplaced_argument) (λ a. value_unplaced a.it.value.it) as'

  directives_unplaced : (ds : Directives P) → directives_depth (unplaced_directives ds) ≡ directives_depth ds
  directives_unplaced ds = deepest-map (λ d. directive_depth d.it) (λ d. directive_depth d.it) (unplaced_node unplaced_directive) (λ d. arguments_unplaced d.it.arguments) ds

  mutual
    selection_unplaced : (t : SelectionTree P) → selection_depth (unplaced_selection t) ≡ selection_depth t
    selection_unplaced (FieldTree p f ts) = max_same (arguments_unplaced f.arguments) (max_same (directives_unplaced f.directives) (set_unplaced ts))
    selection_unplaced (SpreadTree p n ds) = directives_unplaced ds
    selection_unplaced (InlineTree p c ds ts) = max_same (directives_unplaced ds) (set_unplaced ts)

    pub selections_unplaced : (ts : SelectionTrees P) → selections_depth (unplaced_selections ts) ≡ selections_depth ts
    selections_unplaced no_selections = refl
    selections_unplaced (selection_then t ts) = max_same (selection_unplaced t) (selections_unplaced ts)

    set_unplaced : (ts : SelectionTrees P) → set_depth (unplaced_selections ts) ≡ set_depth ts
    set_unplaced no_selections = refl
    set_unplaced (selection_then t ts) = ap suc (max_same (selection_unplaced t) (selections_unplaced ts))

  variable_unplaced : (v : VariableDefinitionTree P) → variable_depth (unplaced_variable_definition v) ≡ variable_depth v
  variable_unplaced v = max_same (type_unplaced v.ty.it) (max_same (default_unplaced v.default_value) (directives_unplaced v.directives))

  operation_unplaced : (o : OperationTree P) → operation_depth (unplaced_operation o) ≡ operation_depth o
  operation_unplaced o =
      max_same (bracketed-map (λ v. variable_depth v.it) (λ v. variable_depth v.it) (unplaced_node unplaced_variable_definition) (λ v. variable_unplaced v.it) o.variables)
      (max_same (directives_unplaced o.directives) (set_unplaced o.selections))

  input_value_unplaced : (v : InputValueTree P) → input_value_depth (unplaced_input_value v) ≡ input_value_depth v
  input_value_unplaced v = max_same (type_unplaced v.ty.it) (max_same (default_unplaced v.default_value) (directives_unplaced v.directives))

  input_values_unplaced : (vs : InputValues P) → input_values_depth (map (unplaced_node unplaced_input_value) vs) ≡ input_values_depth vs
  input_values_unplaced vs = bracketed-map (λ v. input_value_depth v.it) (λ v. input_value_depth v.it) (unplaced_node unplaced_input_value) (λ v. input_value_unplaced v.it) vs

  field_unplaced : (f : FieldDefinitionTree P) → field_definition_depth (unplaced_field_definition f) ≡ field_definition_depth f
  field_unplaced f = max_same (input_values_unplaced f.arguments) (max_same (type_unplaced f.ty) (directives_unplaced f.directives))

  fields_unplaced : (t : FieldsParts P) → fields_depth (unplaced_fields t) ≡ fields_depth t
  fields_unplaced t = max_same (directives_unplaced t.directives) (bracketed-map (λ f. field_definition_depth f.it) (λ f. field_definition_depth f.it) (unplaced_node unplaced_field_definition) (λ f. field_unplaced f.it) t.fields)

  enum_unplaced : (t : EnumParts P) → enum_depth (unplaced_enum t) ≡ enum_depth t
  enum_unplaced t = max_same (directives_unplaced t.directives) (bracketed-map (λ v. enum_value_depth v.it) (λ v. enum_value_depth v.it) (unplaced_node unplaced_enum_value) (λ v. directives_unplaced v.it.directives) t.values)

  input_object_unplaced : (t : InputObjectParts P) → input_object_depth (unplaced_input_object t) ≡ input_object_depth t
  input_object_unplaced t = max_same (directives_unplaced t.directives) (input_values_unplaced t.fields)

  schema_unplaced : (s : SchemaParts P) → schema_depth (unplaced_schema s) ≡ schema_depth s
  schema_unplaced s = max_same (directives_unplaced s.directives) (bracketed-map (λ r. 0) (λ r. 0) (unplaced_node unplaced_root) (λ r. refl) s.roots)

  definition_unplaced : (d : DefinitionTree P) → definition_depth (unplaced_definition d) ≡ definition_depth d
  definition_unplaced (Operation p o) = operation_unplaced o
  definition_unplaced (Fragment p f) = max_same (directives_unplaced f.directives) (set_unplaced f.selections)
  definition_unplaced (DirectiveDefinition p d) = max_same (input_values_unplaced d.arguments) (directives_unplaced d.directives)
  definition_unplaced (Schema p d s) = schema_unplaced s
  definition_unplaced (ScalarType p d t) = directives_unplaced t.directives
  definition_unplaced (ObjectType p d t) = fields_unplaced t
  definition_unplaced (InterfaceType p d t) = fields_unplaced t
  definition_unplaced (UnionType p d t) = directives_unplaced t.directives
  definition_unplaced (EnumType p d t) = enum_unplaced t
  definition_unplaced (InputObjectType p d t) = input_object_unplaced t
  definition_unplaced (ExtendSchema p s) = schema_unplaced s
  definition_unplaced (ExtendScalar p t) = directives_unplaced t.directives
  definition_unplaced (ExtendObject p t) = fields_unplaced t
  definition_unplaced (ExtendInterface p t) = fields_unplaced t
  definition_unplaced (ExtendUnion p t) = directives_unplaced t.directives
  definition_unplaced (ExtendEnum p t) = enum_unplaced t
  definition_unplaced (ExtendInputObject p t) = input_object_unplaced t

  pub document_unplaced : (ds : List (DefinitionTree P)) → document_depth (unplaced_document ds) ≡ document_depth ds
  document_unplaced ds = deepest-map definition_depth definition_depth unplaced_definition definition_unplaced ds

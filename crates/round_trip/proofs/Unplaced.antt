-- The layout knows no places: the text of a tree is that of the tree without them.
use Rattle.std.specs.Prelude.{if◌then◌else◌, is_some}
use Rattle.std.proofs.Common.{◌≡◌, ℕ, ◌+◌, Bool, false, ◌&&◌, ◌||◌, List, [], ◌∷◌, map, codes, Option, Some, None, option_map, refl}
use Rattle.round_trip.specs.in_literals.Joined.{joined, further_text, separated}
use Rattle.round_trip.specs.in_literals.LineLayout.{Prefix, start_text, break_text, members_text, braced_text, set_text, parenthesized_text, texts_of}
use Rattle.round_trip.specs.in_literals.StringLayout.{description_text}
use Rattle.read_operations.specs.in_literals.ValueLayout.{type_text, list_text, object_text, named_value_text, value_text, item_texts, entry_texts, default_text}
use Rattle.read_operations.specs.in_directives.DirectiveLayout.{argument_text, arguments_text, directive_text, directives_text, directive_list_text}
use Rattle.read_operations.specs.in_directives.InputLayout.{input_value_text, are_on_lines, argument_definitions_text, repeatable_text, locations_text, directive_definition_text}
use Rattle.read_operations.specs.in_operations.OperationQueries.{operation_keyword}
use Rattle.read_operations.specs.in_operations.OperationLayout.{alias_text, condition_text, selection_text, selection_texts, is_query, variable_text, variables_text, is_none, is_empty, is_bare_query, operation_name_text, full_operation_text, operation_text, begins_output, fragment_text}
use Rattle.read_operations.specs.in_type_members.TypeSystemLayout.{name_text, names_text, head_text, field_definition_text, enum_value_text, root_text, extend, schema_text, scalar_text, fields_text, union_text, enum_text, input_object_text}
use Rattle.graphql_names.specs.Placed.{Placed, Text, unplaced_text, unplaced_node}
use Rattle.read_operations.specs.in_literals.TypeTree.{TypeTree, NamedTree, NonNullNamedTree, ListTree as ListTypeTree, NonNullListTree, unplaced_type}
use Rattle.read_operations.specs.in_literals.ValueTree.{ValueTree, NullTree, EnumTree, VariableTree, StringTree, FloatTree, IntTree, BooleanTree, ListTree, ObjectTree, ItemTrees, no_items, item_then, EntryTrees, no_entries, entry_then, unplaced_value, unplaced_items, unplaced_entries}
use Rattle.read_operations.specs.in_directives.DirectiveTree.{ArgumentTree, Arguments, DirectiveTree, Directives, InputValueTree, InputValues, DirectiveDefinitionTree, unplaced_argument, unplaced_arguments, unplaced_directive, unplaced_directives, unplaced_input_value, unplaced_directive_definition}
use Rattle.read_operations.specs.in_operations.SelectionTree.{SelectionTree, FieldTree, SpreadTree, InlineTree, SelectionTrees, no_selections, selection_then, unplaced_selection, unplaced_selections}
use Rattle.read_operations.specs.in_operations.OperationTree.{VariableDefinitionTree, OperationTree, FragmentTree, unplaced_variable_definition, unplaced_operation, unplaced_fragment}
use Rattle.read_operations.specs.in_type_members.TypeSystemTree.{FieldDefinitionTree, EnumValueTree, RootOperationTree, SchemaParts, ScalarParts, FieldsParts, UnionParts, EnumParts, InputObjectParts, unplaced_field_definition, unplaced_enum_value, unplaced_root, unplaced_schema, unplaced_scalar, unplaced_fields, unplaced_union, unplaced_enum, unplaced_input_object}
use Rattle.read_operations.specs.in_definitions.DefinitionTree.{DefinitionTree, Operation, Fragment, DirectiveDefinition, Schema, ScalarType, ObjectType, InterfaceType, UnionType, EnumType, InputObjectType, ExtendSchema, ExtendScalar, ExtendObject, ExtendInterface, ExtendUnion, ExtendEnum, ExtendInputObject, unplaced_definition, unplaced_document}
use Rattle.read_operations.specs.in_definitions.DocumentLayout.{definition_text, between_text, next_definition_text, end_text, document_text}
use Rattle.round_trip.specs.SelectionsLayout.{selections_text}

-- the texts of nodes, where the text of each knows no places
texts_same : {P A B X : Type 0} (f : A → X) (g : B → X) (u : A → B) → ((a : A) → f a ≡ g (u a)) → (ns : List (Placed P A)) → texts_of f ns ≡ texts_of g (map (unplaced_node u) ns)
texts_same f g u same [] = refl
texts_same f g u same (n ∷ ns) = λ i. same n.it i ∷ texts_same f g u same ns i

module _ {P : Type 0} where
  -- ---- types, values, directives

  pub type_same : (t : TypeTree P) → type_text t ≡ type_text (unplaced_type t)
  type_same (NamedTree n) = refl
  type_same (NonNullNamedTree n) = refl
  type_same (ListTypeTree t) = λ i. joined (codes "[" ∷ type_same t i ∷ codes "]" ∷ [])
  type_same (NonNullListTree t) = λ i. joined (codes "[" ∷ type_same t i ∷ codes "]!" ∷ [])

  mutual
    pub value_same : (t : ValueTree P) → value_text t ≡ value_text (unplaced_value t)
    value_same NullTree = refl
    value_same (EnumTree n) = refl
    value_same (VariableTree n) = refl
    value_same (StringTree s) = refl
    value_same (FloatTree s) = refl
    value_same (IntTree s) = refl
    value_same (BooleanTree b) = refl
    value_same (ListTree ts) = λ i. list_text (items_same ts i)
    value_same (ObjectTree ts) = λ i. object_text (entries_same ts i)

    items_same : (ts : ItemTrees P) → item_texts ts ≡ item_texts (unplaced_items ts)
    items_same no_items = refl
    items_same (item_then p t ts) = λ i. value_same t i ∷ items_same ts i

    entries_same : (ts : EntryTrees P) → entry_texts ts ≡ entry_texts (unplaced_entries ts)
    entries_same no_entries = refl
    entries_same (entry_then n p t ts) = λ i. named_value_text n.it (value_same t i) ∷ entries_same ts i

  pub default_same : (v : Option (Placed P (ValueTree P))) → default_text v ≡ default_text (option_map (unplaced_node unplaced_value) v)
  default_same None = refl
  default_same (Some v) = λ i. joined (codes " = " ∷ value_same v.it i ∷ [])

  pub argument_same : (a : ArgumentTree P) → argument_text a ≡ argument_text (unplaced_argument a)
  argument_same a = λ i. named_value_text a.name.it (value_same a.value.it i)

  pub arguments_same : (as' : Arguments P) → arguments_text as' ≡ arguments_text (unplaced_arguments as')
  arguments_same as' = λ i. parenthesized_text (texts_same argument_text argument_text unplaced_argument argument_same as' i)

  pub directive_same : (d : DirectiveTree P) → directive_text d ≡ directive_text (unplaced_directive d)
  directive_same d = λ i. joined (codes "@" ∷ d.name.it ∷ arguments_same d.arguments i ∷ [])

  pub directives_same : (ds : Directives P) → directives_text ds ≡ directives_text (unplaced_directives ds)
  directives_same ds = λ i. further_text (codes " ") (texts_same directive_text directive_text unplaced_directive directive_same ds i)

  pub directive_list_same : (ds : Directives P) → directive_list_text ds ≡ directive_list_text (unplaced_directives ds)
  directive_list_same ds = λ i. separated (codes " ") (texts_same directive_text directive_text unplaced_directive directive_same ds i)

  -- ---- selections

  alias_same : (n : Option (Text P)) → alias_text n ≡ alias_text (option_map unplaced_text n)
  alias_same None = refl
  alias_same (Some n) = refl

  condition_same : (n : Option (Text P)) → condition_text n ≡ condition_text (option_map unplaced_text n)
  condition_same None = refl
  condition_same (Some n) = refl

  mutual
    pub selection_same : (prefix : Prefix) (t : SelectionTree P) → selection_text prefix t ≡ selection_text prefix (unplaced_selection t)
    selection_same prefix (FieldTree p f ts) =
        λ i level. joined (alias_same f.alias i ∷ f.name.it ∷ arguments_same f.arguments i ∷ directives_same f.directives i ∷ set_text prefix level (set_same prefix ts i) ∷ [])
    selection_same prefix (SpreadTree p n ds) = λ i level. joined (codes "..." ∷ n.it ∷ directives_same ds i ∷ [])
    selection_same prefix (InlineTree p c ds ts) = λ i level. joined (codes "..." ∷ condition_same c i ∷ directives_same ds i ∷ set_text prefix level (set_same prefix ts i) ∷ [])

    set_same : (prefix : Prefix) (ts : SelectionTrees P) → selection_texts prefix ts ≡ selection_texts prefix (unplaced_selections ts)
    set_same prefix no_selections = refl
    set_same prefix (selection_then t ts) = λ i. selection_same prefix t i ∷ set_same prefix ts i

  pub selections_same : (prefix : Prefix) (level : ℕ) (ts : SelectionTrees P) → selections_text prefix ts level ≡ selections_text prefix (unplaced_selections ts) level
  selections_same prefix level no_selections = refl
  selections_same prefix level (selection_then t ts) = λ i. joined (start_text prefix level ∷ selection_same prefix t i level ∷ members_text prefix level (set_same prefix ts i) ∷ [])

  -- ---- operations and fragments

  pub variable_same : (v : VariableDefinitionTree P) → variable_text v ≡ variable_text (unplaced_variable_definition v)
  variable_same v = λ i. joined (codes "$" ∷ v.name.it ∷ codes ": " ∷ type_same v.ty.it i ∷ default_same v.default_value i ∷ directives_same v.directives i ∷ [])

  pub variables_same : (vs : List (Placed P (VariableDefinitionTree P))) → variables_text vs ≡ variables_text (map (unplaced_node unplaced_variable_definition) vs)
  variables_same vs = λ i. parenthesized_text (texts_same variable_text variable_text unplaced_variable_definition variable_same vs i)

  none_same : (n : Option (Text P)) → is_none n ≡ is_none (option_map unplaced_text n)
  none_same None = refl
  none_same (Some n) = refl

  empty_same : {A B : Type 0} (u : A → B) (ns : List (Placed P A)) → is_empty ns ≡ is_empty (map (unplaced_node u) ns)
  empty_same u [] = refl
  empty_same u (n ∷ ns) = refl

  bare_same : (o : OperationTree P) → is_bare_query o ≡ is_bare_query (unplaced_operation o)
  bare_same o = λ i. is_query o.operation_type && none_same o.name i && empty_same unplaced_variable_definition o.variables i && empty_same unplaced_directive o.directives i

  operation_name_same : (n : Option (Text P)) → operation_name_text n ≡ operation_name_text (option_map unplaced_text n)
  operation_name_same None = refl
  operation_name_same (Some n) = refl

  full_operation_same : (prefix : Prefix) (o : OperationTree P) (level : ℕ) → full_operation_text prefix o level ≡ full_operation_text prefix (unplaced_operation o) level
  full_operation_same prefix o level =
      λ i. joined (operation_keyword o.operation_type ∷ operation_name_same o.name i ∷ variables_same o.variables i
      ∷ directives_same o.directives i ∷ set_text prefix level (set_same prefix o.selections i) ∷ [])

  pub operation_same : (at_start : Bool) (prefix : Prefix) (level : ℕ) (o : OperationTree P) → operation_text at_start prefix o level ≡ operation_text at_start prefix (unplaced_operation o) level
  operation_same at_start prefix level o =
      λ i. if at_start && bare_same o i then braced_text prefix level (set_same prefix o.selections i) else full_operation_same prefix o level i

  pub fragment_same : (prefix : Prefix) (level : ℕ) (f : FragmentTree P) → fragment_text prefix f level ≡ fragment_text prefix (unplaced_fragment f) level
  fragment_same prefix level f =
      λ i. joined (codes "fragment " ∷ f.name.it ∷ codes " on " ∷ f.type_condition.it ∷ directives_same f.directives i ∷ set_text prefix level (set_same prefix f.selections i) ∷ [])

  -- ---- input values

  description_same : (prefix : Prefix) (level : ℕ) (d : Option (Text P)) → description_text prefix level d ≡ description_text prefix level (option_map unplaced_text d)
  description_same prefix level None = refl
  description_same prefix level (Some d) = refl

  pub input_value_same : (prefix : Prefix) (v : InputValueTree P) (level : ℕ) → input_value_text prefix v level ≡ input_value_text prefix (unplaced_input_value v) level
  input_value_same prefix v level =
      λ i. joined (description_same prefix level v.description i ∷ v.name.it ∷ codes ": " ∷ type_same v.ty.it i ∷ default_same v.default_value i ∷ directives_same v.directives i ∷ [])

  described_same : (d : Option (Text P)) → is_some d ≡ is_some (option_map unplaced_text d)
  described_same None = refl
  described_same (Some d) = refl

  lines_same : (vs : InputValues P) → are_on_lines vs ≡ are_on_lines (map (unplaced_node unplaced_input_value) vs)
  lines_same [] = refl
  lines_same (v ∷ vs) = λ i. described_same v.it.description i || lines_same vs i

  in_line_same : (prefix : Prefix) (vs : InputValues P) (level : ℕ) → texts_of (λ v. input_value_text prefix v level) vs ≡ texts_of (λ v. input_value_text prefix v level) (map (unplaced_node unplaced_input_value) vs)
  in_line_same prefix vs level = texts_same (λ v. input_value_text prefix v level) (λ v. input_value_text prefix v level) unplaced_input_value (λ v. input_value_same prefix v level) vs

  pub on_lines_same : (prefix : Prefix) (vs : InputValues P) → texts_of (input_value_text prefix) vs ≡ texts_of (input_value_text prefix) (map (unplaced_node unplaced_input_value) vs)
  on_lines_same prefix vs = texts_same (input_value_text prefix) (input_value_text prefix) unplaced_input_value (λ v. λ i level. input_value_same prefix v level i) vs

  pub argument_definitions_same : (prefix : Prefix) (vs : InputValues P) (level : ℕ) → argument_definitions_text prefix vs level ≡ argument_definitions_text prefix (map (unplaced_node unplaced_input_value) vs) level
  argument_definitions_same None vs level = λ i. parenthesized_text (in_line_same None vs level i)
  argument_definitions_same (Some lines) vs level =
      λ i. if lines_same vs i then joined (codes "(" ∷ members_text (Some lines) (level + 1) (on_lines_same (Some lines) vs i) ∷ break_text (Some lines) level ∷ codes ")" ∷ []) else parenthesized_text (in_line_same (Some lines) vs level i)

  -- ---- members of types

  pub field_definition_same : (prefix : Prefix) (f : FieldDefinitionTree P) (level : ℕ) → field_definition_text prefix f level ≡ field_definition_text prefix (unplaced_field_definition f) level
  field_definition_same prefix f level =
      λ i. joined (description_same prefix level f.description i
      ∷ joined (f.name.it ∷ argument_definitions_same prefix f.arguments level i ∷ codes ": " ∷ type_same f.ty i ∷ directives_same f.directives i ∷ []) ∷ [])

  pub enum_value_same : (prefix : Prefix) (v : EnumValueTree P) (level : ℕ) → enum_value_text prefix v level ≡ enum_value_text prefix (unplaced_enum_value v) level
  enum_value_same prefix v level = λ i. joined (description_same prefix level v.description i ∷ v.value.it ∷ directives_same v.directives i ∷ [])

  all_names_same : (ns : List (Text P)) → map name_text ns ≡ map name_text (map unplaced_text ns)
  all_names_same [] = refl
  all_names_same (n ∷ ns) = λ i. n.it ∷ all_names_same ns i

  pub names_same : (keyword sign : List ℕ) (ns : List (Text P)) → names_text keyword sign ns ≡ names_text keyword sign (map unplaced_text ns)
  names_same keyword sign [] = refl
  names_same keyword sign (n ∷ ns) = λ i. joined (keyword ∷ n.it ∷ further_text sign (all_names_same ns i) ∷ [])

  head_same : (keyword : List ℕ) (name : Text P) (ns : List (Text P)) (ds : Directives P) → head_text keyword name ns ds ≡ head_text keyword (unplaced_text name) (map unplaced_text ns) (unplaced_directives ds)
  head_same keyword name ns ds = λ i. joined (keyword ∷ name.it ∷ names_same (codes " implements ") (codes " & ") ns i ∷ directives_same ds i ∷ [])

  pub fields_set_same : (prefix : Prefix) (fs : List (Placed P (FieldDefinitionTree P))) → texts_of (field_definition_text prefix) fs ≡ texts_of (field_definition_text prefix) (map (unplaced_node unplaced_field_definition) fs)
  fields_set_same prefix fs = texts_same (field_definition_text prefix) (field_definition_text prefix) unplaced_field_definition (λ f. λ i level. field_definition_same prefix f level i) fs

  pub values_set_same : (prefix : Prefix) (vs : List (Placed P (EnumValueTree P))) → texts_of (enum_value_text prefix) vs ≡ texts_of (enum_value_text prefix) (map (unplaced_node unplaced_enum_value) vs)
  values_set_same prefix vs = texts_same (enum_value_text prefix) (enum_value_text prefix) unplaced_enum_value (λ v. λ i level. enum_value_same prefix v level i) vs

  pub roots_set_same : (rs : List (Placed P (RootOperationTree P))) → texts_of root_text rs ≡ texts_of root_text (map (unplaced_node unplaced_root) rs)
  roots_set_same rs = texts_same root_text root_text unplaced_root (λ r. refl) rs

  -- ---- definitions, with what comes before them

  schema_same : (lead front : List ℕ) → lead ≡ front → (prefix : Prefix) (s : SchemaParts P) (level : ℕ) → schema_text lead prefix s level ≡ schema_text front prefix (unplaced_schema s) level
  schema_same lead front e prefix s level = λ i. joined (e i ∷ codes "schema" ∷ directives_same s.directives i ∷ set_text prefix level (roots_set_same s.roots i) ∷ [])

  scalar_same : (lead front : List ℕ) → lead ≡ front → (t : ScalarParts P) → scalar_text lead t ≡ scalar_text front (unplaced_scalar t)
  scalar_same lead front e t = λ i. joined (e i ∷ head_same (codes "scalar ") t.name [] t.directives i ∷ [])

  fields_same : (lead front : List ℕ) → lead ≡ front → (keyword : List ℕ) (prefix : Prefix) (t : FieldsParts P) (level : ℕ) → fields_text lead keyword prefix t level ≡ fields_text front keyword prefix (unplaced_fields t) level
  fields_same lead front e keyword prefix t level = λ i. joined (e i ∷ head_same keyword t.name t.interfaces t.directives i ∷ set_text prefix level (fields_set_same prefix t.fields i) ∷ [])

  union_same : (lead front : List ℕ) → lead ≡ front → (t : UnionParts P) → union_text lead t ≡ union_text front (unplaced_union t)
  union_same lead front e t = λ i. joined (e i ∷ head_same (codes "union ") t.name [] t.directives i ∷ names_same (codes " = ") (codes " | ") t.members i ∷ [])

  enum_same : (lead front : List ℕ) → lead ≡ front → (prefix : Prefix) (t : EnumParts P) (level : ℕ) → enum_text lead prefix t level ≡ enum_text front prefix (unplaced_enum t) level
  enum_same lead front e prefix t level = λ i. joined (e i ∷ head_same (codes "enum ") t.name [] t.directives i ∷ set_text prefix level (values_set_same prefix t.values i) ∷ [])

  input_object_same : (lead front : List ℕ) → lead ≡ front → (prefix : Prefix) (t : InputObjectParts P) (level : ℕ) → input_object_text lead prefix t level ≡ input_object_text front prefix (unplaced_input_object t) level
  input_object_same lead front e prefix t level = λ i. joined (e i ∷ head_same (codes "input ") t.name [] t.directives i ∷ set_text prefix level (on_lines_same prefix t.fields i) ∷ [])

  directive_definition_same : (prefix : Prefix) (d : DirectiveDefinitionTree P) (level : ℕ) → directive_definition_text prefix d level ≡ directive_definition_text prefix (unplaced_directive_definition d) level
  directive_definition_same prefix d level =
      λ i. joined (description_same prefix level d.description i
      ∷ joined (codes "directive @" ∷ d.name.it ∷ argument_definitions_same prefix d.arguments level i ∷ directives_same d.directives i ∷ repeatable_text d.repeatable ∷ locations_text d.locations ∷ []) ∷ [])

  pub definition_same : (at_start : Bool) (prefix : Prefix) (d : DefinitionTree P) (level : ℕ) → definition_text at_start prefix d level ≡ definition_text at_start prefix (unplaced_definition d) level
  definition_same at_start prefix (Operation p o) level = operation_same at_start prefix level o
  definition_same at_start prefix (Fragment p f) level = fragment_same prefix level f
  definition_same at_start prefix (DirectiveDefinition p d) level = directive_definition_same prefix d level
  definition_same at_start prefix (Schema p d s) level = schema_same _ _ (description_same prefix level d) prefix s level
  definition_same at_start prefix (ScalarType p d t) level = scalar_same _ _ (description_same prefix level d) t
  definition_same at_start prefix (ObjectType p d t) level = fields_same _ _ (description_same prefix level d) (codes "type ") prefix t level
  definition_same at_start prefix (InterfaceType p d t) level = fields_same _ _ (description_same prefix level d) (codes "interface ") prefix t level
  definition_same at_start prefix (UnionType p d t) level = union_same _ _ (description_same prefix level d) t
  definition_same at_start prefix (EnumType p d t) level = enum_same _ _ (description_same prefix level d) prefix t level
  definition_same at_start prefix (InputObjectType p d t) level = input_object_same _ _ (description_same prefix level d) prefix t level
  definition_same at_start prefix (ExtendSchema p s) level = schema_same extend extend refl prefix s level
  definition_same at_start prefix (ExtendScalar p t) level = scalar_same extend extend refl t
  definition_same at_start prefix (ExtendObject p t) level = fields_same extend extend refl (codes "type ") prefix t level
  definition_same at_start prefix (ExtendInterface p t) level = fields_same extend extend refl (codes "interface ") prefix t level
  definition_same at_start prefix (ExtendUnion p t) level = union_same extend extend refl t
  definition_same at_start prefix (ExtendEnum p t) level = enum_same extend extend refl prefix t level
  definition_same at_start prefix (ExtendInputObject p t) level = input_object_same extend extend refl prefix t level

  -- ---- documents

  next_same : (prefix : Prefix) (level : ℕ) (ds : List (DefinitionTree P)) → map (next_definition_text prefix level) ds ≡ map (next_definition_text prefix level) (unplaced_document ds)
  next_same prefix level [] = refl
  next_same prefix level (d ∷ ds) = λ i. joined (between_text prefix ∷ start_text prefix level ∷ definition_same false prefix d level i ∷ []) ∷ next_same prefix level ds i

  pub document_same : (prefix : Prefix) (level : ℕ) (ds : List (DefinitionTree P)) → document_text prefix level ds ≡ document_text prefix level (unplaced_document ds)
  document_same prefix level [] = refl
  document_same prefix level (d ∷ ds) =
      λ i. joined (start_text prefix level ∷ definition_same (begins_output prefix level) prefix d level i ∷ joined (next_same prefix level ds i) ∷ end_text prefix ∷ [])

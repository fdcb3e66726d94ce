-- Parts of trees, and each definition by itself, have one text only if they are equal, apart from places, and then they have.
use Rattle.std.proofs.Common.{◌≡◌, ℕ, zero, suc, ◌≤◌, Bool, true, ◌&&◌, List, [], ◌∷◌, map, codes, Option, option_map, unwrap_or, refl, sym, ap, ◌∙◌, le_refl, arith}
use Rattle.std.specs.List.{list_all}
use Rattle.round_trip.specs.in_literals.Joined.{joined}
use Rattle.round_trip.specs.in_literals.LineLayout.{Prefix, start_text, set_text, texts_of}
use Rattle.read_operations.specs.in_literals.ValueLayout.{default_text}
use Rattle.read_operations.specs.in_directives.DirectiveLayout.{argument_text, arguments_text, directive_text, directives_text, directive_list_text}
use Rattle.read_operations.specs.in_directives.InputLayout.{input_value_text, argument_definitions_text}
use Rattle.read_operations.specs.in_operations.OperationLayout.{selection_text, variable_text, variables_text}
use Rattle.read_operations.specs.in_type_members.TypeSystemLayout.{names_text, field_definition_text, enum_value_text, root_text}
use Rattle.graphql_names.specs.Placed.{Place, Placed, Text, unplaced_text, unplaced_node}
use Rattle.read_operations.specs.in_values.Writable.{value_writable, default_writable, arguments_writable, directive_writable, directives_writable, selection_writable, variable_writable, variables_writable, input_value_writable, input_values_writable}
use Rattle.read_operations.specs.in_type_members.PartsWritable.{field_definition_writable, field_definitions_writable, enum_value_writable, enum_values_writable}
use Rattle.read_operations.specs.in_literals.ValueTree.{ValueTree, unplaced_value}
use Rattle.read_operations.specs.in_directives.DirectiveTree.{ArgumentTree, Arguments, DirectiveTree, Directives, InputValueTree, InputValues, unplaced_argument, unplaced_arguments, unplaced_directive, unplaced_directives, unplaced_input_value}
use Rattle.read_operations.specs.in_operations.SelectionTree.{SelectionTree, SelectionTrees, no_selections, selection_then, unplaced_selection}
use Rattle.read_operations.specs.in_operations.OperationTree.{VariableDefinitionTree, unplaced_variable_definition}
use Rattle.read_operations.specs.in_type_members.TypeSystemTree.{FieldDefinitionTree, EnumValueTree, RootOperationTree, unplaced_field_definition, unplaced_enum_value, unplaced_root}
use Rattle.read_operations.specs.in_definitions.DefinitionTree.{DefinitionTree, unplaced_definition}
use Rattle.read_operations.specs.in_definitions.DocumentLayout.{definition_text}
use Rattle.read_operations.specs.in_definitions.Writable.{definition_writable}
use Rattle.read_operations.specs.in_grammar.Kinds.{is_open_brace}
use Rattle.read_operations.specs.in_grammar.Rules.{Rule, optional, optional_unless}
use Rattle.read_operations.specs.in_grammar.Grammar.{DerivesAs, definition}
use Rattle.read_operations.specs.in_grammar.ValueGrammar.{Const, default_value, argument, arguments, directive, directives}
use Rattle.read_operations.specs.in_grammar.OperationGrammar.{variable_definition, variable_definitions}
use Rattle.read_operations.specs.in_grammar.TypeSystemGrammar.{root_operation_type_definition, input_value_definition, arguments_definition, field_definition, enum_value_definition, fields_definition, enum_values_definition, input_fields_definition, roots, implements_interfaces, union_member_types}
use Rattle.round_trip.specs.ReadsAlone.{TextTells, NodeTextTells}
use Rattle.round_trip.specs.Printed.{Follow, ends_word, ends_definition, Printed}
use Rattle.round_trip.specs.WellFormed.{bracketed, is_white_prefix, default_well_formed, names_well_formed, default_depth, argument_well_formed, arguments_well_formed, directive_well_formed, directives_well_formed, selection_well_formed, variable_well_formed, variables_well_formed, input_value_well_formed, input_values_well_formed, field_definition_well_formed, enum_value_well_formed, root_well_formed, argument_depth, arguments_depth, directive_depth, directives_depth, variable_depth, variables_depth, input_value_depth, input_values_depth, field_definition_depth, enum_value_depth}
use Rattle.round_trip.specs.Definitions.{definition_well_formed, definition_depth}
use Rattle.round_trip.proofs.Whole.{OneTree, reads_alone}
use Rattle.round_trip.proofs.Alone.{literals_read}
use Rattle.round_trip.proofs.Unplaced.{argument_same, arguments_same, directive_same, directives_same, directive_list_same, selection_same, variable_same, variables_same, input_value_same, argument_definitions_same, field_definition_same, enum_value_same, definition_same, on_lines_same, fields_set_same, values_set_same, roots_set_same, names_same, default_same}
use Rattle.round_trip.proofs.EqualTexts.{one_text, meaning, equal_selections}
use Rattle.round_trip.proofs.Sequences.{as_text}
use Rattle.round_trip.proofs.Lists.{separated_is}
use Rattle.round_trip.proofs.Nodes.{each_read, nodes, AreAny, none_there, some_there}
use Rattle.round_trip.proofs.Directives.{default_read, argument_read, arguments_read, directive_read, directives_read}
use Rattle.round_trip.proofs.Operations.{variable_read, variables_read}
use Rattle.round_trip.proofs.InputValues.{input_value_read, argument_definitions_read}
use Rattle.round_trip.proofs.TypeMembers.{field_definition_read, enum_value_read, root_read}
use Rattle.round_trip.proofs.Names.{implements_read, union_members_read}
use Rattle.round_trip.proofs.TypeDefinitions.{fields_part, enum_part, input_part}
use Rattle.round_trip.proofs.Schemas.{roots_part}
use Rattle.round_trip.proofs.Definitions.{definition_read}
use Rattle.round_trip.proofs.EndedParts.{one_argument, one_arguments, one_directive, one_directives, one_variable, one_variables, one_input_value, one_argument_definitions, one_field_definition, one_enum_value, one_root, one_definition, one_fields, one_enum_values, one_input_fields, one_roots, one_interfaces, one_members, one_default_value}

-- ---- the general law: trees whose texts a symbol reads, and of which no text knows places

module _ {A B C : Type 0} (symbol : ℕ → Rule A) {formed writable : B → Bool} {text : B → List ℕ} {unplaced : B → C} (read : A → C) (depth : B → ℕ) (f : Follow) (ends : f [] ≡ true) (one : OneTree (DerivesAs symbol)) where
  tells : (plain : C → List ℕ) → ((t : B) → text t ≡ plain (unplaced t))
      → ((t : B) (n : ℕ) → formed t ≡ true → writable t ≡ true → depth t ≤ n → Printed (symbol n) (λ x. read x ≡ unplaced t) f (text t)) → TextTells B formed writable text unplaced
  tells plain same reads a b h k v w =
      let p = reads_alone symbol read (text a) (unplaced a) (depth a) f ends one (reads a (depth a) h v (le_refl (depth a))) in
      let q = reads_alone symbol read (text b) (unplaced b) (depth b) f ends one (reads b (depth b) k w (le_refl (depth b))) in
      (λ e. one_text (DerivesAs symbol) read (text a) (text b) (unplaced a) (unplaced b) p q e, λ e. same a ∙ ap plain e ∙ sym (same b))

-- what an optional list of nodes is read as, apart from places
abbrev nodes_of : {P X Z : Type 0} → (X → Z) → Option (List (Placed P X)) → List (Placed (Unit {0}) Z)
nodes_of u o = map (unplaced_node u) (unwrap_or o [])

-- ---- arguments and directives

pub equal_argument : (const : Const) → NodeTextTells (ArgumentTree Place) argument_well_formed (λ a. value_writable const a.value.it) argument_text unplaced_argument
equal_argument const =
    tells (argument meaning const) unplaced_argument argument_depth ends_word refl (one_argument meaning const)
    argument_text (λ a. argument_same a.it) (λ a n h w le. argument_read meaning literals_read const n a h w le)

pub equal_arguments : (const : Const) → TextTells (Arguments Place) arguments_well_formed (arguments_writable const) arguments_text unplaced_arguments
equal_arguments const =
    tells (λ n. optional (arguments meaning const n)) (nodes_of unplaced_argument) arguments_depth ends_word refl (one_arguments meaning const)
    arguments_text arguments_same (λ as' n h w le. arguments_read meaning literals_read const as' n h w le)

pub equal_directive : (const : Const) → NodeTextTells (DirectiveTree Place) directive_well_formed (directive_writable const) directive_text unplaced_directive
equal_directive const =
    tells (directive meaning const) unplaced_directive directive_depth ends_word refl (one_directive meaning const)
    directive_text (λ d. directive_same d.it) (λ d n h w le. directive_read meaning literals_read const n d h w le)

pub equal_directives : (const : Const) → TextTells (Directives Place) directives_well_formed (directives_writable const) directives_text unplaced_directives
equal_directives const =
    tells (λ n. optional (directives meaning const n)) (nodes_of unplaced_directive) directives_depth ends_word refl (one_directives meaning const)
    directives_text directives_same (λ ds n h w le. directives_read meaning literals_read const ds n h w le)

-- directives alone, with spaces between them
directive_list_read : (const : Const) (ds : Directives Place) (n : ℕ) → directives_well_formed ds ≡ true → directives_writable const ds ≡ true → directives_depth ds ≤ n
    → Printed (optional (directives meaning const n)) (AreAny unplaced_directive (unplaced_directives ds)) ends_word (directive_list_text ds)
unfolding joined directives
directive_list_read const [] n h w le = none_there unplaced_directive (directives meaning const n)
directive_list_read const (d ∷ ds) n h w le =
    some_there unplaced_directive (unplaced_directives (d ∷ ds))
    (as_text _ (separated_is (32 ∷ []) (directive_text d.it) (texts_of directive_text ds))
    (nodes meaning (directive meaning const n) unplaced_directive unplaced_directive directive_text 32 [] refl refl d ds
    (each_read meaning (directive meaning const n) unplaced_directive unplaced_directive directive_text directive_well_formed (λ d. directive_writable const d.it) directive_depth n (directive_read meaning literals_read const n) (d ∷ ds) h w le)))

pub equal_directive_list : (const : Const) → TextTells (Directives Place) directives_well_formed (directives_writable const) directive_list_text unplaced_directives
equal_directive_list const =
    tells (λ n. optional (directives meaning const n)) (nodes_of unplaced_directive) directives_depth ends_word refl (one_directives meaning const)
    directive_list_text directive_list_same (λ ds n h w le. directive_list_read const ds n h w le)

-- ---- variables

pub equal_variable : NodeTextTells (VariableDefinitionTree Place) variable_well_formed variable_writable variable_text unplaced_variable_definition
equal_variable =
    tells (variable_definition meaning) unplaced_variable_definition variable_depth ends_word refl (one_variable meaning)
    variable_text (λ v. variable_same v.it) (λ v n h w le. variable_read meaning literals_read n v h w le)

pub equal_variables : TextTells (List (Placed Place (VariableDefinitionTree Place))) variables_well_formed variables_writable variables_text (map (unplaced_node unplaced_variable_definition))
equal_variables =
    tells (λ n. optional (variable_definitions meaning n)) (nodes_of unplaced_variable_definition) variables_depth ends_word refl (one_variables meaning)
    variables_text variables_same (λ vs n h w le. variables_read meaning literals_read vs n h w le)

-- ---- texts under a layout

-- of one selection alone
abbrev first_of : SelectionTrees (Unit {0}) → SelectionTree (Unit {0}) → SelectionTree (Unit {0})
first_of no_selections other = other
first_of (selection_then t ts) other = t

also_none : (b : Bool) → b ≡ true → (b && true) ≡ true
also_none b h = rw h refl

module _ (prefix : Prefix) (level : ℕ) (white : is_white_prefix prefix ≡ true) where
  pub equal_selection : TextTells (SelectionTree Place) selection_well_formed selection_writable (λ t. selection_text prefix t level) unplaced_selection
  equal_selection a b h k v w =
      let one = equal_selections prefix level (selection_then a no_selections) (selection_then b no_selections) white refl refl (also_none _ h) (also_none _ k) (also_none _ v) (also_none _ w) in
      let same : (t : SelectionTree Place) → selection_text prefix t level ≡ selection_text prefix (unplaced_selection t) level = λ t. ap (λ f. f level) (selection_same prefix t) in (
        λ e. ap (λ ts. first_of ts (unplaced_selection a)) (one.0 (ap (λ text. joined (start_text prefix level ∷ text ∷ joined [] ∷ [])) e)),
        λ e. same a ∙ ap (λ t. selection_text prefix t level) e ∙ sym (same b),
      )

  pub equal_input_value : NodeTextTells (InputValueTree Place) input_value_well_formed input_value_writable (λ v. input_value_text prefix v level) unplaced_input_value
  equal_input_value =
      tells (input_value_definition meaning) unplaced_input_value input_value_depth ends_word refl (one_input_value meaning)
      (λ v. input_value_text prefix v level) (λ v. input_value_same prefix v.it level) (λ v n h w le. input_value_read meaning literals_read prefix white n level v h w le)

  pub equal_argument_definitions : TextTells (InputValues Place) input_values_well_formed input_values_writable (λ vs. argument_definitions_text prefix vs level) (map (unplaced_node unplaced_input_value))
  equal_argument_definitions =
      tells (λ n. optional (arguments_definition meaning n)) (nodes_of unplaced_input_value) input_values_depth ends_word refl (one_argument_definitions meaning)
      (λ vs. argument_definitions_text prefix vs level) (λ vs. argument_definitions_same prefix vs level) (λ vs n h w le. argument_definitions_read meaning literals_read prefix white vs n level h w le)

  pub equal_field_definition : NodeTextTells (FieldDefinitionTree Place) field_definition_well_formed field_definition_writable (λ f. field_definition_text prefix f level) unplaced_field_definition
  equal_field_definition =
      tells (field_definition meaning) unplaced_field_definition field_definition_depth ends_word refl (one_field_definition meaning)
      (λ f. field_definition_text prefix f level) (λ f. field_definition_same prefix f.it level) (λ f n h w le. field_definition_read meaning literals_read prefix white n level f h w le)

  pub equal_enum_value : NodeTextTells (EnumValueTree Place) enum_value_well_formed enum_value_writable (λ v. enum_value_text prefix v level) unplaced_enum_value
  equal_enum_value =
      tells (enum_value_definition meaning) unplaced_enum_value enum_value_depth ends_word refl (one_enum_value meaning)
      (λ v. enum_value_text prefix v level) (λ v. enum_value_same prefix v.it level) (λ v n h w le. enum_value_read meaning literals_read prefix white n level v h w le)

  pub equal_definition : (at_start : Bool) → TextTells (DefinitionTree Place) definition_well_formed definition_writable (λ d. definition_text at_start prefix d level) unplaced_definition
  equal_definition at_start =
      tells (definition meaning) unplaced_definition definition_depth ends_definition refl (one_definition meaning)
      (λ d. definition_text at_start prefix d level) (λ d. definition_same at_start prefix d level) (λ d n h w le. definition_read meaning literals_read prefix white at_start d n level h w le)

pub equal_root : (level : ℕ) → NodeTextTells (RootOperationTree Place) root_well_formed (λ r. true) (λ r. root_text r level) unplaced_root
equal_root level =
    tells (λ n. root_operation_type_definition meaning) unplaced_root (λ r. 0) ends_word refl (one_root meaning)
    (λ r. root_text r level) (λ r. refl) (λ r n h w le. root_read meaning level r h)

-- ---- what braces hold

module _ (prefix : Prefix) (level : ℕ) (white : is_white_prefix prefix ≡ true) where
  pub equal_fields : TextTells (List (Placed Place (FieldDefinitionTree Place))) (list_all field_definition_well_formed) field_definitions_writable (λ fs. set_text prefix level (texts_of (field_definition_text prefix) fs)) (map (unplaced_node unplaced_field_definition))
  equal_fields =
      tells (λ n. optional_unless is_open_brace (fields_definition meaning n)) (nodes_of unplaced_field_definition) (bracketed field_definition_depth) ends_definition refl (one_fields meaning)
      (λ fs. set_text prefix level (texts_of (field_definition_text prefix) fs)) (λ fs. ap (set_text prefix level) (fields_set_same prefix fs)) (λ fs n h w le. fields_part meaning literals_read prefix white fs n level h w le)

  pub equal_enum_values : TextTells (List (Placed Place (EnumValueTree Place))) (list_all enum_value_well_formed) enum_values_writable (λ vs. set_text prefix level (texts_of (enum_value_text prefix) vs)) (map (unplaced_node unplaced_enum_value))
  equal_enum_values =
      tells (λ n. optional_unless is_open_brace (enum_values_definition meaning n)) (nodes_of unplaced_enum_value) (bracketed enum_value_depth) ends_definition refl (one_enum_values meaning)
      (λ vs. set_text prefix level (texts_of (enum_value_text prefix) vs)) (λ vs. ap (set_text prefix level) (values_set_same prefix vs)) (λ vs n h w le. enum_part meaning literals_read prefix white vs n level h w le)

  pub equal_input_fields : TextTells (InputValues Place) input_values_well_formed input_values_writable (λ vs. set_text prefix level (texts_of (input_value_text prefix) vs)) (map (unplaced_node unplaced_input_value))
  equal_input_fields =
      tells (λ n. optional_unless is_open_brace (input_fields_definition meaning n)) (nodes_of unplaced_input_value) input_values_depth ends_definition refl (one_input_fields meaning)
      (λ vs. set_text prefix level (texts_of (input_value_text prefix) vs)) (λ vs. ap (set_text prefix level) (on_lines_same prefix vs)) (λ vs n h w le. input_part meaning literals_read prefix white vs n level h w le)

  -- one bracket is enough
  some_roots_read : (rs : List (Placed Place (RootOperationTree Place))) (n : ℕ) → list_all root_well_formed rs ≡ true → 1 ≤ n
      → Printed (optional_unless is_open_brace (roots meaning n)) (AreAny unplaced_root (map (unplaced_node unplaced_root) rs)) ends_definition (set_text prefix level (texts_of root_text rs))
  some_roots_read rs zero h le = absurd (omega arith)
  some_roots_read rs (suc n) h le = roots_part meaning prefix white rs n level h

  pub equal_roots : TextTells (List (Placed Place (RootOperationTree Place))) (list_all root_well_formed) (λ rs. true) (λ rs. set_text prefix level (texts_of root_text rs)) (map (unplaced_node unplaced_root))
  equal_roots =
      tells (λ n. optional_unless is_open_brace (roots meaning n)) (nodes_of unplaced_root) (λ rs. 1) ends_definition refl (one_roots meaning)
      (λ rs. set_text prefix level (texts_of root_text rs)) (λ rs. ap (set_text prefix level) (roots_set_same rs)) (λ rs n h w le. some_roots_read rs n h le)

-- ---- default values, and names after a word or a sign

pub equal_default_value : TextTells (Option (Placed Place (ValueTree Place))) default_well_formed default_writable default_text (option_map (unplaced_node unplaced_value))
equal_default_value =
    tells (λ n. optional (default_value meaning n)) (λ o. option_map (unplaced_node unplaced_value) o) default_depth ends_word refl (one_default_value meaning)
    default_text default_same (λ v n h w le. default_read meaning literals_read v n h w le)

-- what optional names are read as, apart from places
abbrev names_of : Option (List (Text Place)) → List (Text (Unit {0}))
names_of o = map unplaced_text (unwrap_or o [])

pub equal_interfaces : TextTells (List (Text Place)) names_well_formed (λ ns. true) (names_text (codes " implements ") (codes " & ")) (map unplaced_text)
equal_interfaces =
    tells (λ n. optional (implements_interfaces meaning)) names_of (λ ns. 0) ends_word refl (one_interfaces meaning)
    (names_text (codes " implements ") (codes " & ")) (names_same (codes " implements ") (codes " & ")) (λ ns n h w le. implements_read meaning ns h)

pub equal_members : TextTells (List (Text Place)) names_well_formed (λ ns. true) (names_text (codes " = ") (codes " | ")) (map unplaced_text)
equal_members =
    tells (λ n. optional (union_member_types meaning)) names_of (λ ns. 0) ends_word refl (one_members meaning)
    (names_text (codes " = ") (codes " | ")) (names_same (codes " = ") (codes " | ")) (λ ns n h w le. union_members_read meaning ns h)

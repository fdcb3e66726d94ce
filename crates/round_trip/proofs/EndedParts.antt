-- Parts of definitions and of operations as whole texts: the end may follow each, and its tokens have one tree.
use Rattle.std.specs.Prelude.{ℕ, ◌≤◌}
use Rattle.std.proofs.Common.{true, refl}
use Rattle.read_operations.specs.in_grammar.Meaning.{Meaning}
use Rattle.read_operations.specs.in_grammar.Kinds.{next_is, is_string, is_colon, is_at, is_equals, is_dollar, is_implements, is_open_paren, is_open_brace}
use Rattle.read_operations.specs.in_grammar.Begins.{begins_described_name}
use Rattle.read_operations.specs.in_grammar.Rules.{optional, optional_unless}
use Rattle.read_operations.specs.in_grammar.Grammar.{DerivesAs, definition}
use Rattle.read_operations.specs.in_grammar.ValueGrammar.{Const, default_value, argument, arguments, directive, directives}
use Rattle.read_operations.specs.in_grammar.OperationGrammar.{variable_definition_of, variable_definition, variable_definitions}
use Rattle.read_operations.specs.in_grammar.TypeSystemGrammar.{input_value_of, field_definition_of, enum_value_definition_of, root_operation_type_definition, input_value_definition, arguments_definition, field_definition, enum_value_definition, fields_definition, enum_values_definition, input_fields_definition, roots, implements_interfaces, union_member_types}
use Rattle.read_operations.specs.in_grammar.Reading.{try}
use Rattle.read_operations.specs.in_grammar.ValueReading as v
use Rattle.read_operations.specs.in_grammar.OperationReading as o
use Rattle.read_operations.specs.in_grammar.TypeSystemReading as y
use Rattle.read_operations.specs.in_grammar.DocumentReading as d
use Rattle.read_operations.proofs.in_grammar.Tests.{at_end}
use Rattle.read_operations.proofs.in_grammar.Parses.{Parses, any_count, mapped, mark, weaker, seq, opt, maybe, maybe_unless, located}
use Rattle.read_operations.proofs.in_grammar.Values.{name_parses, variable_parses, enum_value_parses, type_parses, default_value_parses, argument_parses, arguments_parses, directive_parses, directives_parses}
use Rattle.read_operations.proofs.in_grammar.Operations.{variable_definitions_parses}
use Rattle.read_operations.proofs.in_grammar.TypeSystem.{description_parses, root_parses, roots_parses, arguments_definition_parses, fields_definition_parses, enum_values_definition_parses, input_fields_definition_parses, implements_interfaces_parses, union_member_types_parses}
use Rattle.read_operations.proofs.in_grammar.Documents.{definition_parses}
use Rattle.read_operations.proofs.in_grammar.Theorems.{one_tree}
use Rattle.round_trip.proofs.Whole.{OneTree}

module _ {P : Type 0} (m : Meaning P) where
  -- ---- what the grammar has only within parentheses or braces

  variable_ended : (n h : ℕ) → n ≤ h → Parses 1 n (variable_definition m n) (o.variable_definition m n) (o.variable_definition m h) (next_is is_dollar) at_end
  unfolding variable_definition o.variable_definition
  variable_ended n h le =
      mapped variable_definition_of
      (seq refl (variable_parses m)
      (seq refl (mark is_colon refl)
      (seq refl (located m (type_parses m n h le))
      (opt is_equals refl refl refl (default_value_parses m n h le) (maybe is_at at_end refl refl refl (directives_parses m true n h le))))))

  input_value_ended : (n h : ℕ) → n ≤ h → Parses 1 n (input_value_definition m n) (y.input_value_definition m n) (y.input_value_definition m h) (next_is begins_described_name) at_end
  unfolding input_value_definition y.input_value_definition
  input_value_ended n h le =
      weaker (next_is begins_described_name) at_end refl refl
      (mapped input_value_of
      (opt is_string refl refl refl (description_parses m)
      (seq refl (name_parses m)
      (seq refl (mark is_colon refl)
      (seq refl (located m (type_parses m n h le))
      (opt is_equals refl refl refl (default_value_parses m n h le) (maybe is_at at_end refl refl refl (directives_parses m true n h le))))))))

  field_definition_ended : (n h : ℕ) → n ≤ h → Parses 1 n (field_definition m n) (y.field_definition m n) (y.field_definition m h) (next_is begins_described_name) at_end
  unfolding field_definition y.field_definition
  field_definition_ended n h le =
      weaker (next_is begins_described_name) at_end refl refl
      (mapped field_definition_of
      (opt is_string refl refl refl (description_parses m)
      (seq refl (name_parses m)
      (opt is_open_paren refl refl refl (arguments_definition_parses m n h le)
      (seq refl (mark is_colon refl)
      (seq refl (type_parses m n h le) (maybe is_at at_end refl refl refl (directives_parses m true n h le))))))))

  enum_value_ended : (n h : ℕ) → n ≤ h → Parses 1 n (enum_value_definition m n) (y.enum_value_definition m n) (y.enum_value_definition m h) (next_is begins_described_name) at_end
  unfolding enum_value_definition y.enum_value_definition
  enum_value_ended n h le =
      weaker (next_is begins_described_name) at_end refl refl
      (mapped enum_value_definition_of
      (opt is_string refl refl refl (description_parses m) (seq refl (enum_value_parses m) (maybe is_at at_end refl refl refl (directives_parses m true n h le)))))

  -- ---- one tree

  pub one_argument : (const : Const) → OneTree (DerivesAs (argument m const))
  one_argument const = one_tree {p = v.argument m const} (λ n h le. any_count (argument_parses m const n h le)) refl

  -- arguments, or none
  pub one_arguments : (const : Const) → OneTree (DerivesAs (λ n. optional (arguments m const n)))
  one_arguments const = one_tree {p = λ n. try is_open_paren (v.arguments m const n)} (λ n h le. maybe is_open_paren at_end refl refl refl (arguments_parses m const n h le)) refl

  pub one_directive : (const : Const) → OneTree (DerivesAs (directive m const))
  one_directive const = one_tree {p = v.directive m const} (λ n h le. any_count (directive_parses m const n h le)) refl

  -- directives, or none
  pub one_directives : (const : Const) → OneTree (DerivesAs (λ n. optional (directives m const n)))
  one_directives const = one_tree {p = λ n. try is_at (v.directives m const n)} (λ n h le. maybe is_at at_end refl refl refl (directives_parses m const n h le)) refl

  pub one_variable : OneTree (DerivesAs (variable_definition m))
  one_variable = one_tree {p = o.variable_definition m} (λ n h le. any_count (variable_ended n h le)) refl

  -- variables, or none
  pub one_variables : OneTree (DerivesAs (λ n. optional (variable_definitions m n)))
  one_variables = one_tree {p = λ n. try is_open_paren (o.variable_definitions m n)} (λ n h le. maybe is_open_paren at_end refl refl refl (variable_definitions_parses m n h le)) refl

  pub one_input_value : OneTree (DerivesAs (input_value_definition m))
  one_input_value = one_tree {p = y.input_value_definition m} (λ n h le. any_count (input_value_ended n h le)) refl

  -- definitions of arguments, or none
  pub one_argument_definitions : OneTree (DerivesAs (λ n. optional (arguments_definition m n)))
  one_argument_definitions = one_tree {p = λ n. try is_open_paren (y.arguments_definition m n)} (λ n h le. maybe is_open_paren at_end refl refl refl (arguments_definition_parses m n h le)) refl

  pub one_field_definition : OneTree (DerivesAs (field_definition m))
  one_field_definition = one_tree {p = y.field_definition m} (λ n h le. any_count (field_definition_ended n h le)) refl

  pub one_enum_value : OneTree (DerivesAs (enum_value_definition m))
  one_enum_value = one_tree {p = y.enum_value_definition m} (λ n h le. any_count (enum_value_ended n h le)) refl

  pub one_root : OneTree (DerivesAs (λ n. root_operation_type_definition m))
  one_root = one_tree {p = λ n. y.root_operation_type_definition m} (λ n h le. any_count (root_parses m)) refl

  pub one_definition : OneTree (DerivesAs (definition m))
  one_definition = one_tree {p = d.definition m} (λ n h le. any_count (definition_parses m n h le)) refl

  -- what braces hold, or nothing, and no brace then
  pub one_fields : OneTree (DerivesAs (λ n. optional_unless is_open_brace (fields_definition m n)))
  one_fields = one_tree {p = λ n. try is_open_brace (y.fields_definition m n)} (λ n h le. maybe_unless is_open_brace at_end refl refl (fields_definition_parses m n h le)) refl

  pub one_enum_values : OneTree (DerivesAs (λ n. optional_unless is_open_brace (enum_values_definition m n)))
  one_enum_values = one_tree {p = λ n. try is_open_brace (y.enum_values_definition m n)} (λ n h le. maybe_unless is_open_brace at_end refl refl (enum_values_definition_parses m n h le)) refl

  pub one_input_fields : OneTree (DerivesAs (λ n. optional_unless is_open_brace (input_fields_definition m n)))
  one_input_fields = one_tree {p = λ n. try is_open_brace (y.input_fields_definition m n)} (λ n h le. maybe_unless is_open_brace at_end refl refl (input_fields_definition_parses m n h le)) refl

  pub one_roots : OneTree (DerivesAs (λ n. optional_unless is_open_brace (roots m n)))
  one_roots = one_tree {p = λ n. try is_open_brace (y.roots m n)} (λ n h le. maybe_unless is_open_brace at_end refl refl (roots_parses m n h le)) refl

  -- names after a word or a sign, or none
  pub one_interfaces : OneTree (DerivesAs (λ n. optional (implements_interfaces m)))
  one_interfaces = one_tree {p = λ n. try is_implements (y.implements_interfaces m)} (λ n h le. maybe is_implements at_end refl refl refl (implements_interfaces_parses m)) refl

  pub one_members : OneTree (DerivesAs (λ n. optional (union_member_types m)))
  one_members = one_tree {p = λ n. try is_equals (y.union_member_types m)} (λ n h le. maybe is_equals at_end refl refl refl (union_member_types_parses m)) refl

  -- a default value, or none
  pub one_default_value : OneTree (DerivesAs (λ n. optional (default_value m n)))
  one_default_value = one_tree {p = λ n. try is_equals (v.default_value m n)} (λ n h le. maybe is_equals at_end refl refl refl (default_value_parses m n h le)) refl

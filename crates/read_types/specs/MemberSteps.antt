-- Private: leads to `Derives` and `Says`. How parts of type system definitions are read.
use Rattle.std.specs.Prelude.{ℕ, Bool, List, ◌++◌, Option}
use Rattle.graphql_names.specs.Placed.{Placed, Text}
use Rattle.tree_literals.specs.ValueTree.{ValueTree}
use Rattle.tree_literals.specs.TypeTree.{TypeTree}
use Rattle.tree_directives.specs.DirectiveTree.{Directives, InputValues}
use Rattle.tree_directives.specs.declared.directive_location.DirectiveLocation.{DirectiveLocation}
use Rattle.tree_type_members.specs.TypeSystemTree.{FieldDefinitionTree, EnumValueTree, RootOperationTree}
use Rattle.read_tokens.specs.declared.terminal.Terminal.{Terminal}
use Rattle.read_grammar.specs.Meaning.{Meaning}
use Rattle.read_grammar.specs.Begins.{begins_described_name}
use Rattle.read_grammar.specs.Kinds.{is_at, is_colon, is_directive, is_equals, is_on, is_open_paren, is_operation_type, is_repeatable, is_string}
use Rattle.read_grammar.specs.Reading.{Parser, mark, when, try, many, some, following, placed, ◌⊙◌, ◌<&>◌}
use Rattle.read_grammar.specs.TypeSystemReading.{description, arguments_definition, directive_locations, input_value_definition, field_definition, enum_value_definition, root_operation_type_definition}
use Rattle.read_grammar.specs.ValueGrammar.{constant}
use Rattle.read_grammar.specs.ValueReading.{name, default_value, directives, type}

-- the first of several with marks between them; a mark may also precede it
abbrev pub first : {A : Type 0} → (Terminal → Bool) → Parser A → Parser A
first is p = when is (following is p) p

-- those already found, and the others after them, each after a mark
abbrev pub others : {A : Type 0} → (Terminal → Bool) → Parser A → List A → Parser (List A)
others is p found = (λ xs. found ++ xs) <&> many is (following is p)

-- the beginning of a directive's definition: `directive` and `@`
abbrev pub directive_marks : Parser (Unit {0} × Unit {0})
directive_marks = mark is_directive ⊙ mark is_at

-- what follows the arguments and the directives of a directive's definition
abbrev pub directive_end : Parser (Option (Unit {0}) × (Unit {0} × List DirectiveLocation))
directive_end = try is_repeatable (mark is_repeatable) ⊙ mark is_on ⊙ directive_locations

module _ {P : Type 0} (m : Meaning P) where
  -- a name, and the description before it
  abbrev pub described_name : Parser (Option (Text P) × Text P)
  described_name = try is_string (description m) ⊙ name m

  -- what follows the name of an input value
  abbrev pub input_value_rest : ℕ → Parser (Unit {0} × (Placed P (TypeTree P) × (Option (Placed P (ValueTree P)) × Option (Directives P))))
  input_value_rest n = mark is_colon ⊙ placed m (type m n) ⊙ try is_equals (default_value m n) ⊙ try is_at (directives m constant n)

  -- what follows the arguments of a field
  abbrev pub field_end : ℕ → Parser (Unit {0} × (TypeTree P × Option (Directives P)))
  field_end n = mark is_colon ⊙ type m n ⊙ try is_at (directives m constant n)

  -- what follows the name of a field
  abbrev pub field_rest : ℕ → Parser (Option (InputValues P) × (Unit {0} × (TypeTree P × Option (Directives P))))
  field_rest n = try is_open_paren (arguments_definition m n) ⊙ field_end n

  -- what follows the arguments of a directive's definition
  abbrev pub directive_tail : ℕ → Parser (Option (Directives P) × (Option (Unit {0}) × (Unit {0} × List DirectiveLocation)))
  directive_tail n = try is_at (directives m constant n) ⊙ directive_end

  -- what follows the name of a directive
  abbrev pub directive_rest : ℕ → Parser (Option (InputValues P) × (Option (Directives P) × (Option (Unit {0}) × (Unit {0} × List DirectiveLocation))))
  directive_rest n = try is_open_paren (arguments_definition m n) ⊙ directive_tail n

  -- ---- lists without what is around them

  abbrev pub some_input_values : ℕ → Parser (InputValues P)
  some_input_values n = some begins_described_name (placed m (input_value_definition m n))

  abbrev pub some_fields : ℕ → Parser (List (Placed P (FieldDefinitionTree P)))
  some_fields n = some begins_described_name (placed m (field_definition m n))

  abbrev pub some_enum_values : ℕ → Parser (List (Placed P (EnumValueTree P)))
  some_enum_values n = some begins_described_name (placed m (enum_value_definition m n))

  abbrev pub some_roots : Parser (List (Placed P (RootOperationTree P)))
  some_roots = some is_operation_type (placed m (root_operation_type_definition m))

  -- names already found, and the others after them, each after a mark
  abbrev pub other_names : (Terminal → Bool) → List (Text P) → Parser (List (Text P))
  other_names is found = others is (name m) found

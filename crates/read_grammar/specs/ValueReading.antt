-- Private: leads to `Derives` and `Says`. How values, arguments, directives and types are read.
use Rattle.std.specs.Prelude.{ℕ, zero, suc, true, false}
use Rattle.graphql_names.specs.Placed.{Placed, Text}
use Rattle.graphql_ast.specs.in_literals.ValueTree.{ValueTree, NullTree, EnumTree, VariableTree, StringTree, FloatTree, IntTree, BooleanTree, ListTree, ObjectTree}
use Rattle.graphql_ast.specs.in_directives.DirectiveTree.{ArgumentTree, Arguments, DirectiveTree, Directives}
use Rattle.graphql_ast.specs.in_literals.TypeTree.{TypeTree, NamedTree}
use Rattle.graphql_ast.specs.in_literals.TypeTree as types
use Rattle.read_grammar.specs.Meaning.{Meaning, name_of}
use Rattle.read_grammar.specs.Kinds.{is_name, is_enum_value, is_string, is_int, is_float, is_true, is_false, is_boolean, is_null, is_dollar, is_colon, is_at, is_equals, is_bang, is_open_bracket, is_close_bracket, is_open_brace, is_close_brace, is_open_paren, is_close_paren}
use Rattle.read_grammar.specs.Begins.{begins_value}
use Rattle.read_grammar.specs.ValueGrammar.{Const, constant, items_of, entries_of, argument_of, directive_of, type_of}
use Rattle.read_grammar.specs.Reading.{Parser, take, mark, when, try, unless, refuse, too_deep, many, some, placed, between, ◌⊙◌, ◌<&>◌}

module _ {P : Type 0} (m : Meaning P) where
  unfoldable pub name : Parser (Text P)
  name = name_of m <&> take is_name

  unfoldable pub variable : Parser (Text P)
  variable = (λ x. x.1) <&> mark is_dollar ⊙ name

  unfoldable pub int_value : Parser (ValueTree P)
  int_value = (λ t. IntTree t.text) <&> take is_int

  unfoldable pub float_value : Parser (ValueTree P)
  float_value = (λ t. FloatTree t.text) <&> take is_float

  unfoldable pub string_value : Parser (ValueTree P)
  string_value = (λ t. StringTree (m.string t)) <&> take is_string

  unfoldable pub boolean_value : Parser (ValueTree P)
  boolean_value = when is_true ((λ _. BooleanTree true) <&> mark is_true) (when is_false ((λ _. BooleanTree false) <&> mark is_false) refuse)

  unfoldable pub null_value : Parser (ValueTree P)
  null_value = (λ _. NullTree) <&> mark is_null

  unfoldable pub enum_value : Parser (Text P)
  enum_value = name_of m <&> take is_enum_value

  unfoldable pub list_value : Parser (ValueTree P) → Parser (ValueTree P)
  list_value value = (λ xs. ListTree (items_of xs)) <&> between is_open_bracket (many begins_value (placed m value)) is_close_bracket

  unfoldable pub object_field : Parser (ValueTree P) → Parser (Text P × (Unit {0} × Placed P (ValueTree P)))
  object_field value = name ⊙ mark is_colon ⊙ placed m value

  unfoldable pub object_value : Parser (ValueTree P) → Parser (ValueTree P)
  object_value value = (λ xs. ObjectTree (entries_of xs)) <&> between is_open_brace (many is_name (object_field value)) is_close_brace

  unfoldable pub any_value : Const → Parser (ValueTree P) → Parser (ValueTree P) → Parser (ValueTree P)
  any_value const list object =
      when is_dollar (unless const (VariableTree <&> variable))
      (when is_int int_value
      (when is_float float_value
      (when is_string string_value
      (when is_boolean boolean_value
      (when is_null null_value
      (when is_enum_value (EnumTree <&> enum_value)
      (when is_open_bracket list (when is_open_brace object refuse))))))))

  unfoldable pub value : Const → ℕ → Parser (ValueTree P)
  value const zero = any_value const too_deep too_deep
  value const (suc n) = any_value const (list_value (value const n)) (object_value (value const n))

  unfoldable pub default_value : ℕ → Parser (Placed P (ValueTree P))
  default_value n = (λ x. x.1) <&> mark is_equals ⊙ placed m (value constant n)

  unfoldable pub argument : Const → ℕ → Parser (ArgumentTree P)
  argument const n = argument_of <&> name ⊙ mark is_colon ⊙ placed m (value const n)

  unfoldable pub arguments : Const → ℕ → Parser (Arguments P)
  arguments const zero = when is_open_paren too_deep refuse
  arguments const (suc n) = between is_open_paren (some is_name (placed m (argument const n))) is_close_paren

  unfoldable pub directive : Const → ℕ → Parser (DirectiveTree P)
  directive const n = directive_of <&> mark is_at ⊙ name ⊙ try is_open_paren (arguments const n)

  unfoldable pub directives : Const → ℕ → Parser (Directives P)
  directives const n = some is_at (placed m (directive const n))

  unfoldable pub any_type : Parser (TypeTree P) → Parser (TypeTree P)
  any_type inner = type_of <&> when is_name (NamedTree <&> name) (when is_open_bracket (types.ListTree <&> inner) refuse) ⊙ try is_bang (mark is_bang)

  unfoldable pub type : ℕ → Parser (TypeTree P)
  type zero = any_type too_deep
  type (suc n) = any_type (between is_open_bracket (type n) is_close_bracket)

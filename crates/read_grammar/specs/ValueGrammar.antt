-- The grammar of values, arguments, directives and types (GraphQL, October 2021, appendix B): a rule for each symbol. The number of a
-- rule says how deep its brackets may nest.
use Rattle.std.specs.Prelude.{ℕ, zero, suc, Bool, true, false, List, [], ◌∷◌, Option, Some, None, unwrap_or}
use Rattle.graphql_names.specs.Placed.{Placed, Text}
use Rattle.graphql_ast.specs.in_literals.ValueTree.{ValueTree, NullTree, EnumTree, VariableTree, StringTree, FloatTree, IntTree, BooleanTree, ListTree, ObjectTree, ItemTrees, no_items, item_then, EntryTrees, no_entries, entry_then}
use Rattle.graphql_ast.specs.in_directives.DirectiveTree.{ArgumentTree, Arguments, DirectiveTree, Directives}
use Rattle.graphql_ast.specs.in_literals.TypeTree.{TypeTree, NamedTree, NonNullNamedTree, NonNullListTree}
use Rattle.graphql_ast.specs.in_literals.TypeTree as types
use Rattle.read_grammar.specs.Meaning.{Meaning, name_of}
use Rattle.read_grammar.specs.Kinds.{is_name, is_enum_value, is_string, is_int, is_float, is_true, is_false, is_null, is_dollar, is_colon, is_at, is_equals, is_bang, is_open_bracket, is_close_bracket, is_open_brace, is_close_brace, is_open_paren, is_close_paren}
use Rattle.read_grammar.specs.Rules.{Rule, one, mark, ◌·◌, ◌<$>◌, ◌∣◌, nothing, unless, optional, many, some, between, placed}

-- [Const] of appendix B: whether variables are forbidden in values
abbrev pub Const : Type 0
Const = Bool

abbrev pub constant : Const
constant = true

abbrev pub with_variables : Const
with_variables = false

-- ---- the trees that the rules build

module _ {P : Type 0} where
  abbrev pub items_of : List (Placed P (ValueTree P)) → ItemTrees P
  items_of [] = no_items
  items_of (x ∷ xs) = item_then x.place x.it (items_of xs)

  abbrev pub entries_of : List (Text P × (Unit {0} × Placed P (ValueTree P))) → EntryTrees P
  entries_of [] = no_entries
  entries_of (x ∷ xs) = entry_then x.0 x.1.1.place x.1.1.it (entries_of xs)

  abbrev pub argument_of : Text P × (Unit {0} × Placed P (ValueTree P)) → ArgumentTree P
  argument_of x = record { name = x.0; value = x.1.1 }

  abbrev pub directive_of : Unit {0} × (Text P × Option (Arguments P)) → DirectiveTree P
  directive_of x = record { name = x.1.0; arguments = unwrap_or x.1.1 [] }

  -- a type with "!" after it
  abbrev pub non_null : TypeTree P → TypeTree P
  non_null (NamedTree n) = NonNullNamedTree n
  non_null (types.ListTree t) = NonNullListTree t
  non_null (NonNullNamedTree n) = NonNullNamedTree n
  non_null (NonNullListTree t) = NonNullListTree t

  abbrev pub type_of : TypeTree P × Option (Unit {0}) → TypeTree P
  type_of (t, None) = t
  type_of (t, Some _) = non_null t

-- ---- the rules

module _ {P : Type 0} (m : Meaning P) where
  -- Name
  abbrev pub name : Rule (Text P)
  name = name_of m <$> one is_name

  -- Variable: "$" Name
  abbrev pub variable : Rule (Text P)
  variable = (λ x. x.1) <$> mark is_dollar · name

  -- IntValue, FloatValue
  abbrev pub int_value : Rule (ValueTree P)
  int_value = (λ t. IntTree t.text) <$> one is_int

  abbrev pub float_value : Rule (ValueTree P)
  float_value = (λ t. FloatTree t.text) <$> one is_float

  -- StringValue
  abbrev pub string_value : Rule (ValueTree P)
  string_value = (λ t. StringTree (m.string t)) <$> one is_string

  -- BooleanValue: "true" / "false"
  abbrev pub boolean_value : Rule (ValueTree P)
  boolean_value = (λ _. BooleanTree true) <$> mark is_true ∣ (λ _. BooleanTree false) <$> mark is_false

  -- NullValue: "null"
  abbrev pub null_value : Rule (ValueTree P)
  null_value = (λ _. NullTree) <$> mark is_null

  -- EnumValue: Name but not "true", "false", "null"
  abbrev pub enum_value : Rule (Text P)
  enum_value = name_of m <$> one is_enum_value

  -- ListValue: "[" Value* "]"
  abbrev pub list_value : Rule (ValueTree P) → Rule (ValueTree P)
  list_value value = (λ xs. ListTree (items_of xs)) <$> between is_open_bracket (many (placed m value)) is_close_bracket

  -- ObjectField: Name ":" Value
  abbrev pub object_field : Rule (ValueTree P) → Rule (Text P × (Unit {0} × Placed P (ValueTree P)))
  object_field value = name · mark is_colon · placed m value

  -- ObjectValue: "{" ObjectField* "}"
  abbrev pub object_value : Rule (ValueTree P) → Rule (ValueTree P)
  object_value value = (λ xs. ObjectTree (entries_of xs)) <$> between is_open_brace (many (object_field value)) is_close_brace

  -- Value[Const]: Variable (unless Const) / IntValue / FloatValue / StringValue / BooleanValue / NullValue / EnumValue
  --             / ListValue / ObjectValue
  abbrev pub any_value : Const → Rule (ValueTree P) → Rule (ValueTree P) → Rule (ValueTree P)
  any_value const list object =
      unless const (VariableTree <$> variable)
      ∣ int_value
      ∣ float_value
      ∣ string_value
      ∣ boolean_value
      ∣ null_value
      ∣ EnumTree <$> enum_value
      ∣ list
      ∣ object

  unfoldable pub value : Const → ℕ → Rule (ValueTree P)
  value const zero = any_value const nothing nothing
  value const (suc n) = any_value const (list_value (value const n)) (object_value (value const n))

  -- DefaultValue: "=" Value[Const]
  unfoldable pub default_value : ℕ → Rule (Placed P (ValueTree P))
  default_value n = (λ x. x.1) <$> mark is_equals · placed m (value constant n)

  -- Argument: Name ":" Value
  unfoldable pub argument : Const → ℕ → Rule (ArgumentTree P)
  argument const n = argument_of <$> name · mark is_colon · placed m (value const n)

  -- Arguments: "(" Argument+ ")"
  unfoldable pub arguments : Const → ℕ → Rule (Arguments P)
  arguments const zero = nothing
  arguments const (suc n) = between is_open_paren (some (placed m (argument const n))) is_close_paren

  -- Directive: "@" Name Arguments?
  unfoldable pub directive : Const → ℕ → Rule (DirectiveTree P)
  directive const n = directive_of <$> mark is_at · name · optional (arguments const n)

  -- Directives: Directive+
  unfoldable pub directives : Const → ℕ → Rule (Directives P)
  directives const n = some (placed m (directive const n))

  -- Type: (Name / "[" Type "]") "!"?
  abbrev pub any_type : Rule (TypeTree P) → Rule (TypeTree P)
  any_type inner = type_of <$> (NamedTree <$> name ∣ types.ListTree <$> inner) · optional (mark is_bang)

  unfoldable pub type : ℕ → Rule (TypeTree P)
  type zero = any_type nothing
  type (suc n) = any_type (between is_open_bracket (type n) is_close_bracket)

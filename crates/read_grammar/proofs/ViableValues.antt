-- Where a parser of values, arguments, directives or types stops, the tokens before begin some text of its rule.
use Rattle.std.proofs.Common.{ℕ, zero, suc, true, false, refl, inl, inr}
use Rattle.graphql_ast.specs.in_literals.ValueTree.{ValueTree, NullTree, EnumTree, VariableTree, StringTree, FloatTree, IntTree, BooleanTree, ListTree, ObjectTree}
use Rattle.graphql_ast.specs.in_literals.TypeTree.{TypeTree, NamedTree}
use Rattle.graphql_ast.specs.in_literals.TypeTree as types
use Rattle.read_tokens.specs.declared.terminal.Terminal.TheVariants as k
use Rattle.read_grammar.specs.Meaning.{Meaning, name_of}
use Rattle.read_grammar.specs.Kinds.{is_name, is_enum_value, is_string, is_int, is_float, is_true, is_false, is_boolean, is_null, is_dollar, is_colon, is_at, is_equals, is_bang, is_open_bracket, is_close_bracket, is_open_brace, is_close_brace, is_open_paren, is_close_paren}
use Rattle.read_grammar.specs.Begins.{begins_value}
use Rattle.read_grammar.specs.Rules.{Rule, ◌<$>◌, ◌∣◌, placed}
use Rattle.read_grammar.specs.ValueGrammar as g
use Rattle.read_grammar.specs.ValueGrammar.{Const, items_of, entries_of, argument_of, directive_of, type_of}
use Rattle.read_grammar.specs.Reading.{Parser, ◌<&>◌, refuse, too_deep, when}
use Rattle.read_grammar.specs.ValueReading as v
use Rattle.read_grammar.proofs.Tests.{any}
use Rattle.read_grammar.proofs.Viable.{Viable, Fills, FillsFrom, token, mapped, mark, seq, alternative, alternative_unless, only, maybe, located, deep_or, from_into, from_fills, refused, fills_into, mapped_fills, mark_fills, seq_fills, left_fills, located_fills}
use Rattle.read_grammar.proofs.ViableLists.{several, one_or_more, enclosed, none_deep, mapped_from, many_fills, some_fills, enclosed_from}

module _ {P : Type 0} (m : Meaning P) where
  pub name_viable : Viable true (g.name m) (v.name m) any
  unfolding v.name
  name_viable = mapped (name_of m) (token is_name k.Name refl)

  pub variable_viable : Viable true (g.variable m) (v.variable m) any
  unfolding v.variable
  variable_viable = mapped (λ x. x.1) (seq (mark is_dollar k.Dollar refl) name_viable)

  int_viable : Viable true (g.int_value m) (v.int_value m) any
  unfolding v.int_value
  int_viable = mapped (λ t. IntTree t.text) (token is_int k.Int refl)

  float_viable : Viable true (g.float_value m) (v.float_value m) any
  unfolding v.float_value
  float_viable = mapped (λ t. FloatTree t.text) (token is_float k.Float refl)

  string_viable : Viable true (g.string_value m) (v.string_value m) any
  unfolding v.string_value
  string_viable = mapped (λ t. StringTree (m.string t)) (token is_string k.String refl)

  boolean_viable : Viable true (g.boolean_value m) (v.boolean_value m) any
  unfolding v.boolean_value
  boolean_viable = alternative is_true (mapped (λ _. BooleanTree true) (mark is_true k.True refl)) (only is_false (mapped (λ _. BooleanTree false) (mark is_false k.False refl)))

  null_viable : Viable true (g.null_value m) (v.null_value m) any
  unfolding v.null_value
  null_viable = mapped (λ _. NullTree) (mark is_null k.Null refl)

  pub enum_value_viable : Viable true (g.enum_value m) (v.enum_value m) any
  unfolding v.enum_value
  enum_value_viable = mapped (name_of m) (token is_enum_value k.Name refl)

  list_viable : {r : Rule _} {q : Parser _} → Viable true r q any → Viable true (g.list_value m r) (v.list_value m q) any
  unfolding v.list_value
  list_viable h = mapped (λ xs. ListTree (items_of xs)) (enclosed is_open_bracket is_close_bracket k.OpenBracket k.CloseBracket refl refl (several begins_value (located m h)))

  object_field_viable : {r : Rule _} {q : Parser _} → Viable true r q any → Viable true (g.object_field m r) (v.object_field m q) any
  unfolding v.object_field
  object_field_viable h = seq name_viable (seq (mark is_colon k.Colon refl) (located m h))

  object_viable : {r : Rule _} {q : Parser _} → Viable true r q any → Viable true (g.object_value m r) (v.object_value m q) any
  unfolding v.object_value
  object_viable h = mapped (λ xs. ObjectTree (entries_of xs)) (enclosed is_open_brace is_close_brace k.OpenBrace k.CloseBrace refl refl (several is_name (object_field_viable h)))

  abbrev nested_parser : Parser (ValueTree P) → Parser (ValueTree P) → Parser (ValueTree P)
  nested_parser list object = when is_open_bracket list (when is_open_brace object refuse)

  any_value_viable : (c : Const) {r s : Rule _} {a b : Parser _} → Viable true (r ∣ s) (nested_parser a b) any → Viable true (g.any_value m c r s) (v.any_value m c a b) any
  unfolding v.any_value
  any_value_viable c h =
      alternative_unless c is_dollar (mapped VariableTree variable_viable)
      (alternative is_int int_viable
      (alternative is_float float_viable
      (alternative is_string string_viable (alternative is_boolean boolean_viable (alternative is_null null_viable (alternative is_enum_value (mapped EnumTree enum_value_viable) h))))))

  -- where no bracket may open
  no_nested : (r s : Rule (ValueTree P)) → Viable true (g.list_value m r ∣ g.object_value m s) (nested_parser too_deep too_deep) any
  no_nested r s =
      let list = mapped_from is_open_bracket (λ xs. ListTree (items_of xs)) (enclosed_from is_open_bracket is_close_bracket k.CloseBracket refl (many_fills (placed m r))) in
      let object = mapped_from is_open_brace (λ xs. ObjectTree (entries_of xs)) (enclosed_from is_open_brace is_close_brace k.CloseBrace refl (many_fills (g.object_field m s))) in
      deep_or is_open_bracket (λ i. refl) (from_into is_open_bracket (λ i x o h. inl h) list)
      (deep_or is_open_brace (λ i. refl) (from_into is_open_brace (λ i x o h. inr h) object) (refused (from_fills k.OpenBrace refl (from_into is_open_brace (λ i x o h. inr h) object))))

  pub value_viable : (c : Const) (n : ℕ) → Viable true (g.value m c (suc n)) (v.value m c n) any
  unfolding g.value v.value
  value_viable c zero = any_value_viable c (no_nested _ _)
  value_viable c (suc n) = let inner = value_viable c n in any_value_viable c (alternative is_open_bracket (list_viable inner) (only is_open_brace (object_viable inner)))

  pub value_fills : (c : Const) (n : ℕ) → Fills (g.value m c n) any
  unfolding g.value
  value_fills c zero = fills_into (λ i x o h. inr (inl h)) int_viable.fills
  value_fills c (suc n) = fills_into (λ i x o h. inr (inl h)) int_viable.fills

  pub default_value_viable : (n : ℕ) → Viable true (g.default_value m (suc n)) (v.default_value m n) any
  unfolding g.default_value v.default_value
  default_value_viable n = mapped (λ x. x.1) (seq (mark is_equals k.Equals refl) (located m (value_viable true n)))

  pub argument_viable : (c : Const) (n : ℕ) → Viable true (g.argument m c (suc n)) (v.argument m c n) any
  unfolding g.argument v.argument
  argument_viable c n = mapped argument_of (seq name_viable (seq (mark is_colon k.Colon refl) (located m (value_viable c n))))

  arguments_from : (c : Const) (n : ℕ) → FillsFrom is_open_paren (g.arguments m c (suc n)) any
  unfolding g.arguments g.argument
  arguments_from c n =
      enclosed_from is_open_paren is_close_paren k.CloseParen refl
      (some_fills (located_fills m (mapped_fills argument_of (seq_fills name_viable.fills (seq_fills (mark_fills is_colon k.Colon refl) (located_fills m (value_fills c n)))))))

  pub arguments_viable : (c : Const) (n : ℕ) → Viable true (g.arguments m c (suc n)) (v.arguments m c n) any
  unfolding g.arguments v.arguments
  arguments_viable c zero = none_deep is_open_paren k.OpenParen refl (arguments_from c zero)
  arguments_viable c (suc n) = enclosed is_open_paren is_close_paren k.OpenParen k.CloseParen refl refl (one_or_more is_name (located m (argument_viable c n)))

  pub directive_viable : (c : Const) (n : ℕ) → Viable true (g.directive m c (suc n)) (v.directive m c n) any
  unfolding g.directive v.directive
  directive_viable c n = mapped directive_of (seq (mark is_at k.At refl) (seq name_viable (maybe is_open_paren (arguments_viable c n))))

  pub directives_viable : (c : Const) (n : ℕ) → Viable false (g.directives m c (suc n)) (v.directives m c n) any
  unfolding g.directives v.directives
  directives_viable c n = one_or_more is_at (located m (directive_viable c n))

  -- ---- types

  abbrev listed : Parser (TypeTree P) → Parser (TypeTree P)
  listed inner = when is_open_bracket (types.ListTree <&> inner) refuse

  any_type_viable : {r : Rule (TypeTree P)} (q : Parser (TypeTree P)) → Viable true (types.ListTree <$> r) (listed q) any → Viable true (g.any_type m r) (v.any_type m q) any
  unfolding v.any_type
  any_type_viable q h = mapped type_of (seq (alternative is_name (mapped NamedTree name_viable) h) (maybe is_bang (mark is_bang k.Bang refl)))

  pub type_fills : (n : ℕ) → Fills (g.type m n) any
  unfolding g.type
  type_fills zero = mapped_fills type_of (seq_fills (left_fills _ (mapped_fills NamedTree name_viable.fills)) (maybe is_bang (mark is_bang k.Bang refl)).fills)
  type_fills (suc n) = mapped_fills type_of (seq_fills (left_fills _ (mapped_fills NamedTree name_viable.fills)) (maybe is_bang (mark is_bang k.Bang refl)).fills)

  pub type_viable : (n : ℕ) → Viable true (g.type m (suc n)) (v.type m n) any
  unfolding g.type v.type
  type_viable zero =
      let list = mapped_from is_open_bracket types.ListTree (enclosed_from is_open_bracket is_close_bracket k.CloseBracket refl (type_fills zero)) in
      any_type_viable too_deep (deep_or is_open_bracket (λ i. refl) list (refused (from_fills k.OpenBracket refl list)))
  type_viable (suc n) = any_type_viable _ (only is_open_bracket (mapped types.ListTree (enclosed is_open_bracket is_close_bracket k.OpenBracket k.CloseBracket refl refl (type_viable n))))

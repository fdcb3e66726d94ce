-- Values, arguments, directives and types are read exactly, steadily, and within the limit.
use Rattle.std.proofs.Common.{ℕ, zero, suc, ◌≤◌, Bool, true, false, cond, refl, arith}
use Rattle.graphql_ast.specs.in_literals.ValueTree.{ValueTree, NullTree, EnumTree, VariableTree, StringTree, FloatTree, IntTree, BooleanTree, ListTree, ObjectTree}
use Rattle.graphql_ast.specs.in_literals.TypeTree.{TypeTree, NamedTree}
use Rattle.graphql_ast.specs.in_literals.TypeTree as types
use Rattle.read_tokens.specs.declared.terminal.Terminal.{Terminal}
use Rattle.read_grammar.specs.Meaning.{Meaning, name_of}
use Rattle.read_grammar.specs.Kinds.{next_is, is_name, is_enum_value, is_string, is_int, is_float, is_true, is_false, is_boolean, is_null, is_dollar, is_colon, is_at, is_equals, is_bang, is_open_bracket, is_close_bracket, is_open_brace, is_close_brace, is_open_paren, is_close_paren}
use Rattle.read_grammar.specs.Begins.{begins_value, begins_type}
use Rattle.read_grammar.specs.Rules.{Rule, ◌<$>◌, ◌∣◌, nothing}
use Rattle.read_grammar.specs.ValueGrammar as g
use Rattle.read_grammar.specs.ValueGrammar.{Const, items_of, entries_of, argument_of, directive_of, type_of}
use Rattle.read_grammar.specs.Reading as read
use Rattle.read_grammar.specs.Reading.{Parser, ◌<&>◌, refuse, too_deep, when}
use Rattle.read_grammar.specs.ValueReading as v
use Rattle.read_grammar.proofs.Tests.{Test, any, either, neither}
use Rattle.read_grammar.proofs.Exact as e
use Rattle.read_grammar.proofs.Steady as t
use Rattle.read_grammar.proofs.Nests as l
use Rattle.read_grammar.proofs.Keeps as kept
use Rattle.read_grammar.proofs.Parses.{Parses, token, mapped, mark, weaker, seq, alternative, only, maybe, unless, located, several, one_or_more, enclosed, none_deep, one_deep}

-- what is next is of another class
abbrev pub lacking : (Terminal → Bool) → Test
lacking is next = cond (next_is is next) false true

-- what may follow directives
abbrev pub after_directives : Test
after_directives = neither (next_is is_open_paren) (next_is is_at)

module _ {P : Type 0} (m : Meaning P) where
  pub name_parses : {n : ℕ} → Parses 1 n (g.name m) (v.name m) (v.name m) (next_is is_name) any
  unfolding v.name
  name_parses = mapped (name_of m) (token is_name refl)

  pub variable_parses : {n : ℕ} → Parses 1 n (g.variable m) (v.variable m) (v.variable m) (next_is is_dollar) any
  unfolding v.variable
  variable_parses = mapped (λ x. x.1) (seq refl (mark is_dollar refl) name_parses)

  int_parses : {n : ℕ} → Parses 1 n (g.int_value m) (v.int_value m) (v.int_value m) (next_is is_int) any
  unfolding v.int_value
  int_parses = mapped (λ t. IntTree t.text) (token is_int refl)

  float_parses : {n : ℕ} → Parses 1 n (g.float_value m) (v.float_value m) (v.float_value m) (next_is is_float) any
  unfolding v.float_value
  float_parses = mapped (λ t. FloatTree t.text) (token is_float refl)

  string_parses : {n : ℕ} → Parses 1 n (g.string_value m) (v.string_value m) (v.string_value m) (next_is is_string) any
  unfolding v.string_value
  string_parses = mapped (λ t. StringTree (m.string t)) (token is_string refl)

  boolean_parses : {n : ℕ} → Parses 1 n (g.boolean_value m) (v.boolean_value m) (v.boolean_value m) (next_is is_boolean) any
  unfolding v.boolean_value
  boolean_parses =
      weaker (next_is is_boolean) any refl refl
      (alternative is_true refl refl (mapped (λ _. BooleanTree true) (mark is_true refl)) (only is_false refl (mapped (λ _. BooleanTree false) (mark is_false refl))))

  null_parses : {n : ℕ} → Parses 1 n (g.null_value m) (v.null_value m) (v.null_value m) (next_is is_null) any
  unfolding v.null_value
  null_parses = mapped (λ _. NullTree) (mark is_null refl)

  pub enum_value_parses : {n : ℕ} → Parses 1 n (g.enum_value m) (v.enum_value m) (v.enum_value m) (next_is is_enum_value) any
  unfolding v.enum_value
  enum_value_parses = mapped (name_of m) (token is_enum_value refl)

  pub list_parses : {n : ℕ} {r : Rule _} {q q' : Parser _} → Parses 1 n r q q' (next_is begins_value) any → Parses 1 (suc n) (g.list_value m r) (v.list_value m q) (v.list_value m q') (next_is is_open_bracket) any
  unfolding v.list_value
  list_parses h = mapped (λ xs. ListTree (items_of xs)) (enclosed is_open_bracket is_close_bracket refl refl refl (several begins_value (next_is is_close_bracket) refl refl refl refl (located m h)))

  pub object_field_parses : {n : ℕ} {r : Rule _} {q q' : Parser _} → Parses 1 n r q q' (next_is begins_value) any → Parses 1 n (g.object_field m r) (v.object_field m q) (v.object_field m q') (next_is is_name) any
  unfolding v.object_field
  object_field_parses h = seq refl name_parses (seq refl (mark is_colon refl) (located m h))

  pub object_parses : {n : ℕ} {r : Rule _} {q q' : Parser _} → Parses 1 n r q q' (next_is begins_value) any → Parses 1 (suc n) (g.object_value m r) (v.object_value m q) (v.object_value m q') (next_is is_open_brace) any
  unfolding v.object_value
  object_parses h = mapped (λ xs. ObjectTree (entries_of xs)) (enclosed is_open_brace is_close_brace refl refl refl (several is_name (next_is is_close_brace) refl refl refl refl (object_field_parses h)))

  -- what begins a list or an object
  abbrev begins_nested : Test
  begins_nested = either (next_is is_open_bracket) (next_is is_open_brace)

  abbrev nested_parser : Parser (ValueTree P) → Parser (ValueTree P) → Parser (ValueTree P)
  nested_parser list object = when is_open_bracket list (when is_open_brace object refuse)

  any_value_parses : {n : ℕ} (c : Const) {r s : Rule _} {a a' b b' : Parser _} → Parses 1 n (r ∣ s) (nested_parser a b) (nested_parser a' b') begins_nested any → Parses 1 n (g.any_value m c r s) (v.any_value m c a b) (v.any_value m c a' b') (next_is begins_value) any
  unfolding v.any_value
  any_value_parses c h =
      weaker (next_is begins_value) any refl refl
      (alternative is_dollar refl refl (unless c (mapped VariableTree variable_parses))
      (alternative is_int refl refl int_parses
      (alternative is_float refl refl float_parses
      (alternative is_string refl refl string_parses
      (alternative is_boolean refl refl boolean_parses
      (alternative is_null refl refl null_parses
      (alternative is_enum_value refl refl (mapped EnumTree enum_value_parses) h)))))))

  none_nested : (q q' : Parser (ValueTree P)) → Parses 1 0 (nothing ∣ nothing) (nested_parser too_deep too_deep) (nested_parser q q') begins_nested any
  none_nested q q' = record {
    exact = e.choice is_open_bracket refl refl (e.never (next_is is_open_bracket) any) (e.only is_open_brace refl (e.never (next_is is_open_brace) any));
    steady = t.choice is_open_bracket (t.deeper 1 q) (t.choice is_open_brace (t.deeper 1 q') (t.refused 1));
    nested = l.deep_or is_open_bracket refl (l.never_deep is_open_brace refl);
    keeps = kept.choice is_open_bracket kept.deep (kept.choice is_open_brace kept.deep kept.refused);
  }

  pub value_parses : (c : Const) (n h : ℕ) → n ≤ h → Parses 1 n (g.value m c n) (v.value m c n) (v.value m c h) (next_is begins_value) any
  unfolding g.value v.value
  value_parses c zero zero le = any_value_parses c (none_nested _ _)
  value_parses c zero (suc h) le = any_value_parses c (none_nested _ _)
  value_parses c (suc n) zero le = absurd (omega arith)
  value_parses c (suc n) (suc h) le =
      let inner = value_parses c n h (omega arith) in
      any_value_parses c (alternative is_open_bracket refl refl (list_parses inner) (only is_open_brace refl (object_parses inner)))

  pub default_value_parses : (n h : ℕ) → n ≤ h → Parses 1 n (g.default_value m n) (v.default_value m n) (v.default_value m h) (next_is is_equals) any
  unfolding g.default_value v.default_value
  default_value_parses n h le = mapped (λ x. x.1) (seq refl (mark is_equals refl) (located m (value_parses true n h le)))

  pub argument_parses : (c : Const) (n h : ℕ) → n ≤ h → Parses 1 n (g.argument m c n) (v.argument m c n) (v.argument m c h) (next_is is_name) any
  unfolding g.argument v.argument
  argument_parses c n h le = mapped argument_of (seq refl name_parses (seq refl (mark is_colon refl) (located m (value_parses c n h le))))

  pub arguments_parses : (c : Const) (n h : ℕ) → n ≤ h → Parses 1 n (g.arguments m c n) (v.arguments m c n) (v.arguments m c h) (next_is is_open_paren) any
  unfolding g.arguments v.arguments
  arguments_parses c zero zero le = none_deep is_open_paren refl
  arguments_parses c zero (suc h) le = one_deep is_open_paren is_close_paren _ refl
  arguments_parses c (suc n) zero le = absurd (omega arith)
  arguments_parses c (suc n) (suc h) le =
      enclosed is_open_paren is_close_paren refl refl refl (one_or_more is_name (next_is is_close_paren) refl refl refl refl (located m (argument_parses c n h (omega arith))))

  pub directive_parses : (c : Const) (n h : ℕ) → n ≤ h → Parses 1 n (g.directive m c n) (v.directive m c n) (v.directive m c h) (next_is is_at) (lacking is_open_paren)
  unfolding g.directive v.directive
  directive_parses c n h le =
      mapped directive_of (seq refl (mark is_at refl) (seq refl name_parses (maybe is_open_paren (lacking is_open_paren) refl refl refl (arguments_parses c n h le))))

  pub directives_parses : (c : Const) (n h : ℕ) → n ≤ h → Parses 0 n (g.directives m c n) (v.directives m c n) (v.directives m c h) (next_is is_at) after_directives
  unfolding g.directives v.directives
  directives_parses c n h le = one_or_more is_at after_directives refl refl refl refl (located m (directive_parses c n h le))

  -- ---- types

  abbrev listed : Parser (TypeTree P) → Parser (TypeTree P)
  listed inner = when is_open_bracket (types.ListTree <&> inner) refuse

  any_type_parses : {n : ℕ} {r : Rule (TypeTree P)} (q q' : Parser (TypeTree P)) → Parses 1 n (types.ListTree <$> r) (listed q) (listed q') (next_is is_open_bracket) any → Parses 1 n (g.any_type m r) (v.any_type m q) (v.any_type m q') (next_is begins_type) (lacking is_bang)
  unfolding v.any_type
  any_type_parses q q' h =
      weaker (next_is begins_type) (lacking is_bang) refl refl
      (mapped type_of (seq refl (alternative is_name refl refl (mapped NamedTree name_parses) h) (maybe is_bang (lacking is_bang) refl refl refl (mark is_bang refl))))

  none_listed : (q : Parser (TypeTree P)) → Parses 1 0 (types.ListTree <$> nothing) (listed too_deep) (listed q) (next_is is_open_bracket) any
  none_listed q = record {
    exact = e.only is_open_bracket refl (e.mapped types.ListTree (e.never (next_is is_open_bracket) any));
    steady = t.choice is_open_bracket (t.deeper 1 (types.ListTree <&> q)) (t.refused 1);
    nested = l.never_deep is_open_bracket refl;
    keeps = kept.choice is_open_bracket kept.deep kept.refused;
  }

  -- the type in a list
  abbrev inner_type : ℕ → Parser (TypeTree P)
  inner_type n = read.between is_open_bracket (v.type m n) is_close_bracket

  pub type_parses : (n h : ℕ) → n ≤ h → Parses 1 n (g.type m n) (v.type m n) (v.type m h) (next_is begins_type) (lacking is_bang)
  unfolding g.type v.type
  type_parses zero zero le = any_type_parses too_deep too_deep (none_listed too_deep)
  type_parses zero (suc h) le = any_type_parses too_deep (inner_type h) (none_listed (inner_type h))
  type_parses (suc n) zero le = absurd (omega arith)
  type_parses (suc n) (suc h) le =
      any_type_parses (inner_type n) (inner_type h)
      (only is_open_bracket refl (mapped types.ListTree (enclosed is_open_bracket is_close_bracket refl refl refl (type_parses n h (omega arith)))))

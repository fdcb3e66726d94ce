-- How deep values, arguments, directives and types nest, by the grammar.
use Rattle.std.proofs.Common.{◌≡◌, ℕ, zero, suc, max, true, false, List, [], ◌∷◌, Option, Some, None, refl, ap}
use Rattle.graphql_names.specs.Placed.{Placed, Text}
use Rattle.read_operations.specs.in_literals.ValueTree.{ValueTree, NullTree, EnumTree, VariableTree, StringTree, FloatTree, IntTree, BooleanTree, ListTree, ObjectTree}
use Rattle.read_operations.specs.in_literals.TypeTree.{TypeTree, NamedTree, NonNullNamedTree, NonNullListTree}
use Rattle.read_operations.specs.in_literals.TypeTree as types
use Rattle.read_operations.specs.in_grammar.Meaning.{Meaning, name_of}
use Rattle.read_operations.specs.in_grammar.Kinds.{is_name, is_enum_value, is_string, is_int, is_float, is_true, is_false, is_null, is_dollar, is_colon, is_at, is_equals, is_bang, is_open_bracket, is_close_bracket, is_open_brace, is_close_brace, is_open_paren, is_close_paren}
use Rattle.read_operations.specs.in_grammar.Rules.{Rule}
use Rattle.read_operations.specs.in_grammar.ValueGrammar as g
use Rattle.read_operations.specs.in_grammar.ValueGrammar.{Const, items_of, entries_of, argument_of, directive_of, type_of, constant}
use Rattle.round_trip.specs.TreeDepth.{deepest, type_depth, value_depth, items_depth, entries_depth, argument_depth, arguments_depth, directive_depth, directives_depth}
use Rattle.round_trip.proofs.Nests.{Nests, Flat, token, flat, mapped, skip, ending, choice, never, unless, maybe_or, maybe_flat, located, several, one_or_more, enclosed, enclosed_some}

module _ {P : Type 0} (m : Meaning P) where
  pub name_flat : Flat (g.name m)
  name_flat = mapped (name_of m) (token is_name refl) (λ x. refl)

  pub variable_flat : Flat (g.variable m)
  variable_flat = mapped (λ x. x.1) (skip (flat is_dollar refl) name_flat) (λ x. refl)

  pub enum_value_flat : Flat (g.enum_value m)
  enum_value_flat = mapped (name_of m) (token is_enum_value refl) (λ x. refl)

  items_same : (xs : List (Placed P (ValueTree P))) → deepest (λ x. value_depth x.it) xs ≡ items_depth (items_of xs)
  items_same [] = refl
  items_same (x ∷ xs) = ap (max (value_depth x.it)) (items_same xs)

  entries_same : (xs : List (Text P × (Unit {0} × Placed P (ValueTree P)))) → deepest (λ x. value_depth x.1.1.it) xs ≡ entries_depth (entries_of xs)
  entries_same [] = refl
  entries_same (x ∷ xs) = ap (max (value_depth x.1.1.it)) (entries_same xs)

  list_nests : {r : Rule (ValueTree P)} → Nests r value_depth → Nests (g.list_value m r) value_depth
  list_nests n = mapped (λ xs. ListTree (items_of xs)) (enclosed is_open_bracket is_close_bracket refl refl (several (located m n))) (λ xs. ap suc (items_same xs))

  object_nests : {r : Rule (ValueTree P)} → Nests r value_depth → Nests (g.object_value m r) value_depth
  object_nests n = mapped (λ xs. ObjectTree (entries_of xs)) (enclosed is_open_brace is_close_brace refl refl (several (skip name_flat (skip (flat is_colon refl) (located m n))))) (λ xs. ap suc (entries_same xs))

  any_value_nests : (const : Const) {list object : Rule (ValueTree P)} → Nests list value_depth → Nests object value_depth → Nests (g.any_value m const list object) value_depth
  any_value_nests const list object =
      choice (unless const (mapped VariableTree variable_flat (λ x. refl)))
      (choice (mapped (λ t. IntTree t.text) (token is_int refl) (λ x. refl))
      (choice (mapped (λ t. FloatTree t.text) (token is_float refl) (λ x. refl))
      (choice (mapped (λ t. StringTree (m.string t)) (token is_string refl) (λ x. refl))
      (choice (choice (mapped (λ _. BooleanTree true) (flat is_true refl) (λ x. refl)) (mapped (λ _. BooleanTree false) (flat is_false refl) (λ x. refl)))
      (choice (mapped (λ _. NullTree) (flat is_null refl) (λ x. refl))
      (choice (mapped EnumTree enum_value_flat (λ x. refl))
      (choice list object)))))))

  pub value_nests : (const : Const) (n : ℕ) → Nests (g.value m const n) value_depth
  unfolding g.value
  value_nests const zero = any_value_nests const never never
  value_nests const (suc n) = any_value_nests const (list_nests (value_nests const n)) (object_nests (value_nests const n))

  pub default_nests : (n : ℕ) → Nests (g.default_value m n) (λ x. value_depth x.it)
  unfolding g.default_value
  default_nests n = mapped (λ x. x.1) (skip (flat is_equals refl) (located m (value_nests constant n))) (λ x. refl)

  argument_nests : (const : Const) (n : ℕ) → Nests (g.argument m const n) argument_depth
  unfolding g.argument
  argument_nests const n = mapped argument_of (skip name_flat (skip (flat is_colon refl) (located m (value_nests const n)))) (λ x. refl)

  pub arguments_nests : (const : Const) (n : ℕ) → Nests (g.arguments m const n) arguments_depth
  unfolding g.arguments
  arguments_nests const zero = never
  arguments_nests const (suc n) = enclosed_some is_open_paren is_close_paren refl refl (located m (argument_nests const n))

  pub directive_nests : (const : Const) (n : ℕ) → Nests (g.directive m const n) directive_depth
  unfolding g.directive
  directive_nests const n = mapped directive_of (skip (flat is_at refl) (skip name_flat (maybe_or [] refl (arguments_nests const n)))) (λ x. refl)

  pub directives_nests : (const : Const) (n : ℕ) → Nests (g.directives m const n) directives_depth
  unfolding g.directives
  directives_nests const n = one_or_more (located m (directive_nests const n))

  non_null_same : (t : TypeTree P) → type_depth t ≡ type_depth (g.non_null t)
  non_null_same (NamedTree n) = refl
  non_null_same (NonNullNamedTree n) = refl
  non_null_same (types.ListTree t) = refl
  non_null_same (NonNullListTree t) = refl

  type_same : (x : TypeTree P × Option (Unit {0})) → type_depth x.0 ≡ type_depth (type_of x)
  type_same (t, None) = refl
  type_same (t, Some u) = non_null_same t

  any_type_nests : {r : Rule (TypeTree P)} → Nests r (λ t. suc (type_depth t)) → Nests (g.any_type m r) type_depth
  any_type_nests n = mapped type_of (ending (choice (mapped NamedTree name_flat (λ x. refl)) (mapped types.ListTree n (λ x. refl))) (maybe_flat (flat is_bang refl))) type_same

  pub type_nests : (n : ℕ) → Nests (g.type m n) type_depth
  unfolding g.type
  type_nests zero = any_type_nests never
  type_nests (suc n) = any_type_nests (enclosed is_open_bracket is_close_bracket refl refl (type_nests n))

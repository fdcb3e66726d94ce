-- Values, arguments, directives and types are read alike.
use Rattle.std.proofs.Common.{◌≡◌, ℕ, zero, suc, Bool, List, [], ◌∷◌, map, Option, Some, None, refl, ap}
use Rattle.graphql_names.specs.Placed.{Placed, Text, unplaced_text, unplaced_node}
use Rattle.tree_literals.specs.ValueTree.{ValueTree, EnumTree, VariableTree, ListTree, ObjectTree, item_then, entry_then, unplaced_value, unplaced_items, unplaced_entries}
use Rattle.tree_literals.specs.TypeTree.{TypeTree, NamedTree, NonNullNamedTree, NonNullListTree, unplaced_type}
use Rattle.tree_literals.specs.TypeTree as types
use Rattle.tree_directives.specs.DirectiveTree.{unplaced_argument, unplaced_arguments, unplaced_directive, unplaced_directives}
use Rattle.read_tokens.specs.declared.terminal.Terminal.{Terminal}
use Rattle.read_tokens.specs.Input.{Token}
use Rattle.read_grammar.specs.Meaning.{Meaning, name_of}
use Rattle.read_grammar.specs.Kinds.{is_name, is_enum_value, is_dollar, is_colon, is_at, is_equals, is_open_bracket, is_close_bracket, is_open_brace, is_close_brace, is_open_paren, is_close_paren}
use Rattle.read_grammar.specs.Rules.{Rule, one, ◌<$>◌}
use Rattle.read_grammar.specs.ValueGrammar as v
use Rattle.read_grammar.specs.ValueGrammar.{Const, constant, items_of, entries_of, argument_of, directive_of, type_of}
use Rattle.verdict_laws.proofs.Alike.{Alike, fixed, skipped, mapped, made, seq, choice, never, unless, maybe_or, several, one_or_more, enclosed, following, located}

abbrev Entry : Type 0 → Type 0
Entry P = Text P × (Unit {0} × Placed P (ValueTree P))

module _ {P : Type 0} where
  abbrev unplaced_entry : Entry P → Entry (Unit {0})
  unplaced_entry x = (unplaced_text x.0, (x.1.0, unplaced_node unplaced_value x.1.1))

  items_same : (xs : List (Placed P (ValueTree P))) → unplaced_items (items_of xs) ≡ items_of (map (unplaced_node unplaced_value) xs)
  items_same [] = refl
  items_same (x ∷ xs) = ap (item_then tt (unplaced_value x.it)) (items_same xs)

  entries_same : (xs : List (Entry P)) → unplaced_entries (entries_of xs) ≡ entries_of (map unplaced_entry xs)
  entries_same [] = refl
  entries_same (x ∷ xs) = ap (entry_then (unplaced_text x.0) tt (unplaced_value x.1.1.it)) (entries_same xs)

  type_same : (x : TypeTree P × Option (Unit {0})) → unplaced_type (type_of x) ≡ type_of (unplaced_type x.0, x.1)
  type_same (t, None) = refl
  type_same (NamedTree n, Some u) = refl
  type_same (NonNullNamedTree n, Some u) = refl
  type_same (types.ListTree t, Some u) = refl
  type_same (NonNullListTree t, Some u) = refl

  -- the two ways to give places, and for which text a string stands
  module _ (string : Token → List ℕ) (at other : ℕ → ℕ → P) where
    abbrev m : Meaning P
    m = record { place = at; string = string }

    abbrev k : Meaning P
    k = record { place = other; string = string }

    pub named : (is : Terminal → Bool) → Alike (name_of m <$> one is) (name_of k <$> one is) unplaced_text
    named is = mapped (name_of m) (name_of k) (fixed (one is) (λ t. t)) (λ t. record { it = t.text; place = tt }) (λ t. refl) (λ t. refl)

    pub name_alike : Alike (v.name m) (v.name k) unplaced_text
    name_alike = named is_name

    pub variable_alike : Alike (v.variable m) (v.variable k) unplaced_text
    variable_alike = following name_alike is_dollar

    pub enum_value_alike : Alike (v.enum_value m) (v.enum_value k) unplaced_text
    enum_value_alike = named is_enum_value

    list_alike : {r s : Rule (ValueTree P)} → Alike r s unplaced_value → Alike (v.list_value m r) (v.list_value k s) unplaced_value
    list_alike rr = made (λ xs. ListTree (items_of xs)) (enclosed (several (located rr m k)) is_open_bracket is_close_bracket) (λ xs. ListTree (items_of xs)) (λ xs. ap ListTree (items_same xs))

    object_alike : {r s : Rule (ValueTree P)} → Alike r s unplaced_value → Alike (v.object_value m r) (v.object_value k s) unplaced_value
    object_alike rr =
        made (λ xs. ObjectTree (entries_of xs)) (enclosed (several (seq name_alike (seq (skipped is_colon) (located rr m k)))) is_open_brace is_close_brace)
        (λ xs. ObjectTree (entries_of xs)) (λ xs. ap ObjectTree (entries_same xs))

    any_value_alike : (const : Const) {list list' object object' : Rule (ValueTree P)} → Alike list list' unplaced_value → Alike object object' unplaced_value → Alike (v.any_value m const list object) (v.any_value k const list' object') unplaced_value
    any_value_alike const list object =
        choice (unless const (made VariableTree variable_alike VariableTree (λ x. refl)))
        (choice (fixed (v.int_value m) unplaced_value)
        (choice (fixed (v.float_value m) unplaced_value)
        (choice (fixed (v.string_value m) unplaced_value)
        (choice (fixed (v.boolean_value m) unplaced_value)
        (choice (fixed (v.null_value m) unplaced_value)
        (choice (made EnumTree enum_value_alike EnumTree (λ x. refl))
        (choice list object)))))))

    pub value_alike : (const : Const) (n : ℕ) → Alike (v.value m const n) (v.value k const n) unplaced_value
    unfolding v.value
    value_alike const zero = any_value_alike const never never
    value_alike const (suc n) = any_value_alike const (list_alike (value_alike const n)) (object_alike (value_alike const n))

    pub default_alike : (n : ℕ) → Alike (v.default_value m n) (v.default_value k n) (unplaced_node unplaced_value)
    unfolding v.default_value
    default_alike n = following (located (value_alike constant n) m k) is_equals

    argument_alike : (const : Const) (n : ℕ) → Alike (v.argument m const n) (v.argument k const n) unplaced_argument
    unfolding v.argument
    argument_alike const n = made argument_of (seq name_alike (seq (skipped is_colon) (located (value_alike const n) m k))) argument_of (λ x. refl)

    pub arguments_alike : (const : Const) (n : ℕ) → Alike (v.arguments m const n) (v.arguments k const n) unplaced_arguments
    unfolding v.arguments
    arguments_alike const zero = never
    arguments_alike const (suc n) = enclosed (one_or_more (located (argument_alike const n) m k)) is_open_paren is_close_paren

    directive_alike : (const : Const) (n : ℕ) → Alike (v.directive m const n) (v.directive k const n) unplaced_directive
    unfolding v.directive
    directive_alike const n = made directive_of (seq (skipped is_at) (seq name_alike (maybe_or [] (arguments_alike const n)))) directive_of (λ x. refl)

    pub directives_alike : (const : Const) (n : ℕ) → Alike (v.directives m const n) (v.directives k const n) unplaced_directives
    unfolding v.directives
    directives_alike const n = one_or_more (located (directive_alike const n) m k)

    any_type_alike : {r s : Rule (TypeTree P)} → Alike r s unplaced_type → Alike (v.any_type m r) (v.any_type k s) unplaced_type
    any_type_alike rr =
        made type_of (seq (choice (made NamedTree name_alike NamedTree (λ x. refl)) (made types.ListTree rr types.ListTree (λ x. refl))) (fixed _ (λ x. x))) type_of type_same

    pub type_alike : (n : ℕ) → Alike (v.type m n) (v.type k n) unplaced_type
    unfolding v.type
    type_alike zero = any_type_alike never
    type_alike (suc n) = any_type_alike (enclosed (type_alike n) is_open_bracket is_close_bracket)

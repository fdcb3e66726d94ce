-- Values, arguments, directives and types of the tokens of a text are well-formed.
use Rattle.std.proofs.Common.{◌≡◌, ℕ, zero, suc, Bool, true, false, ◌&&◌, List, [], ◌∷◌, Option, Some, None, unwrap_or, refl, sym, subst}
use denote.Enum.Bare.{same_true}
use Rattle.std.specs.List.{list_all}
use Rattle.std.proofs.lemmas.Bool.{and_from, and_parts}
use Rattle.graphql_names.specs.NameSyntax as names
use Rattle.graphql_names.specs.Placed.{Placed, Text}
use Rattle.tree_literals.specs.NumberSyntax.{is_int_value, is_float_value}
use Rattle.tree_literals.specs.ValueTree.{ValueTree, NullTree, EnumTree, VariableTree, StringTree, FloatTree, IntTree, BooleanTree, ListTree, ObjectTree}
use Rattle.tree_literals.specs.TypeTree.{TypeTree, NamedTree, NonNullNamedTree, NonNullListTree}
use Rattle.tree_literals.specs.TypeTree as types
use Rattle.read_tokens.specs.contracts.terminal.Terminal.{the_type}
use Rattle.read_tokens.specs.declared.terminal.Terminal.{Terminal}
use Rattle.read_tokens.specs.declared.terminal.Terminal.TheVariants as k
use Rattle.read_tokens.specs.Forms.{is_word, Taken}
use Rattle.read_tokens.specs.Input.{Token}
use Rattle.read_tokens.proofs.NumberTokens.{int_text, float_text}
use Rattle.read_operations.proofs.Numbers.{int_value, float_value}
use Rattle.read_grammar.specs.Meaning.{Meaning, name_of}
use Rattle.read_grammar.specs.Kinds.{is, next_is, is_name, is_enum_value, is_string, is_int, is_float, is_true, is_false, is_null, is_dollar, is_colon, is_at, is_equals, is_bang, is_open_bracket, is_close_bracket, is_open_brace, is_close_brace, is_open_paren, is_close_paren}
use Rattle.read_grammar.specs.Rules as rule
use Rattle.read_grammar.specs.Rules.{Rule, ◌·◌, ◌<$>◌, ◌∣◌}
use Rattle.read_grammar.specs.ValueGrammar as g
use Rattle.read_grammar.specs.ValueGrammar.{Const, constant, items_of, entries_of, argument_of, directive_of, type_of}
use Rattle.read_grammar.proofs.Tests.{subset, from_subset}
use Rattle.round_trip.specs.WellFormed.{type_well_formed, value_well_formed, items_well_formed, entries_well_formed, arguments_well_formed, directives_well_formed}
use Rattle.verdict_laws.proofs.Taken.{IsTaken, Makes, token, any_token, mapped, mark, seq, choice, never, maybe_any, or_none, several, some_all, enclosed, located}

-- ---- texts of tokens

-- a token of a class of words is a name
pub word_says : (class : Terminal → Bool) → subset (next_is class) (next_is is_word) ≡ true → (t : Token) → IsTaken t → class t.kind ≡ true → names.is_name t.text ≡ true
word_says class words t taken h = taken.0.name (from_subset (next_is class) (next_is is_word) words (Some t.kind) h)

is_same : (k kind : Terminal) → is k kind ≡ true → kind ≡ k
is_same k kind h = sym (same_true the_type tt k kind h)

int_says : (t : Token) → IsTaken t → is_int t.kind ≡ true → is_int_value t.text ≡ true
int_says t taken h = int_value t.text (int_text t.text (subst (λ (x : Terminal). Taken x t.text) (is_same k.Int t.kind h) taken.1))

float_says : (t : Token) → IsTaken t → is_float t.kind ≡ true → is_float_value t.text ≡ true
float_says t taken h = float_value t.text (float_text t.text (subst (λ (x : Terminal). Taken x t.text) (is_same k.Float t.kind h) taken.1))

-- ---- symbols

module _ {P : Type 0} (m : Meaning P) where
  abbrev pub named : Text P → Bool
  named n = names.is_name n.it

  pub name_makes : Makes (g.name m) named
  name_makes = mapped (name_of m) (token is_name (λ t. names.is_name t.text) (word_says is_name refl)) (λ t h. h)

  pub variable_makes : Makes (g.variable m) named
  variable_makes = mapped (λ x. x.1) (seq (mark is_dollar) name_makes) (λ x h. h)

  pub enum_value_makes : Makes (g.enum_value m) named
  enum_value_makes = mapped (name_of m) (token is_enum_value (λ t. names.is_name t.text) (word_says is_enum_value refl)) (λ t h. h)

  module _ (c : Const) where
    abbrev good : ValueTree P → Bool
    good v = value_well_formed v

    variable_value_makes : (d : Const) → Makes (rule.unless d (VariableTree <$> g.variable m)) good
    variable_value_makes true = never
    variable_value_makes false = mapped VariableTree variable_makes (λ x h. h)

    int_makes : Makes (g.int_value m) good
    int_makes = mapped (λ t. IntTree t.text) (token is_int (λ t. is_int_value t.text) int_says) (λ t h. h)

    float_makes : Makes (g.float_value m) good
    float_makes = mapped (λ t. FloatTree t.text) (token is_float (λ t. is_float_value t.text) float_says) (λ t h. h)

    string_makes : Makes (g.string_value m) good
    string_makes = mapped (λ t. StringTree (m.string t)) (any_token is_string) (λ t h. refl)

    boolean_makes : Makes (g.boolean_value m) good
    boolean_makes = choice (mapped (λ _. BooleanTree true) (mark is_true) (λ x h. refl)) (mapped (λ _. BooleanTree false) (mark is_false) (λ x h. refl))

    null_makes : Makes (g.null_value m) good
    null_makes = mapped (λ _. NullTree) (mark is_null) (λ x h. refl)

    enum_makes : Makes (EnumTree <$> g.enum_value m) good
    enum_makes = mapped EnumTree enum_value_makes (λ x h. h)

    items_good : (xs : List (Placed P (ValueTree P))) → list_all (λ x. good x.it) xs ≡ true → items_well_formed (items_of xs) ≡ true
    items_good [] h = refl
    items_good (x ∷ xs) h =
        let k = and_parts (good x.it) (list_all (λ y. good y.it) xs) h in
        and_from (good x.it) (items_well_formed (items_of xs)) k.0 (items_good xs k.1)

    abbrev entry_good : Text P × (Unit {0} × Placed P (ValueTree P)) → Bool
    entry_good x = named x.0 && good x.1.1.it

    entries_good : (xs : List (Text P × (Unit {0} × Placed P (ValueTree P)))) → list_all entry_good xs ≡ true → entries_well_formed (entries_of xs) ≡ true
    entries_good [] h = refl
    entries_good (x ∷ xs) h =
        let k = and_parts (entry_good x) (list_all entry_good xs) h in
        and_from (entry_good x) (entries_well_formed (entries_of xs)) k.0 (entries_good xs k.1)

    list_makes : {r : Rule (ValueTree P)} → Makes r good → Makes (g.list_value m r) good
    list_makes rr = mapped (λ xs. ListTree (items_of xs)) (enclosed is_open_bracket is_close_bracket (several (located m rr))) items_good

    object_field_makes : {r : Rule (ValueTree P)} → Makes r good → Makes (g.object_field m r) entry_good
    object_field_makes rr = seq name_makes (seq (mark is_colon) (located m rr))

    object_makes : {r : Rule (ValueTree P)} → Makes r good → Makes (g.object_value m r) good
    object_makes rr = mapped (λ xs. ObjectTree (entries_of xs)) (enclosed is_open_brace is_close_brace (several (object_field_makes rr))) entries_good

    any_value_makes : {r s : Rule (ValueTree P)} → Makes r good → Makes s good → Makes (g.any_value m c r s) good
    any_value_makes list object =
        choice (variable_value_makes c) (choice int_makes (choice float_makes (choice string_makes (choice boolean_makes (choice null_makes (choice enum_makes (choice list object)))))))

    pub value_makes : (n : ℕ) → Makes (g.value m c n) good
    unfolding g.value
    value_makes zero = any_value_makes never never
    value_makes (suc n) = any_value_makes (list_makes (value_makes n)) (object_makes (value_makes n))

    pub argument_makes : (n : ℕ) → Makes (g.argument m c n) (λ x. named x.name && value_well_formed x.value.it)
    unfolding g.argument
    argument_makes n = mapped argument_of (seq name_makes (seq (mark is_colon) (located m (value_makes n)))) (λ x h. h)

    pub arguments_makes : (n : ℕ) → Makes (g.arguments m c n) (λ xs. arguments_well_formed xs)
    unfolding g.arguments
    arguments_makes zero = never
    arguments_makes (suc n) = enclosed is_open_paren is_close_paren (some_all (located m (argument_makes n)))

    pub maybe_arguments : (n : ℕ) → Makes (rule.optional (g.arguments m c n)) (λ x. arguments_well_formed (unwrap_or x []))
    maybe_arguments n = or_none (λ xs. arguments_well_formed xs) refl (arguments_makes n)

    pub directive_makes : (n : ℕ) → Makes (g.directive m c n) (λ d. named d.name && arguments_well_formed d.arguments)
    unfolding g.directive
    directive_makes n = mapped directive_of (seq (mark is_at) (seq name_makes (maybe_arguments n))) (λ x h. h)

    pub directives_makes : (n : ℕ) → Makes (g.directives m c n) (λ ds. directives_well_formed ds)
    unfolding g.directives
    directives_makes n = some_all (located m (directive_makes n))

    pub maybe_directives : (n : ℕ) → Makes (rule.optional (g.directives m c n)) (λ x. directives_well_formed (unwrap_or x []))
    maybe_directives n = or_none (λ ds. directives_well_formed ds) refl (directives_makes n)

  pub default_value_makes : (n : ℕ) → Makes (g.default_value m n) (λ x. value_well_formed x.it)
  unfolding g.default_value
  default_value_makes n = mapped (λ x. x.1) (seq (mark is_equals) (located m (value_makes constant n))) (λ x h. h)

  -- ---- types

  abbrev type_good : TypeTree P → Bool
  type_good t = type_well_formed t

  any_type_head : {r : Rule (TypeTree P)} → Makes r type_good → Makes (NamedTree <$> g.name m ∣ types.ListTree <$> r) type_good
  any_type_head rr = choice (mapped NamedTree name_makes (λ x h. h)) (mapped types.ListTree rr (λ x h. h))

  marked_good : (t : TypeTree P) (o : Option (Unit {0})) → (type_good t && true) ≡ true → type_good (type_of (t, o)) ≡ true
  marked_good t None h = (and_parts (type_good t) true h).0
  marked_good (NamedTree n) (Some u) h = (and_parts (named n) true h).0
  marked_good (types.ListTree t) (Some u) h = (and_parts (type_good t) true h).0
  marked_good (NonNullNamedTree n) (Some u) h = (and_parts (named n) true h).0
  marked_good (NonNullListTree t) (Some u) h = (and_parts (type_good t) true h).0

  any_type_makes : {r : Rule (TypeTree P)} → Makes r type_good → Makes (g.any_type m r) type_good
  any_type_makes rr = mapped type_of (seq (any_type_head rr) (maybe_any (mark is_bang))) (λ x h. marked_good x.0 x.1 h)

  pub type_makes : (n : ℕ) → Makes (g.type m n) (λ t. type_well_formed t)
  unfolding g.type
  type_makes zero = any_type_makes never
  type_makes (suc n) = any_type_makes (enclosed is_open_bracket is_close_bracket (type_makes n))

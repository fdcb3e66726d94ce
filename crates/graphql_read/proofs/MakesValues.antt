-- Values, arguments, directives and types of the tokens of a text are writable.
use Rattle.std.proofs.Common.{◌≡◌, ◌∙◌, ℕ, zero, suc, Bool, true, false, true≢false, ◌&&◌, not, codes, List, [], ◌∷◌, Some, unwrap_or, refl, sym, subst}
use Rattle.std.specs.List.{list_all}
use Rattle.std.specs.Cmp.Lexicographic.{bytes_decides}
use Rattle.std.proofs.lemmas.Bool.{and_from, and_parts}
use Rattle.graphql_names.specs.Placed.{Placed, Text}
use Rattle.tree_literals.specs.ValueTree.{ValueTree, NullTree, EnumTree, VariableTree, StringTree, FloatTree, IntTree, BooleanTree, ListTree, ObjectTree}
use Rattle.tree_literals.specs.TypeTree.{TypeTree, NamedTree, NonNullNamedTree, NonNullListTree}
use Rattle.tree_literals.specs.TypeTree as types
use Rattle.read_types.specs.in_values.Writable.{is_text, type_writable, can_be_enum, can_be_fragment, value_writable, items_writable, entries_writable, arguments_writable, directive_writable, directives_writable}
use Rattle.read_tokens.specs.declared.terminal.Terminal.{Terminal}
use Rattle.read_tokens.specs.declared.token.TokenKind.{TokenKind}
use Rattle.read_tokens.specs.declared.token.TokenKind.TheVariants.{Bang, Dollar, Ampersand, OpenParen, CloseParen, Spread, Colon, Equals, At, OpenBracket, CloseBracket, OpenBrace, Pipe, CloseBrace, Int, Float, String, BlockString, Name}
use Rattle.read_tokens.specs.Terminals.{words, spelled, terminal_of}
use Rattle.read_tokens.specs.Input.{Token}
use Rattle.read_grammar.specs.Meaning.{Meaning, name_of}
use Rattle.read_grammar.specs.Kinds.{next_is, is_name, is_enum_value, is_fragment_name, is_string, is_int, is_float, is_true, is_false, is_null, is_dollar, is_colon, is_at, is_equals, is_bang, is_open_bracket, is_close_bracket, is_open_brace, is_close_brace, is_open_paren, is_close_paren}
use Rattle.read_grammar.specs.Rules as rule
use Rattle.read_grammar.specs.Rules.{Rule, ◌·◌, ◌<$>◌, ◌∣◌}
use Rattle.read_grammar.specs.ValueGrammar as g
use Rattle.read_grammar.specs.ValueGrammar.{Const, constant, items_of, entries_of, argument_of, directive_of, type_of}
use Rattle.read_grammar.proofs.Tests.{subset, from_subset}
use Rattle.graphql_read.proofs.Makes.{IsTerminal, Makes, token, any_token, mapped, mapped_any, mark, seq, choice, never, maybe_any, or_none, several, some_all, enclosed, located}

-- ---- what a name is not

only_names : (kind : TokenKind) (text : List ℕ) → is_name (terminal_of kind text) ≡ true → kind ≡ Name
only_names Name text h = refl
only_names Bang text h = absurd (true≢false (sym h))
only_names Dollar text h = absurd (true≢false (sym h))
only_names Ampersand text h = absurd (true≢false (sym h))
only_names OpenParen text h = absurd (true≢false (sym h))
only_names CloseParen text h = absurd (true≢false (sym h))
only_names Spread text h = absurd (true≢false (sym h))
only_names Colon text h = absurd (true≢false (sym h))
only_names Equals text h = absurd (true≢false (sym h))
only_names At text h = absurd (true≢false (sym h))
only_names OpenBracket text h = absurd (true≢false (sym h))
only_names CloseBracket text h = absurd (true≢false (sym h))
only_names OpenBrace text h = absurd (true≢false (sym h))
only_names Pipe text h = absurd (true≢false (sym h))
only_names CloseBrace text h = absurd (true≢false (sym h))
only_names Int text h = absurd (true≢false (sym h))
only_names Float text h = absurd (true≢false (sym h))
only_names String text h = absurd (true≢false (sym h))
only_names BlockString text h = absurd (true≢false (sym h))

-- a token of a class of names is one by its text
by_text : (is : Terminal → Bool) → subset (next_is is) (next_is is_name) ≡ true → (t : Token) → IsTerminal t → is t.kind ≡ true → is (spelled words t.text) ≡ true
by_text is names t known h =
    let is_one : is_name t.kind ≡ true = from_subset (next_is is) (next_is is_name) names (Some t.kind) h in
    let kind : known.0 ≡ Name = only_names known.0 t.text (subst (λ (k : Terminal). is_name k ≡ true) known.1 is_one) in
    subst (λ (k : TokenKind). is (terminal_of k t.text) ≡ true) kind (subst (λ (k : Terminal). is k ≡ true) known.1 h)

-- the text is not a word that is not of the class
is_not : (is : Terminal → Bool) (word text : List ℕ) → is (spelled words word) ≡ false → is (spelled words text) ≡ true → not (is_text word text) ≡ true
is_not is word text outside inside = go (is_text word text) refl
  where
    go : (b : Bool) → is_text word text ≡ b → not b ≡ true
    go false e = refl
    go true e = absurd (true≢false (sym (subst (λ (w : List ℕ). is (spelled words w) ≡ true) ((bytes_decides text word).0 e) inside) ∙ outside))

no_true : is_enum_value (spelled words (codes "true")) ≡ false
unfolding words
no_true = refl

no_false : is_enum_value (spelled words (codes "false")) ≡ false
unfolding words
no_false = refl

no_null : is_enum_value (spelled words (codes "null")) ≡ false
unfolding words
no_null = refl

no_on : is_fragment_name (spelled words (codes "on")) ≡ false
unfolding words
no_on = refl

-- no token of an enum value is `true`, `false` or `null`
enum_says : (t : Token) → IsTerminal t → is_enum_value t.kind ≡ true → can_be_enum t.text ≡ true
enum_says t known h =
    let named = by_text is_enum_value refl t known h in
    let not_true = is_not is_enum_value (codes "true") t.text no_true named in
    let not_false = is_not is_enum_value (codes "false") t.text no_false named in
    let not_null = is_not is_enum_value (codes "null") t.text no_null named in
    and_from (not (is_text (codes "true") t.text) && not (is_text (codes "false") t.text)) (not (is_text (codes "null") t.text)) (and_from (not (is_text (codes "true") t.text)) (not (is_text (codes "false") t.text)) not_true not_false) not_null

-- no token of a fragment's name is `on`
pub fragment_says : (t : Token) → IsTerminal t → is_fragment_name t.kind ≡ true → can_be_fragment t.text ≡ true
fragment_says t known h = is_not is_fragment_name (codes "on") t.text no_on (by_text is_fragment_name refl t known h)

-- ---- symbols

module _ {P : Type 0} (m : Meaning P) where
  pub name_makes : Makes (g.name m) (λ x. true)
  name_makes = mapped_any (name_of m) (any_token is_name)

  pub variable_makes : Makes (g.variable m) (λ x. true)
  variable_makes = mapped_any (λ x. x.1) (seq (mark is_dollar) name_makes)

  pub enum_value_makes : Makes (g.enum_value m) (λ x. can_be_enum x.it)
  enum_value_makes = mapped (name_of m) (token is_enum_value (λ t. can_be_enum t.text) enum_says) (λ t h. h)

  module _ (c : Const) where
    abbrev good : ValueTree P → Bool
    good v = value_writable c v

    -- a constant value has no variable
    variable_value_makes : (d : Const) → Makes (rule.unless d (VariableTree <$> g.variable m)) (λ v. value_writable d v)
    variable_value_makes true = never
    variable_value_makes false = mapped VariableTree variable_makes (λ x h. refl)

    int_makes : Makes (g.int_value m) good
    int_makes = mapped (λ t. IntTree t.text) (any_token is_int) (λ t h. refl)

    float_makes : Makes (g.float_value m) good
    float_makes = mapped (λ t. FloatTree t.text) (any_token is_float) (λ t h. refl)

    string_makes : Makes (g.string_value m) good
    string_makes = mapped (λ t. StringTree (m.string t)) (any_token is_string) (λ t h. refl)

    boolean_makes : Makes (g.boolean_value m) good
    boolean_makes = choice (mapped (λ _. BooleanTree true) (mark is_true) (λ x h. refl)) (mapped (λ _. BooleanTree false) (mark is_false) (λ x h. refl))

    null_makes : Makes (g.null_value m) good
    null_makes = mapped (λ _. NullTree) (mark is_null) (λ x h. refl)

    enum_makes : Makes (EnumTree <$> g.enum_value m) good
    enum_makes = mapped EnumTree enum_value_makes (λ x h. h)

    items_good : (xs : List (Placed P (ValueTree P))) → list_all (λ x. good x.it) xs ≡ true → items_writable c (items_of xs) ≡ true
    items_good [] h = refl
    items_good (x ∷ xs) h =
        let k = and_parts (good x.it) (list_all (λ y. good y.it) xs) h in
        and_from (good x.it) (items_writable c (items_of xs)) k.0 (items_good xs k.1)

    entries_good : (xs : List (Text P × (Unit {0} × Placed P (ValueTree P)))) → list_all (λ x. good x.1.1.it) xs ≡ true → entries_writable c (entries_of xs) ≡ true
    entries_good [] h = refl
    entries_good (x ∷ xs) h =
        let k = and_parts (good x.1.1.it) (list_all (λ y. good y.1.1.it) xs) h in
        and_from (good x.1.1.it) (entries_writable c (entries_of xs)) k.0 (entries_good xs k.1)

    list_makes : {r : Rule (ValueTree P)} → Makes r good → Makes (g.list_value m r) good
    list_makes rr = mapped (λ xs. ListTree (items_of xs)) (enclosed is_open_bracket is_close_bracket (several (located m rr))) items_good

    object_field_makes : {r : Rule (ValueTree P)} → Makes r good → Makes (g.object_field m r) (λ x. good x.1.1.it)
    object_field_makes rr = seq name_makes (seq (mark is_colon) (located m rr))

    object_makes : {r : Rule (ValueTree P)} → Makes r good → Makes (g.object_value m r) good
    object_makes rr = mapped (λ xs. ObjectTree (entries_of xs)) (enclosed is_open_brace is_close_brace (several (object_field_makes rr))) entries_good

    any_value_makes : {r s : Rule (ValueTree P)} → Makes r good → Makes s good → Makes (g.any_value m c r s) good
    any_value_makes list object =
        choice (variable_value_makes c) (choice int_makes (choice float_makes (choice string_makes (choice boolean_makes (choice null_makes (choice enum_makes (choice list object)))))))

    pub value_makes : (n : ℕ) → Makes (g.value m c n) good
    unfolding g.value
    value_makes zero = any_value_makes never never
    value_makes (suc n) = any_value_makes (list_makes (value_makes n)) (object_makes (value_makes n))

    pub argument_makes : (n : ℕ) → Makes (g.argument m c n) (λ x. good x.value.it)
    unfolding g.argument
    argument_makes n = mapped argument_of (seq name_makes (seq (mark is_colon) (located m (value_makes n)))) (λ x h. h)

    pub arguments_makes : (n : ℕ) → Makes (g.arguments m c n) (λ xs. arguments_writable c xs)
    unfolding g.arguments
    arguments_makes zero = never
    arguments_makes (suc n) = enclosed is_open_paren is_close_paren (some_all (located m (argument_makes n)))

    pub maybe_arguments : (n : ℕ) → Makes (rule.optional (g.arguments m c n)) (λ x. arguments_writable c (unwrap_or x []))
    maybe_arguments n = or_none (λ xs. arguments_writable c xs) refl (arguments_makes n)

    pub directive_makes : (n : ℕ) → Makes (g.directive m c n) (λ d. directive_writable c d)
    unfolding g.directive
    directive_makes n = mapped directive_of (seq (mark is_at) (seq name_makes (maybe_arguments n))) (λ x h. h)

    pub directives_makes : (n : ℕ) → Makes (g.directives m c n) (λ ds. directives_writable c ds)
    unfolding g.directives
    directives_makes n = some_all (located m (directive_makes n))

    pub maybe_directives : (n : ℕ) → Makes (rule.optional (g.directives m c n)) (λ x. directives_writable c (unwrap_or x []))
    maybe_directives n = or_none (λ ds. directives_writable c ds) refl (directives_makes n)

  pub default_value_makes : (n : ℕ) → Makes (g.default_value m n) (λ x. value_writable constant x.it)
  unfolding g.default_value
  default_value_makes n = mapped (λ x. x.1) (seq (mark is_equals) (located m (value_makes constant n))) (λ x h. h)

  -- ---- types, of which nothing is asked

  any_type_head : {r : Rule (TypeTree P)} → Makes r (λ x. true) → Makes (NamedTree <$> g.name m ∣ types.ListTree <$> r) (λ x. true)
  any_type_head rr = choice (mapped_any NamedTree name_makes) (mapped_any types.ListTree rr)

  any_type_makes : {r : Rule (TypeTree P)} → Makes r (λ x. true) → Makes (g.any_type m r) (λ x. true)
  any_type_makes rr = mapped_any type_of (seq (any_type_head rr) (maybe_any (mark is_bang)))

  pub type_makes : (n : ℕ) → Makes (g.type m n) (λ x. true)
  unfolding g.type
  type_makes zero = any_type_makes never
  type_makes (suc n) = any_type_makes (enclosed is_open_bracket is_close_bracket (type_makes n))

pub type_is_writable : {P : Type 0} (tree : TypeTree P) → type_writable tree ≡ true
type_is_writable (NamedTree n) = refl
type_is_writable (NonNullNamedTree n) = refl
type_is_writable (types.ListTree t) = type_is_writable t
type_is_writable (NonNullListTree t) = type_is_writable t

-- Values without brackets are read as they are printed.
use Rattle.std.proofs.Common.{◌≡◌, ℕ, Bool, true, false, not, ◌&&◌, List, [], ◌∷◌, ◌++◌, codes, refl, sym, ap, ◌∙◌, true≢false}
use Rattle.std.specs.Str.{bytes_eq}
use lib.Pointwise.{bytes_decides}
use Rattle.std.proofs.lemmas.Bool.{and_parts}
use Rattle.graphql_names.specs.NameSyntax as names
use Rattle.round_trip.specs.in_literals.StringLayout.{quoted_text}
use Rattle.read_operations.specs.in_literals.NumberSyntax.{is_int_value, is_float_value}
use Rattle.read_operations.specs.in_literals.ValueLayout.{boolean_text}
use Rattle.graphql_names.specs.Placed.{Text}
use Rattle.read_operations.specs.in_values.Writable.{is_text, can_be_enum}
use Rattle.read_operations.specs.in_literals.ValueTree.{ValueTree, NullTree, EnumTree, VariableTree, StringTree, FloatTree, IntTree, BooleanTree, unplaced_value}
use Rattle.read_operations.specs.in_tokens.declared.token.TokenKind.TheVariants as t
use Rattle.read_operations.specs.in_tokens.Input.{Token}
use Rattle.read_operations.specs.in_tokens.Terminals.{words, terminal_of}
use Rattle.read_operations.specs.in_grammar.Meaning.{Meaning}
use Rattle.read_operations.specs.in_grammar.Kinds.{is_enum_value, is_string, is_int, is_float, is_true, is_false, is_null}
use Rattle.read_operations.specs.in_grammar.Rules.{Rule, mark, ◌<$>◌, ◌∣◌, unless}
use Rattle.read_operations.specs.in_grammar.ValueGrammar.{Const, with_variables, variable, int_value, float_value, string_value, boolean_value, null_value, enum_value, any_value}
use Rattle.round_trip.specs.Printed.{Follow, any, ends_word, Printed}
use Rattle.round_trip.specs.Literals.{NumbersRead, StringsRead}
use Rattle.round_trip.proofs.Sequences.{seq, mapped, left, right, nothing_more}
use Rattle.round_trip.proofs.Tokens.{token, token_is_piece, keyword, named, any_name, spelled_passes}
use Rattle.round_trip.proofs.Punctuators.{dollar}

-- the value, ignoring places
abbrev pub IsValue : {P : Type 0} → ValueTree (Unit {0}) → ValueTree P → Type 0
IsValue t x = unplaced_value x ≡ t

abbrev pub plain_text : List ℕ → Text (Unit {0})
plain_text text = record { it = text; place = tt }

-- ---- enum values

pub not_word : (wanted text : List ℕ) → not (is_text wanted text) ≡ true → not (bytes_eq wanted text) ≡ true
not_word wanted text h = go (bytes_eq wanted text) refl
  where
    go : (b : Bool) → bytes_eq wanted text ≡ b → not b ≡ true
    go false e = refl
    go true e =
        let same : wanted ≡ text = (bytes_decides wanted text).0 e in
        let is : is_text wanted text ≡ true = (bytes_decides text wanted).1 (sym same) in
        absurd (true≢false (sym h ∙ ap not is))

-- a text that can be an enum value is one
pub spelled_enum : (text : List ℕ) → can_be_enum text ≡ true → is_enum_value (terminal_of t.Name text) ≡ true
unfolding words
spelled_enum text h =
    let (both, null) = and_parts (not (is_text (codes "true") text) && not (is_text (codes "false") text)) (not (is_text (codes "null") text)) h in
    let (yea, nay) = and_parts (not (is_text (codes "true") text)) (not (is_text (codes "false") text)) both in
    spelled_passes is_enum_value words text refl
    (rw (not_word (codes "true") text yea) (rw (not_word (codes "false") text nay) (rw (not_word (codes "null") text null) refl)))

-- ---- the alternatives of a value

module _ {P : Type 0} (m : Meaning P) where
  -- the alternatives from one on
  abbrev from_list : Rule (ValueTree P) → Rule (ValueTree P) → Rule (ValueTree P)
  from_list list object = list ∣ object

  abbrev from_enum : Rule (ValueTree P) → Rule (ValueTree P) → Rule (ValueTree P)
  from_enum list object = EnumTree <$> enum_value m ∣ from_list list object

  abbrev from_null : Rule (ValueTree P) → Rule (ValueTree P) → Rule (ValueTree P)
  from_null list object = null_value m ∣ from_enum list object

  abbrev from_boolean : Rule (ValueTree P) → Rule (ValueTree P) → Rule (ValueTree P)
  from_boolean list object = boolean_value m ∣ from_null list object

  abbrev from_string : Rule (ValueTree P) → Rule (ValueTree P) → Rule (ValueTree P)
  from_string list object = string_value m ∣ from_boolean list object

  abbrev from_float : Rule (ValueTree P) → Rule (ValueTree P) → Rule (ValueTree P)
  from_float list object = float_value m ∣ from_string list object

  abbrev front : Const → Rule (ValueTree P)
  front const = unless const (VariableTree <$> variable m)

  module _ (const : Const) (list object : Rule (ValueTree P)) {says : ValueTree P → Type 0} {f : Follow} {a : List ℕ} where
    as_int : Printed (int_value m) says f a → Printed (any_value m const list object) says f a
    as_int p = right (front const) (left (from_float list object) p)

    as_float : Printed (float_value m) says f a → Printed (any_value m const list object) says f a
    as_float p = right (front const) (right (int_value m) (left (from_string list object) p))

    as_string : Printed (string_value m) says f a → Printed (any_value m const list object) says f a
    as_string p = right (front const) (right (int_value m) (right (float_value m) (left (from_boolean list object) p)))

    as_boolean : Printed (boolean_value m) says f a → Printed (any_value m const list object) says f a
    as_boolean p = right (front const) (right (int_value m) (right (float_value m) (right (string_value m) (left (from_null list object) p))))

    as_null : Printed (null_value m) says f a → Printed (any_value m const list object) says f a
    as_null p = right (front const) (right (int_value m) (right (float_value m) (right (string_value m) (right (boolean_value m) (left (from_enum list object) p)))))

    -- none of the alternatives before an enum value
    after_null : Printed (from_enum list object) says f a → Printed (any_value m const list object) says f a
    after_null p = right (front const) (right (int_value m) (right (float_value m) (right (string_value m) (right (boolean_value m) (right (null_value m) p)))))

    as_enum : Printed (EnumTree <$> enum_value m) says f a → Printed (any_value m const list object) says f a
    as_enum p = after_null (left (from_list list object) p)

    pub as_list : Printed list says f a → Printed (any_value m const list object) says f a
    as_list p = after_null (right (EnumTree <$> enum_value m) (left object p))

    pub as_object : Printed object says f a → Printed (any_value m const list object) says f a
    as_object p = after_null (right (EnumTree <$> enum_value m) (right list p))

  -- ---- the values

  module _ (const : Const) (list object : Rule (ValueTree P)) where
    pub null_read : Printed (any_value m const list object) (IsValue NullTree) ends_word (codes "null")
    unfolding words
    null_read = as_null const list object (mapped (λ _. NullTree) (IsValue NullTree) (λ x said. refl) (keyword is_null (codes "null") refl refl))

    pub boolean_read : (b : Bool) → Printed (any_value m const list object) (IsValue (BooleanTree b)) ends_word (boolean_text b)
    unfolding words
    boolean_read true =
        as_boolean const list object
        (left ((λ _. BooleanTree false) <$> mark is_false) (mapped (λ _. BooleanTree true) (IsValue (BooleanTree true)) (λ x said. refl) (keyword is_true (codes "true") refl refl)))
    boolean_read false =
        as_boolean const list object
        (right ((λ _. BooleanTree true) <$> mark is_true) (mapped (λ _. BooleanTree false) (IsValue (BooleanTree false)) (λ x said. refl) (keyword is_false (codes "false") refl refl)))

    pub enum_read : (text : List ℕ) → names.is_name text ≡ true → can_be_enum text ≡ true → Printed (any_value m const list object) (IsValue (EnumTree (plain_text text))) ends_word text
    enum_read text h can =
        as_enum const list object
        (mapped EnumTree (IsValue (EnumTree (plain_text text))) (λ x said. ap (λ (l : List ℕ). EnumTree (plain_text l)) said) (named m is_enum_value text h (spelled_enum text can)))

    pub int_read : NumbersRead → (text : List ℕ) → is_int_value text ≡ true → Printed (any_value m const list object) (IsValue (IntTree text)) ends_word text
    int_read numbers text h =
        as_int const list object
        (mapped (λ (x : Token). IntTree x.text) (IsValue (IntTree text)) (λ x said. ap IntTree said.1)
        (token is_int t.Int text ends_word (λ following fine. token_is_piece t.Int text following (numbers.int text following h fine)) refl))

    pub float_read : NumbersRead → (text : List ℕ) → is_float_value text ≡ true → Printed (any_value m const list object) (IsValue (FloatTree text)) ends_word text
    float_read numbers text h =
        as_float const list object
        (mapped (λ (x : Token). FloatTree x.text) (IsValue (FloatTree text)) (λ x said. ap FloatTree said.1)
        (token is_float t.Float text ends_word (λ following fine. token_is_piece t.Float text following (numbers.float text following h fine)) refl))

    pub string_read : StringsRead m.string → (text : List ℕ) → Printed (any_value m const list object) (IsValue (StringTree text)) ends_word (quoted_text text)
    string_read strings text =
        as_string const list object
        (mapped (λ (x : Token). StringTree (m.string x)) (IsValue (StringTree text)) (λ x said. ap StringTree (strings.stands_for text x said.0 said.1))
        (token is_string t.String (quoted_text text) ends_word (λ following fine. token_is_piece t.String (quoted_text text) following (strings.quoted text following fine)) refl))

  -- $name
  pub variable_alone : (text : List ℕ) → names.is_name text ≡ true → Printed (variable m) (λ x. x.it ≡ text) ends_word (36 ∷ text)
  variable_alone text h = mapped (λ x. x.1) (λ x. x.it ≡ text) (λ x said. said.1) (seq {f = any} (λ following fine. refl) dollar (any_name m text h))

  pub variable_name : (text : List ℕ) → names.is_name text ≡ true → Printed (variable m) (λ x. x.it ≡ text) ends_word (36 ∷ (text ++ []))
  variable_name text h = mapped (λ x. x.1) (λ x. x.it ≡ text) (λ x said. said.1) (seq {f = any} (λ following fine. refl) dollar (nothing_more (any_name m text h)))

  pub variable_read : (list object : Rule (ValueTree P)) (text : List ℕ) → names.is_name text ≡ true → Printed (any_value m with_variables list object) (IsValue (VariableTree (plain_text text))) ends_word (36 ∷ (text ++ []))
  variable_read list object text h =
      left (int_value m ∣ from_float list object)
      (mapped VariableTree (IsValue (VariableTree (plain_text text))) (λ x said. ap (λ (l : List ℕ). VariableTree (plain_text l)) said) (variable_name text h))

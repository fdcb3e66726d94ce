-- What a value is read as, by the next token.
use Rattle.std.proofs.Common.{◌≡◌, ℕ, zero, suc, Bool, true, false, Err, refl}
use Rattle.graphql_ast.specs.in_literals.ValueTree.{ValueTree, EnumTree, VariableTree}
use Rattle.read_tokens.specs.Input.{Input, next}
use Rattle.read_grammar.specs.declared.parse_error.ParseError.TheVariants.{Unexpected}
use Rattle.read_grammar.specs.Meaning.{Meaning}
use Rattle.read_grammar.specs.Kinds.{next_is, is_dollar, is_int, is_float, is_string, is_boolean, is_null, is_enum_value, is_open_bracket, is_open_brace}
use Rattle.read_grammar.specs.Begins.{begins_value}
use Rattle.read_grammar.specs.Reading.{Parser, ◌<&>◌}
use Rattle.read_grammar.specs.ValueReading as v
use Rattle.read_grammar.proofs.Tests.{from_apart}
use Rattle.read_grammar.proofs.Values.{lacking}

module _ {P : Type 0} (m : Meaning P) where
  pub any_int : (c : Bool) (a b : Parser (ValueTree P)) (i : Input) → next_is is_int (next i) ≡ true → v.any_value m c a b i ≡ v.int_value m i
  unfolding v.any_value
  any_int c a b i h = rw (from_apart (next_is is_int) (next_is is_dollar) refl (next i) h, h) refl

  pub value_int : (c : Bool) (n : ℕ) (i : Input) → next_is is_int (next i) ≡ true → v.value m c n i ≡ v.int_value m i
  unfolding v.value
  value_int c zero i h = any_int c _ _ i h
  value_int c (suc n) i h = any_int c _ _ i h

  pub any_float : (c : Bool) (a b : Parser (ValueTree P)) (i : Input) → next_is is_float (next i) ≡ true → v.any_value m c a b i ≡ v.float_value m i
  unfolding v.any_value
  any_float c a b i h = rw (from_apart (next_is is_float) (next_is is_dollar) refl (next i) h, from_apart (next_is is_float) (next_is is_int) refl (next i) h, h) refl

  pub value_float : (c : Bool) (n : ℕ) (i : Input) → next_is is_float (next i) ≡ true → v.value m c n i ≡ v.float_value m i
  unfolding v.value
  value_float c zero i h = any_float c _ _ i h
  value_float c (suc n) i h = any_float c _ _ i h

  pub any_string : (c : Bool) (a b : Parser (ValueTree P)) (i : Input) → next_is is_string (next i) ≡ true → v.any_value m c a b i ≡ v.string_value m i
  unfolding v.any_value
  any_string c a b i h = rw (from_apart (next_is is_string) (next_is is_dollar) refl (next i) h, from_apart (next_is is_string) (next_is is_int) refl (next i) h, from_apart (next_is is_string) (next_is is_float) refl (next i) h, h) refl

  pub value_string : (c : Bool) (n : ℕ) (i : Input) → next_is is_string (next i) ≡ true → v.value m c n i ≡ v.string_value m i
  unfolding v.value
  value_string c zero i h = any_string c _ _ i h
  value_string c (suc n) i h = any_string c _ _ i h

  pub any_boolean : (c : Bool) (a b : Parser (ValueTree P)) (i : Input) → next_is is_boolean (next i) ≡ true → v.any_value m c a b i ≡ v.boolean_value m i
  unfolding v.any_value
  any_boolean c a b i h = rw (from_apart (next_is is_boolean) (next_is is_dollar) refl (next i) h, from_apart (next_is is_boolean) (next_is is_int) refl (next i) h, from_apart (next_is is_boolean) (next_is is_float) refl (next i) h, from_apart (next_is is_boolean) (next_is is_string) refl (next i) h, h) refl

  pub value_boolean : (c : Bool) (n : ℕ) (i : Input) → next_is is_boolean (next i) ≡ true → v.value m c n i ≡ v.boolean_value m i
  unfolding v.value
  value_boolean c zero i h = any_boolean c _ _ i h
  value_boolean c (suc n) i h = any_boolean c _ _ i h

  pub any_null : (c : Bool) (a b : Parser (ValueTree P)) (i : Input) → next_is is_null (next i) ≡ true → v.any_value m c a b i ≡ v.null_value m i
  unfolding v.any_value
  any_null c a b i h = rw (from_apart (next_is is_null) (next_is is_dollar) refl (next i) h, from_apart (next_is is_null) (next_is is_int) refl (next i) h, from_apart (next_is is_null) (next_is is_float) refl (next i) h, from_apart (next_is is_null) (next_is is_string) refl (next i) h, from_apart (next_is is_null) (next_is is_boolean) refl (next i) h, h) refl

  pub value_null : (c : Bool) (n : ℕ) (i : Input) → next_is is_null (next i) ≡ true → v.value m c n i ≡ v.null_value m i
  unfolding v.value
  value_null c zero i h = any_null c _ _ i h
  value_null c (suc n) i h = any_null c _ _ i h

  pub any_enum : (c : Bool) (a b : Parser (ValueTree P)) (i : Input) → next_is is_enum_value (next i) ≡ true → v.any_value m c a b i ≡ (EnumTree <&> v.enum_value m) i
  unfolding v.any_value
  any_enum c a b i h = rw (from_apart (next_is is_enum_value) (next_is is_dollar) refl (next i) h, from_apart (next_is is_enum_value) (next_is is_int) refl (next i) h, from_apart (next_is is_enum_value) (next_is is_float) refl (next i) h, from_apart (next_is is_enum_value) (next_is is_string) refl (next i) h, from_apart (next_is is_enum_value) (next_is is_boolean) refl (next i) h, from_apart (next_is is_enum_value) (next_is is_null) refl (next i) h, h) refl

  pub value_enum : (c : Bool) (n : ℕ) (i : Input) → next_is is_enum_value (next i) ≡ true → v.value m c n i ≡ (EnumTree <&> v.enum_value m) i
  unfolding v.value
  value_enum c zero i h = any_enum c _ _ i h
  value_enum c (suc n) i h = any_enum c _ _ i h

  pub any_none : (c : Bool) (a b : Parser (ValueTree P)) (i : Input) → lacking begins_value (next i) ≡ true → v.any_value m c a b i ≡ Err (Unexpected, i)
  unfolding v.any_value
  any_none c a b i h = rw (from_apart (lacking begins_value) (next_is is_dollar) refl (next i) h, from_apart (lacking begins_value) (next_is is_int) refl (next i) h, from_apart (lacking begins_value) (next_is is_float) refl (next i) h, from_apart (lacking begins_value) (next_is is_string) refl (next i) h, from_apart (lacking begins_value) (next_is is_boolean) refl (next i) h, from_apart (lacking begins_value) (next_is is_null) refl (next i) h, from_apart (lacking begins_value) (next_is is_enum_value) refl (next i) h, from_apart (lacking begins_value) (next_is is_open_bracket) refl (next i) h, from_apart (lacking begins_value) (next_is is_open_brace) refl (next i) h) refl

  -- no value begins so
  pub value_none : (c : Bool) (n : ℕ) (i : Input) → lacking begins_value (next i) ≡ true → v.value m c n i ≡ Err (Unexpected, i)
  unfolding v.value
  value_none c zero i h = any_none c _ _ i h
  value_none c (suc n) i h = any_none c _ _ i h

  pub any_variable : (a b : Parser (ValueTree P)) (i : Input) → next_is is_dollar (next i) ≡ true → v.any_value m false a b i ≡ (VariableTree <&> v.variable m) i
  unfolding v.any_value
  any_variable a b i h = rw h refl

  pub value_variable : (n : ℕ) (i : Input) → next_is is_dollar (next i) ≡ true → v.value m false n i ≡ (VariableTree <&> v.variable m) i
  unfolding v.value
  value_variable zero i h = any_variable _ _ i h
  value_variable (suc n) i h = any_variable _ _ i h

  pub any_constant : (a b : Parser (ValueTree P)) (i : Input) → next_is is_dollar (next i) ≡ true → v.any_value m true a b i ≡ Err (Unexpected, i)
  unfolding v.any_value
  any_constant a b i h = rw h refl

  -- a variable where none may be
  pub value_constant : (n : ℕ) (i : Input) → next_is is_dollar (next i) ≡ true → v.value m true n i ≡ Err (Unexpected, i)
  unfolding v.value
  value_constant zero i h = any_constant _ _ i h
  value_constant (suc n) i h = any_constant _ _ i h

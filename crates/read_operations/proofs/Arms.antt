-- Which form of value is read, by the next token.
use Rattle.std.proofs.Common.{◌≡◌, ℕ, zero, suc, ◌-◌, ◌<◌, ◌⊎◌, Bool, true, false, cond, Option, Some, None, Ok, Err, inl, inr, refl, sym, ap, ◌∙◌, arith}
use Rattle.tree_literals.specs.ValueTree.{ValueTree, BooleanTree}
use Rattle.read_tokens.specs.declared.terminal.Terminal.{Terminal}
use Rattle.read_tokens.specs.Cursor.{skipped}
use Rattle.read_tokens.specs.Input.{Input, next}
use Rattle.read_grammar.specs.declared.parse_error.ParseError.TheVariants.{Unexpected, Nesting}
use Rattle.read_grammar.specs.Meaning.{Meaning}
use Rattle.read_grammar.specs.Kinds.{next_is, is_dollar, is_int, is_float, is_string, is_boolean, is_true, is_false, is_null, is_enum_value, is_open_bracket, is_open_brace}
use Rattle.read_grammar.specs.Reading.{Parser, mark, refuse, too_deep, ◌<&>◌}
use Rattle.read_grammar.specs.ValueReading as v
use Rattle.read_grammar.proofs.Moves.{mark_yes, mark_no}
use Rattle.read_grammar.proofs.Opened.{value_above}
use Rattle.read_grammar.proofs.Tests.{from_apart}
use Rattle.read_operations.specs.Meanings.{variable_meant, begins_nested}

left_out : (x y : Bool) → cond x true y ≡ false → (x ≡ false) × (y ≡ false)
left_out false y h = (refl, h)
left_out true y h = absurd cc

no_bracket : (n : Option Terminal) → next_is begins_nested n ≡ false → next_is is_open_bracket n ≡ false
no_bracket None h = refl
no_bracket (Some kind) h = (left_out (is_open_bracket kind) (is_open_brace kind) h).0

no_brace : (n : Option Terminal) → next_is begins_nested n ≡ false → next_is is_open_brace n ≡ false
no_brace None h = refl
no_brace (Some kind) h = (left_out (is_open_bracket kind) (is_open_brace kind) h).1

one_in : (x y : Bool) → cond x true y ≡ true → (x ≡ true) ⊎ (y ≡ true)
one_in true y h = inl refl
one_in false y h = inr h

one_of : (n : Option Terminal) → next_is begins_nested n ≡ true → (next_is is_open_bracket n ≡ true) ⊎ (next_is is_open_brace n ≡ true)
one_of None h = absurd cc
one_of (Some kind) h = one_in (is_open_bracket kind) (is_open_brace kind) h

other_of : (n : Option Terminal) → next_is begins_nested n ≡ true → next_is is_open_bracket n ≡ false → next_is is_open_brace n ≡ true
other_of n h none = elim (one_of n h) [
  | inl b ↦ let both : true ≡ false = sym b ∙ none in absurd cc
  | inr b ↦ b
]

module _ {P : Type 0} (m : Meaning P) where
  pub any_dollar : (c : Bool) (a b : Parser (ValueTree P)) (i : Input) → next_is is_dollar (next i) ≡ true → v.any_value m c a b i ≡ variable_meant m c i
  unfolding v.any_value
  any_dollar c a b i h = rw h refl

  -- no value of one token, and no variable
  pub any_refused : (c : Bool) (i : Input) → next_is is_dollar (next i) ≡ false → next_is is_int (next i) ≡ false → next_is is_float (next i) ≡ false → next_is is_string (next i) ≡ false → next_is is_boolean (next i) ≡ false → next_is is_null (next i) ≡ false → next_is is_enum_value (next i) ≡ false → v.any_value m c refuse refuse i ≡ Err (Unexpected, i)
  unfolding v.any_value
  any_refused c i d n f s b z e = rw (d, n, f, s, b, z, e) (go (next_is is_open_bracket (next i)) (next_is is_open_brace (next i)))
    where
      go : (x y : Bool) → cond x (refuse {A = ValueTree P} i) (cond y (refuse i) (refuse i)) ≡ Err (Unexpected, i)
      go true y = refl
      go false true = refl
      go false false = refl

  any_plain : (c : Bool) (a b : Parser (ValueTree P)) (i : Input) → next_is begins_nested (next i) ≡ false → v.any_value m c a b i ≡ v.any_value m c refuse refuse i
  unfolding v.any_value
  any_plain c a b i h = rw (no_bracket (next i) h, no_brace (next i) h) refl

  -- neither a list nor an object
  pub value_plain : (c : Bool) (n : ℕ) (i : Input) → next_is begins_nested (next i) ≡ false → v.value m c n i ≡ v.any_value m c refuse refuse i
  unfolding v.value
  value_plain c zero i h = any_plain c _ _ i h
  value_plain c (suc n) i h = any_plain c _ _ i h

  any_bracket : (c : Bool) (a b : Parser (ValueTree P)) (i : Input) → next_is is_open_bracket (next i) ≡ true → v.any_value m c a b i ≡ a i
  unfolding v.any_value
  any_bracket c a b i h =
      rw (
        from_apart (next_is is_open_bracket) (next_is is_dollar) refl (next i) h,
        from_apart (next_is is_open_bracket) (next_is is_int) refl (next i) h,
        from_apart (next_is is_open_bracket) (next_is is_float) refl (next i) h,
        from_apart (next_is is_open_bracket) (next_is is_string) refl (next i) h,
        from_apart (next_is is_open_bracket) (next_is is_boolean) refl (next i) h,
        from_apart (next_is is_open_bracket) (next_is is_null) refl (next i) h,
        from_apart (next_is is_open_bracket) (next_is is_enum_value) refl (next i) h,
        h,
      ) refl

  any_brace : (c : Bool) (a b : Parser (ValueTree P)) (i : Input) → next_is is_open_brace (next i) ≡ true → v.any_value m c a b i ≡ b i
  unfolding v.any_value
  any_brace c a b i h =
      rw (
        from_apart (next_is is_open_brace) (next_is is_dollar) refl (next i) h,
        from_apart (next_is is_open_brace) (next_is is_int) refl (next i) h,
        from_apart (next_is is_open_brace) (next_is is_float) refl (next i) h,
        from_apart (next_is is_open_brace) (next_is is_string) refl (next i) h,
        from_apart (next_is is_open_brace) (next_is is_boolean) refl (next i) h,
        from_apart (next_is is_open_brace) (next_is is_null) refl (next i) h,
        from_apart (next_is is_open_brace) (next_is is_enum_value) refl (next i) h,
        from_apart (next_is is_open_brace) (next_is is_open_bracket) refl (next i) h,
        h,
      ) refl

  -- one bracket too many
  pub value_deep : (c : Bool) (n : ℕ) (i : Input) → n ≡ 0 → next_is begins_nested (next i) ≡ true → v.value m c n i ≡ Err (Nesting, i)
  unfolding v.value
  value_deep c zero i e h = elim (one_of (next i) h) [
    | inl b ↦ any_bracket c too_deep too_deep i b
    | inr b ↦ any_brace c too_deep too_deep i b
  ]
  value_deep c (suc n) i e h = absurd (omega (arith, e))

  pub value_list : (c : Bool) (n : ℕ) (i : Input) → 0 < n → next_is is_open_bracket (next i) ≡ true → v.value m c n i ≡ v.list_value m (v.value m c (n - 1)) i
  value_list c n i lt h = ap (λ (p : Parser (ValueTree P)). p i) (value_above m c n lt) ∙ any_bracket c _ _ i h

  pub value_object : (c : Bool) (n : ℕ) (i : Input) → 0 < n → next_is begins_nested (next i) ≡ true → next_is is_open_bracket (next i) ≡ false → v.value m c n i ≡ v.object_value m (v.value m c (n - 1)) i
  value_object c n i lt h none = ap (λ (p : Parser (ValueTree P)). p i) (value_above m c n lt) ∙ any_brace c _ _ i (other_of (next i) h none)

  -- ---- boolean values

  abbrev pub read_false : Parser (ValueTree P)
  read_false = (λ _. BooleanTree false) <&> mark is_false

  pub boolean_true : (i : Input) → next_is is_true (next i) ≡ true → v.boolean_value m i ≡ Ok (BooleanTree true, skipped i)
  unfolding v.boolean_value
  boolean_true i h = rw h (rw (mark_yes is_true i h) refl)

  pub boolean_false : (i : Input) → next_is is_true (next i) ≡ false → v.boolean_value m i ≡ read_false i
  unfolding v.boolean_value
  boolean_false i h = rw h (go (next_is is_false (next i)) refl)
    where
      go : (t : Bool) → next_is is_false (next i) ≡ t → cond t (read_false i) (Err (Unexpected, i)) ≡ read_false i
      go true e = refl
      go false e = rw (mark_no is_false i e) refl

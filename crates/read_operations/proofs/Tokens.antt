-- What the texts of tokens give, and what is read of them.
use Rattle.std.proofs.Common.{◌≡◌, ℕ, Bool, true, false, cond, List, [], ◌∷◌, Option, Some, None, Ok, Err, refl, sym, ap, ◌∙◌, subst}
use denote.Enum.Bare.{same_true}
use Rattle.read_tokens.specs.contracts.terminal.Terminal.{the_type}
use Rattle.graphql_names.specs.declared.span.FileId.{FileId}
use Rattle.graphql_names.specs.Placed.{Place, Text}
use Rattle.tree_literals.specs.ValueTree.{ValueTree, IntTree, FloatTree, StringTree}
use Rattle.tree_literals.specs.NumberSyntax.{IsIntValue, IsFloatValue}
use Rattle.read_tokens.specs.Blocks.{quotes, block_value}
use Rattle.read_tokens.specs.Strings.{string_value}
use Rattle.read_tokens.specs.Cursor.{skipped, text_of as first_text}
use Rattle.read_tokens.specs.Forms.{Enclosed, Taken, FormOf}
use Rattle.read_tokens.specs.Input.{Token, Input, next, next_of, past, end_of}
use Rattle.read_tokens.specs.declared.terminal.Terminal.{Terminal}
use Rattle.read_tokens.specs.declared.terminal.Terminal.TheVariants as t
use Rattle.read_tokens.proofs.NumberTokens.{int_text, float_text}
use Rattle.read_grammar.specs.declared.parse_error.ParseError.{ParseError}
use Rattle.read_grammar.specs.declared.parse_error.ParseError.TheVariants.{Unexpected}
use Rattle.read_grammar.specs.Kinds.{is, next_is, is_int, is_float, is_string}
use Rattle.read_grammar.specs.Meaning.{Meaning, begin_of, text_of}
use Rattle.read_grammar.specs.Places.{place_in}
use Rattle.read_grammar.specs.Reading.{Outcome, Parser, and_then, take_from, take, ◌<&>◌}
use Rattle.read_grammar.specs.TypeSystemReading as types
use Rattle.read_grammar.specs.ValueReading as v
use Rattle.read_grammar.proofs.Moves.{taken_yes, taken_no}
use Rattle.read_grammar.proofs.Tests.{from_subset}
use Rattle.read_operations.specs.Meanings.{in_file, string_by, string_of, string_meant}
use Rattle.read_operations.proofs.Numbers.{int_value, float_value}

abbrev pub is_block_string : Terminal → Bool
is_block_string = is t.BlockString

abbrev done : {A : Type 0} → A → Input → Outcome A
done x o = Ok (x, o)

-- ---- which token it is

is_same : (k kind : Terminal) → is k kind ≡ true → kind ≡ k
is_same k kind h = sym (same_true the_type tt k kind h)

-- ---- what the text of the next token is

pub next_is_int : (i : Input) (text : List ℕ) → next_is is_int (next i) ≡ true → FormOf (next i) text → IsIntValue text
next_is_int i text h f = go (next i) h f
  where
    go : (n : Option Terminal) → next_is is_int n ≡ true → FormOf n text → IsIntValue text
    go None h f = absurd cc
    go (Some kind) h f = int_value text (int_text text (subst (λ (x : Terminal). Taken x text) (is_same t.Int kind h) f.1))

pub next_is_float : (i : Input) (text : List ℕ) → next_is is_float (next i) ≡ true → FormOf (next i) text → IsFloatValue text
next_is_float i text h f = go (next i) h f
  where
    go : (n : Option Terminal) → next_is is_float n ≡ true → FormOf n text → IsFloatValue text
    go None h f = absurd cc
    go (Some kind) h f = float_value text (float_text text (subst (λ (x : Terminal). Taken x text) (is_same t.Float kind h) f.1))

pub next_is_quoted : (i : Input) (text : List ℕ) → next_is (is t.String) (next i) ≡ true → FormOf (next i) text → Enclosed (34 ∷ []) text
next_is_quoted i text h f = go (next i) h f
  where
    go : (n : Option Terminal) → next_is (is t.String) n ≡ true → FormOf n text → Enclosed (34 ∷ []) text
    go None h f = absurd cc
    go (Some kind) h f = f.0.string (is_same t.String kind h)

pub next_is_block : (i : Input) (text : List ℕ) → next_is is_block_string (next i) ≡ true → FormOf (next i) text → Enclosed quotes text
next_is_block i text h f = go (next i) h f
  where
    go : (n : Option Terminal) → next_is is_block_string n ≡ true → FormOf n text → Enclosed quotes text
    go None h f = absurd cc
    go (Some kind) h f = f.0.block (is_same t.BlockString kind h)

-- ---- what is read of it

module _ {P : Type 0} (m : Meaning P) where
  pub int_refused : (i : Input) → next_is is_int (next i) ≡ false → v.int_value m i ≡ Err (Unexpected, i)
  unfolding v.int_value
  int_refused i h = taken_no (λ t. IntTree t.text) is_int i h

  pub int_taken : (i new : Input) (text : List ℕ) → next_is is_int (next i) ≡ true → new ≡ skipped i → text ≡ first_text i.ahead → v.int_value m i ≡ Ok (IntTree text, new)
  unfolding v.int_value
  int_taken i new text h following e = taken_yes (λ t. IntTree t.text) is_int i (IntTree text) h (λ t ts at. ap (λ (x : List ℕ). IntTree x) (e ∙ ap first_text at)) ∙ ap (λ (z : Input). done (IntTree text) z) (sym following)

  pub float_refused : (i : Input) → next_is is_float (next i) ≡ false → v.float_value m i ≡ Err (Unexpected, i)
  unfolding v.float_value
  float_refused i h = taken_no (λ t. FloatTree t.text) is_float i h

  pub float_taken : (i new : Input) (text : List ℕ) → next_is is_float (next i) ≡ true → new ≡ skipped i → text ≡ first_text i.ahead → v.float_value m i ≡ Ok (FloatTree text, new)
  unfolding v.float_value
  float_taken i new text h following e = taken_yes (λ t. FloatTree t.text) is_float i (FloatTree text) h (λ t ts at. ap (λ (x : List ℕ). FloatTree x) (e ∙ ap first_text at)) ∙ ap (λ (z : Input). done (FloatTree text) z) (sym following)

  -- what a function makes of what is read, made by another
  again : {A B : Type 0} (f : Token → A) (g : A → B) (i : Input) → (g <&> (f <&> take is_string)) i ≡ ((λ t. g (f t)) <&> take is_string) i
  again f g i = go (take is_string i)
    where
      go : (y : Outcome Token) → and_then (and_then y (λ x o. done (f x) o)) (λ x o. done (g x) o) ≡ and_then y (λ x o. done (g (f x)) o)
      go (Ok z) = refl
      go (Err e) = refl

-- a string as a value is the text for which it stands
pub string_value_is : (file : FileId) (i : Input) → v.string_value (in_file file) i ≡ ((λ bytes. StringTree bytes) <&> string_meant) i
unfolding v.string_value
string_value_is file i = sym (again (in_file file) string_of (λ bytes. StringTree bytes) i)

pub quoted_taken : (i new : Input) (bytes : List ℕ) → next_is (is t.String) (next i) ≡ true → new ≡ skipped i → bytes ≡ string_value (first_text i.ahead) → string_meant i ≡ Ok (bytes, new)
quoted_taken i new bytes h following e = taken_yes string_of is_string i bytes (from_subset (next_is (is t.String)) (next_is is_string) refl (next i) h) (λ u us at. e ∙ ap (λ (ts : List Token). string_value (first_text ts)) at ∙ made u (ap next_of at) h) ∙ ap (λ (z : Input). done bytes z) (sym following)
  where
    made : (u : Token) → next i ≡ Some u.kind → next_is (is t.String) (next i) ≡ true → string_value u.text ≡ string_of u
    made u at h = let kind : u.kind ≡ t.String = is_same t.String u.kind (sym (ap (next_is (is t.String)) at) ∙ h) in sym (ap (λ (x : Terminal). string_by x u.text) kind)

pub block_taken : (i new : Input) (bytes : List ℕ) → next_is is_block_string (next i) ≡ true → new ≡ skipped i → bytes ≡ block_value (first_text i.ahead) → string_meant i ≡ Ok (bytes, new)
block_taken i new bytes h following e = taken_yes string_of is_string i bytes (from_subset (next_is is_block_string) (next_is is_string) refl (next i) h) (λ u us at. e ∙ ap (λ (ts : List Token). block_value (first_text ts)) at ∙ made u (ap next_of at) h) ∙ ap (λ (z : Input). done bytes z) (sym following)
  where
    made : (u : Token) → next i ≡ Some u.kind → next_is is_block_string (next i) ≡ true → block_value u.text ≡ string_of u
    made u at h = let kind : u.kind ≡ t.BlockString = is_same t.BlockString u.kind (sym (ap (next_is is_block_string) at) ∙ h) in sym (ap (λ (x : Terminal). string_by x u.text) kind)

pub string_refused : (i : Input) → next_is (is t.String) (next i) ≡ false → next_is is_block_string (next i) ≡ false → string_meant i ≡ Err (Unexpected, i)
string_refused i a b = taken_no string_of is_string i (go (next i) a b)
  where
    go : (n : Option Terminal) → next_is (is t.String) n ≡ false → next_is is_block_string n ≡ false → next_is is_string n ≡ false
    go None a b = refl
    go (Some kind) a b = rw (a, b) refl

-- ---- a description

abbrev described : FileId → ℕ → Outcome (List ℕ) → Outcome (Text Place)
described file begin y = and_then y (λ bytes o. done (record { it = bytes; place = place_in file.0 begin o.last }) o)

-- a description is a string with its place
pub description_is : (file : FileId) (i : Input) → types.description (in_file file) i ≡ described file (begin_of i.ahead) (string_meant i)
unfolding types.description take
description_is file i = go i.ahead
  where
    by_test : (u : Token) (us : List Token) (b : Bool) → and_then {A = Token} (cond b (Ok (u, past i u us)) (Err (Unexpected, i))) (λ x o. done (text_of (in_file file) x) o) ≡ described file u.offset (and_then {A = Token} (cond b (Ok (u, past i u us)) (Err (Unexpected, i))) (λ x o. done (string_of x) o))
    by_test u us true = refl
    by_test u us false = refl

    go : (ts : List Token) → and_then (take_from is_string i ts) (λ x o. done (text_of (in_file file) x) o) ≡ described file (begin_of ts) (and_then (take_from is_string i ts) (λ x o. done (string_of x) o))
    go [] = refl
    go (u ∷ us) = by_test u us (is_string u.kind)

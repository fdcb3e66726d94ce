-- Strings are read as they are printed.
use Rattle.std.proofs.Common.{◌≡◌, ℕ, Bool, true, false, not, ◌==◌, ◌&&◌, ◌||◌, List, [], ◌∷◌, Some, None, refl, ap, ◌∙◌, inl, inr}
use Rattle.round_trip.specs.in_literals.LineLayout.{Prefix}
use Rattle.round_trip.specs.in_literals.StringLayout.{quoted_text, description_string}
use Rattle.read_operations.specs.in_tokens.Bytes.{begins_with}
use Rattle.read_operations.specs.in_tokens.Strings.{string_value}
use Rattle.read_operations.specs.in_tokens.Blocks.{block_value}
use Rattle.read_operations.specs.in_tokens.Numbers.{goes_on}
use Rattle.read_operations.specs.in_tokens.Input.{Token}
use Rattle.read_operations.specs.in_tokens.declared.terminal.Terminal.{Terminal}
use Rattle.read_operations.specs.in_tokens.declared.terminal.Terminal.TheVariants as k
use Rattle.read_operations.specs.in_tokens.declared.token.TokenKind.TheVariants as t
use Rattle.read_operations.specs.Meanings.{string_by, string_of}
use Rattle.round_trip.specs.Readings.{IsReadAs, MayFollow, IsWhitePrefix}
use Rattle.round_trip.proofs.Quoted.{quoted_value, quoted_is_token}
use Rattle.round_trip.proofs.Descriptions.{description_is_read}
use Rattle.round_trip.specs.Printed.{ends_word}
use Rattle.round_trip.specs.WellFormed.{is_white_prefix}
use Rattle.round_trip.specs.Literals.{IsStringToken, StringsRead}

-- no quotation mark follows a word
may_follow : (text following : List ℕ) → ends_word following ≡ true → MayFollow text following
may_follow text [] h e = refl
may_follow text (b ∷ following) h e = go (goes_on b) (b == 34) h
  where
    go : (x y : Bool) → not (x || y) ≡ true → (y && begins_with [] following) ≡ false
    go x false h = refl
    go true true h = absurd cc
    go false true h = absurd cc

white_prefix : (prefix : Prefix) → is_white_prefix prefix ≡ true → IsWhitePrefix prefix
white_prefix None h = tt
white_prefix (Some prefix) h = h

quoted_stands_for : (text : List ℕ) (token : Token) → token.kind ≡ k.String → token.text ≡ quoted_text text → string_of token ≡ text
quoted_stands_for text token kind is = ap (λ (l : Terminal). string_by l token.text) kind ∙ ap string_value is ∙ quoted_value text

string_token : (printed text following : List ℕ) → IsReadAs printed text following → IsStringToken string_of printed text following
string_token printed text following (inl read) = record {
  kind = t.String;
  is = refl;
  token = read.0;
  stands_for = λ token kind is. ap (λ (l : Terminal). string_by l token.text) kind ∙ ap string_value is ∙ read.1;
}
string_token printed text following (inr read) = record {
  kind = t.BlockString;
  is = refl;
  token = read.0;
  stands_for = λ token kind is. ap (λ (l : Terminal). string_by l token.text) kind ∙ ap block_value is ∙ read.1;
}

pub strings_read : StringsRead string_of
strings_read = record {
  quoted = λ text following fine. quoted_is_token text following (may_follow text following fine);
  stands_for = quoted_stands_for;
  described = λ prefix level text following white fine.
      string_token (description_string prefix level text) text following
      (description_is_read prefix level text following (white_prefix prefix white) (may_follow text following fine));
}

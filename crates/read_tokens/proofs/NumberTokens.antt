-- The texts of Int and Float tokens that a `TokenCursor` gives are numbers.
use Rattle.std.proofs.Common.{◌≡◌, ℕ, Bool, true, false, cond, ◌||◌, ◌==◌, List, [], ◌∷◌, length, take, Option, Some, None, refl, sym, ap, ◌∙◌, subst, inl, inr}
use Rattle.std.specs.List.{prefix_len}
use Rattle.std.specs.Char.{is_ascii_digit}
use Rattle.graphql_names.specs.NameSyntax.{is_name_start, is_name_continue}
use Rattle.read_tokens.specs.Bytes.{begins_with}
use Rattle.read_tokens.specs.Numbers.{number_at}
use Rattle.read_tokens.specs.Strings.{quoted_len}
use Rattle.read_tokens.specs.Blocks.{quotes, block_len}
use Rattle.read_tokens.specs.Tokens.{punctuator, one_byte, of_kind, string_at, token_at}
use Rattle.read_tokens.specs.Terminals.{words, spelled, terminal_of}
use Rattle.read_tokens.specs.Forms.{Taken}
use Rattle.read_tokens.specs.declared.token.TokenKind.{TokenKind}
use Rattle.read_tokens.specs.declared.token.TokenKind.TheVariants as k
use Rattle.read_tokens.specs.declared.token.TokenKind.TheVariants.{Name, Bang, Dollar, Ampersand, OpenParen, CloseParen, Spread, Colon, Equals, At, OpenBracket, CloseBracket, OpenBrace, Pipe, CloseBrace, Int, Float, String, BlockString}
use Rattle.read_tokens.specs.declared.terminal.Terminal.TheVariants as t
use Rattle.read_tokens.proofs.Choices.{some_if, choice, same_some}
use Rattle.read_tokens.proofs.Ends.{one_byte_is}
use Rattle.read_tokens.proofs.Forms.{spelled_word, not_word}
use Rattle.read_tokens.proofs.NumberTexts.{NumberText, number_text}

abbrev is_number : TokenKind → Bool
is_number Name = false
is_number Bang = false
is_number Dollar = false
is_number Ampersand = false
is_number OpenParen = false
is_number CloseParen = false
is_number Spread = false
is_number Colon = false
is_number Equals = false
is_number At = false
is_number OpenBracket = false
is_number CloseBracket = false
is_number OpenBrace = false
is_number Pipe = false
is_number CloseBrace = false
is_number Int = true
is_number Float = true
is_number String = false
is_number BlockString = false

not_both : (b : Bool) → b ≡ true → b ≡ false → ⊥
not_both b yea nay = let both : true ≡ false = sym yea ∙ nay in absurd cc

punctuator_no_number : (b : ℕ) (kind : TokenKind) → punctuator b ≡ Some kind → is_number kind ≡ false
punctuator_no_number b kind h0 = elim (some_if (b == 33) k.Bang kind _ h0) [
  | inl e ↦ ap is_number (sym e.1)
  | inr h1 ↦ elim (some_if (b == 36) k.Dollar kind _ h1) [
    | inl e ↦ ap is_number (sym e.1)
    | inr h2 ↦ elim (some_if (b == 38) k.Ampersand kind _ h2) [
      | inl e ↦ ap is_number (sym e.1)
      | inr h3 ↦ elim (some_if (b == 40) k.OpenParen kind _ h3) [
        | inl e ↦ ap is_number (sym e.1)
        | inr h4 ↦ elim (some_if (b == 41) k.CloseParen kind _ h4) [
          | inl e ↦ ap is_number (sym e.1)
          | inr h5 ↦ elim (some_if (b == 58) k.Colon kind _ h5) [
            | inl e ↦ ap is_number (sym e.1)
            | inr h6 ↦ elim (some_if (b == 61) k.Equals kind _ h6) [
              | inl e ↦ ap is_number (sym e.1)
              | inr h7 ↦ elim (some_if (b == 64) k.At kind _ h7) [
                | inl e ↦ ap is_number (sym e.1)
                | inr h8 ↦ elim (some_if (b == 91) k.OpenBracket kind _ h8) [
                  | inl e ↦ ap is_number (sym e.1)
                  | inr h9 ↦ elim (some_if (b == 93) k.CloseBracket kind _ h9) [
                    | inl e ↦ ap is_number (sym e.1)
                    | inr h10 ↦ elim (some_if (b == 123) k.OpenBrace kind _ h10) [
                      | inl e ↦ ap is_number (sym e.1)
                      | inr h11 ↦ elim (some_if (b == 124) k.Pipe kind _ h11) [
                        | inl e ↦ ap is_number (sym e.1)
                        | inr h12 ↦ elim (some_if (b == 125) k.CloseBrace kind _ h12) [
                          | inl e ↦ ap is_number (sym e.1)
                          | inr h13 ↦ absurd cc
                        ]
                      ]
                    ]
                  ]
                ]
              ]
            ]
          ]
        ]
      ]
    ]
  ]
]

of_kind_same : (kind : TokenKind) (o : Option ℕ) (u : TokenKind × ℕ) → of_kind kind o ≡ Some u → kind ≡ u.0
of_kind_same kind None u h = absurd cc
of_kind_same kind (Some n) u h = ap (λ (v : TokenKind × ℕ). v.0) (same_some (kind, n) u h)

string_no_number : (bytes : List ℕ) (token : TokenKind × ℕ) → string_at bytes ≡ Some token → is_number token.0 ≡ false
unfolding string_at
string_no_number bytes token h = elim (choice (begins_with quotes bytes) (of_kind k.BlockString (block_len bytes)) (of_kind k.String (quoted_len bytes)) token h) [
  | inl e ↦ ap is_number (sym (of_kind_same k.BlockString (block_len bytes) token e.1))
  | inr e ↦ ap is_number (sym (of_kind_same k.String (quoted_len bytes) token e))
]

number_found : (bytes : List ℕ) (token : TokenKind × ℕ) → token_at bytes ≡ Some token → is_number token.0 ≡ true → number_at bytes ≡ Some token
unfolding token_at
number_found [] token h number = absurd cc
number_found (b ∷ bytes) token h number = elim (some_if (is_name_start b) (k.Name, prefix_len is_name_continue (b ∷ bytes)) token _ h) [
  | inl e ↦ absurd (not_both (is_number token.0) number (ap is_number (sym (ap (λ (u : TokenKind × ℕ). u.0) e.1))))
  | inr h ↦ elim (choice (b == 45 || is_ascii_digit b) (number_at (b ∷ bytes)) _ token h) [
    | inl e ↦ e.1
    | inr h ↦ elim (choice (b == 34) (string_at (b ∷ bytes)) _ token h) [
      | inl e ↦ absurd (not_both (is_number token.0) number (string_no_number (b ∷ bytes) token e.1))
      | inr h ↦ elim (choice (b == 46) (cond (begins_with (46 ∷ 46 ∷ []) bytes) (Some (k.Spread, 3)) None) (one_byte (punctuator b)) token h) [
        | inl e ↦ elim (some_if (begins_with (46 ∷ 46 ∷ []) bytes) (k.Spread, 3) token None e.1) [
          | inl f ↦ absurd (not_both (is_number token.0) number (ap is_number (sym (ap (λ (u : TokenKind × ℕ). u.0) f.1))))
          | inr f ↦ absurd cc
        ]
        | inr h ↦ absurd (not_both (is_number token.0) number (punctuator_no_number b token.0 (one_byte_is (punctuator b) token h).0))
      ]
    ]
  ]
]

int_kind : (kind : TokenKind) (text : List ℕ) → t.Int ≡ terminal_of kind text → kind ≡ k.Int
int_kind Name text h = absurd (not_word (spelled words text) t.Int (spelled_word text) refl (sym h))
int_kind Bang text h = absurd cc
int_kind Dollar text h = absurd cc
int_kind Ampersand text h = absurd cc
int_kind OpenParen text h = absurd cc
int_kind CloseParen text h = absurd cc
int_kind Spread text h = absurd cc
int_kind Colon text h = absurd cc
int_kind Equals text h = absurd cc
int_kind At text h = absurd cc
int_kind OpenBracket text h = absurd cc
int_kind CloseBracket text h = absurd cc
int_kind OpenBrace text h = absurd cc
int_kind Pipe text h = absurd cc
int_kind CloseBrace text h = absurd cc
int_kind Int text h = refl
int_kind Float text h = absurd cc
int_kind String text h = absurd cc
int_kind BlockString text h = absurd cc

float_kind : (kind : TokenKind) (text : List ℕ) → t.Float ≡ terminal_of kind text → kind ≡ k.Float
float_kind Name text h = absurd (not_word (spelled words text) t.Float (spelled_word text) refl (sym h))
float_kind Bang text h = absurd cc
float_kind Dollar text h = absurd cc
float_kind Ampersand text h = absurd cc
float_kind OpenParen text h = absurd cc
float_kind CloseParen text h = absurd cc
float_kind Spread text h = absurd cc
float_kind Colon text h = absurd cc
float_kind Equals text h = absurd cc
float_kind At text h = absurd cc
float_kind OpenBracket text h = absurd cc
float_kind CloseBracket text h = absurd cc
float_kind OpenBrace text h = absurd cc
float_kind Pipe text h = absurd cc
float_kind CloseBrace text h = absurd cc
float_kind Int text h = absurd cc
float_kind Float text h = refl
float_kind String text h = absurd cc
float_kind BlockString text h = absurd cc

text_of_number : (kind : TokenKind) (bytes text : List ℕ) → is_number kind ≡ true → token_at bytes ≡ Some (kind, length text) → text ≡ take (length text) bytes → NumberText kind text
text_of_number kind bytes text number found front = subst (NumberText kind) (sym front) (number_text bytes kind (length text) (number_found bytes (kind, length text) found number))

-- the text of an Int token
pub int_text : (text : List ℕ) → Taken t.Int text → NumberText k.Int text
int_text text taken =
    let kind : taken.kind ≡ k.Int = int_kind taken.kind text taken.is in
    let found : token_at taken.bytes ≡ Some (k.Int, length text) = taken.found ∙ ap (λ (l : TokenKind). Some (l, length text)) kind in
    text_of_number k.Int taken.bytes text refl found taken.front

-- the text of a Float token
pub float_text : (text : List ℕ) → Taken t.Float text → NumberText k.Float text
float_text text taken =
    let kind : taken.kind ≡ k.Float = float_kind taken.kind text taken.is in
    let found : token_at taken.bytes ≡ Some (k.Float, length text) = taken.found ∙ ap (λ (l : TokenKind). Some (l, length text)) kind in
    text_of_number k.Float taken.bytes text refl found taken.front

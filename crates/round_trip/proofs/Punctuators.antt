-- Each punctuator is read as it is printed, whatever follows it.
use Rattle.std.proofs.Common.{◌≡◌, [], ◌∷◌, refl}
use Rattle.read_operations.specs.in_tokens.declared.token.TokenKind.TheVariants as t
use Rattle.read_operations.specs.in_tokens.Tokens.{ignored_at, token_at}
use Rattle.read_operations.specs.in_tokens.Lex.{piece_at}
use Rattle.read_operations.specs.in_grammar.Kinds.{is_bang, is_dollar, is_ampersand, is_open_paren, is_close_paren, is_spread, is_colon, is_equals, is_at, is_open_bracket, is_close_bracket, is_open_brace, is_pipe, is_close_brace}
use Rattle.read_operations.specs.in_grammar.Rules.{mark}
use Rattle.round_trip.specs.Printed.{any, Printed}
use Rattle.round_trip.proofs.Tokens.{marked}

pub bang : Printed (mark is_bang) (λ x. x ≡ tt) any (33 ∷ [])
unfolding piece_at ignored_at token_at
bang = marked is_bang t.Bang (33 ∷ []) any (λ following fine. refl) refl

pub dollar : Printed (mark is_dollar) (λ x. x ≡ tt) any (36 ∷ [])
unfolding piece_at ignored_at token_at
dollar = marked is_dollar t.Dollar (36 ∷ []) any (λ following fine. refl) refl

pub ampersand : Printed (mark is_ampersand) (λ x. x ≡ tt) any (38 ∷ [])
unfolding piece_at ignored_at token_at
ampersand = marked is_ampersand t.Ampersand (38 ∷ []) any (λ following fine. refl) refl

pub open_paren : Printed (mark is_open_paren) (λ x. x ≡ tt) any (40 ∷ [])
unfolding piece_at ignored_at token_at
open_paren = marked is_open_paren t.OpenParen (40 ∷ []) any (λ following fine. refl) refl

pub close_paren : Printed (mark is_close_paren) (λ x. x ≡ tt) any (41 ∷ [])
unfolding piece_at ignored_at token_at
close_paren = marked is_close_paren t.CloseParen (41 ∷ []) any (λ following fine. refl) refl

pub spread : Printed (mark is_spread) (λ x. x ≡ tt) any (46 ∷ 46 ∷ 46 ∷ [])
unfolding piece_at ignored_at token_at
spread = marked is_spread t.Spread (46 ∷ 46 ∷ 46 ∷ []) any (λ following fine. refl) refl

pub colon : Printed (mark is_colon) (λ x. x ≡ tt) any (58 ∷ [])
unfolding piece_at ignored_at token_at
colon = marked is_colon t.Colon (58 ∷ []) any (λ following fine. refl) refl

pub equals : Printed (mark is_equals) (λ x. x ≡ tt) any (61 ∷ [])
unfolding piece_at ignored_at token_at
equals = marked is_equals t.Equals (61 ∷ []) any (λ following fine. refl) refl

pub at : Printed (mark is_at) (λ x. x ≡ tt) any (64 ∷ [])
unfolding piece_at ignored_at token_at
at = marked is_at t.At (64 ∷ []) any (λ following fine. refl) refl

pub open_bracket : Printed (mark is_open_bracket) (λ x. x ≡ tt) any (91 ∷ [])
unfolding piece_at ignored_at token_at
open_bracket = marked is_open_bracket t.OpenBracket (91 ∷ []) any (λ following fine. refl) refl

pub close_bracket : Printed (mark is_close_bracket) (λ x. x ≡ tt) any (93 ∷ [])
unfolding piece_at ignored_at token_at
close_bracket = marked is_close_bracket t.CloseBracket (93 ∷ []) any (λ following fine. refl) refl

pub open_brace : Printed (mark is_open_brace) (λ x. x ≡ tt) any (123 ∷ [])
unfolding piece_at ignored_at token_at
open_brace = marked is_open_brace t.OpenBrace (123 ∷ []) any (λ following fine. refl) refl

pub pipe : Printed (mark is_pipe) (λ x. x ≡ tt) any (124 ∷ [])
unfolding piece_at ignored_at token_at
pipe = marked is_pipe t.Pipe (124 ∷ []) any (λ following fine. refl) refl

pub close_brace : Printed (mark is_close_brace) (λ x. x ≡ tt) any (125 ∷ [])
unfolding piece_at ignored_at token_at
close_brace = marked is_close_brace t.CloseBrace (125 ∷ []) any (λ following fine. refl) refl

-- Tokens as they are printed: punctuators, names, keywords.
use Rattle.std.proofs.Common.{◌≡◌, ℕ, ◌+◌, Bool, true, false, cond, not, ◌||◌, ◌==◌, List, [], ◌∷◌, ◌++◌, length, take, drop, Option, Some, None, refl, sym, ap, subst, ◌∙◌, one-add, eqb-true}
use Rattle.std.specs.List.{list_all, prefix_len}
use Rattle.std.specs.Str.{bytes_eq}
use Rattle.std.proofs.lemmas.Bool.{and_parts}
use Rattle.graphql_names.specs.NameSyntax as names
use Rattle.graphql_names.specs.NameSyntax.{is_name_start, is_name_continue}
use Rattle.graphql_names.specs.Placed.{Text}
use Rattle.read_operations.specs.in_tokens.declared.terminal.Terminal.{Terminal}
use Rattle.read_operations.specs.in_tokens.declared.terminal.Terminal.TheVariants as k
use Rattle.read_operations.specs.in_tokens.declared.token.TokenKind.{TokenKind}
use Rattle.read_operations.specs.in_tokens.declared.token.TokenKind.TheVariants as t
use Rattle.read_operations.specs.in_tokens.Bytes.{begins_by}
use Rattle.read_operations.specs.in_tokens.Input.{Token}
use Rattle.read_operations.specs.in_tokens.Tokens.{ignored_at, token_at}
use Rattle.read_operations.specs.in_tokens.Terminals.{Word, words, spelled, terminal_of}
use Rattle.read_operations.specs.in_tokens.Lex.{Piece, piece_at, ArePieces}
use Rattle.read_operations.specs.in_grammar.Meaning.{Meaning, name_of}
use Rattle.read_operations.specs.in_grammar.Kinds.{is_name}
use Rattle.read_operations.specs.in_grammar.Rules.{one, mark, ◌<$>◌}
use Rattle.read_operations.specs.in_grammar.ValueGrammar.{name}
use Rattle.round_trip.specs.Printed.{Follow, ends_word, LexesAt, PrintedBefore, Printed}
use Rattle.round_trip.proofs.Sequences.{mapped}

-- ---- one token

-- the piece of a token
abbrev pub token_piece : TokenKind → List ℕ → Piece
token_piece kind text = record { kind = Some kind; length = length text }

pub take_front : (text following : List ℕ) → take (length text) (text ++ following) ≡ text
take_front [] following = refl
take_front (b ∷ text) following = ap (λ (l : List ℕ). b ∷ l) (take_front text following)

pub drop_front : (text following : List ℕ) → drop (length text) (text ++ following) ≡ following
drop_front [] following = refl
drop_front (b ∷ text) following = drop_front text following

-- what is said of a token
abbrev pub IsToken : TokenKind → List ℕ → Token → Type 0
IsToken kind text token = (token.kind ≡ terminal_of kind text) × (token.text ≡ text)

-- a text that is one piece, a token's, before what follows it
pub token_here : (is : Terminal → Bool) (kind : TokenKind) (text following : List ℕ) (at : ℕ) (others : List Token) → piece_at (text ++ following) ≡ Some (token_piece kind text) → is (terminal_of kind text) ≡ true → LexesAt (at + length text) following others
    → PrintedBefore (one is) (IsToken kind text) text following at others
token_here is kind text following at others piece passes lexed =
    let this : Token = record { kind = terminal_of kind text; text = text; offset = at } in
    record {
      tokens = this ∷ others;
      lexed = record {
        pieces = token_piece kind text ∷ lexed.pieces;
        are = (piece, subst (λ (l : List ℕ). ArePieces lexed.pieces l []) (sym (drop_front text following)) lexed.are);
        found = rw (take_front text following) (rw (drop_front text following) (ap (λ (l : List Token). this ∷ l) lexed.found));
      };
      reads = λ ending last. record { tree = this; end = at + length text; read = (passes, (others, refl, refl)); said = (refl, refl) };
    }

-- the same before all that follows it
pub token : (is : Terminal → Bool) (kind : TokenKind) (text : List ℕ) (f : Follow) → ((following : List ℕ) → f following ≡ true → piece_at (text ++ following) ≡ Some (token_piece kind text)) → is (terminal_of kind text) ≡ true → Printed (one is) (IsToken kind text) f text
token is kind text f pieces passes = record { stands = λ following at others fine lexed. token_here is kind text following at others (pieces following fine) passes lexed }

-- a token that says nothing more
pub marked : (is : Terminal → Bool) (kind : TokenKind) (text : List ℕ) (f : Follow) → ((following : List ℕ) → f following ≡ true → piece_at (text ++ following) ≡ Some (token_piece kind text)) → is (terminal_of kind text) ≡ true → Printed (mark is) (λ x. x ≡ tt) f text
marked is kind text f pieces passes = mapped (λ _. tt) (λ x. x ≡ tt) (λ x said. refl) (token is kind text f pieces passes)

-- ---- names

-- where one passes and the other does not, they are two
apart_from : (p : ℕ → Bool) (c b : ℕ) → p b ≡ false → p c ≡ true → (c == b) ≡ false
apart_from p c b nay yea = go (c == b) refl
  where
    go : (same : Bool) → (c == b) ≡ same → same ≡ false
    go false e = refl
    go true e = let both : true ≡ false = sym yea ∙ ap p (eqb-true c b e) ∙ nay in absurd cc

pub nothing_ignored : (c : ℕ) (bytes : List ℕ) → is_name_start c ≡ true → ignored_at (c ∷ bytes) ≡ None
unfolding ignored_at
nothing_ignored c bytes h =
    rw (apart_from is_name_start c 9 refl h) (rw (apart_from is_name_start c 32 refl h) (rw (apart_from is_name_start c 10 refl h) (rw (apart_from is_name_start c 44 refl h)
    (rw (apart_from is_name_start c 13 refl h) (rw (apart_from is_name_start c 35 refl h) (rw (apart_from is_name_start c 239 refl h) refl))))))

abbrev is_token : Option (TokenKind × ℕ) → Bool
is_token None = false
is_token (Some x) = true

-- where a token begins nothing is ignored
token_not_ignored : (bytes : List ℕ) (x : TokenKind × ℕ) → token_at bytes ≡ Some x → ignored_at bytes ≡ None
unfolding token_at ignored_at
token_not_ignored [] x h = absurd cc
token_not_ignored (c ∷ bytes) x h =
    let begins : ℕ → Bool = λ (b : ℕ). is_token (token_at (b ∷ bytes)) in
    let yea : begins c ≡ true = ap is_token h in
    rw (apart_from begins c 9 refl yea) (rw (apart_from begins c 32 refl yea) (rw (apart_from begins c 10 refl yea) (rw (apart_from begins c 44 refl yea)
    (rw (apart_from begins c 13 refl yea) (rw (apart_from begins c 35 refl yea) (rw (apart_from begins c 239 refl yea) refl))))))

-- a token is a piece
pub token_is_piece : (kind : TokenKind) (text following : List ℕ) → token_at (text ++ following) ≡ Some (kind, length text) → piece_at (text ++ following) ≡ Some (token_piece kind text)
unfolding piece_at
token_is_piece kind text following h = rw (token_not_ignored (text ++ following) (kind, length text) h) (rw h refl)

-- no name character follows a word
pub word_ends : (following : List ℕ) → ends_word following ≡ true → begins_by is_name_continue following ≡ false
word_ends [] h = refl
word_ends (b ∷ following) h = (no_or_twice (is_name_continue b) (b == 46) (b == 34) h)
  where
    no_or_twice : (x y z : Bool) → not ((x || y) || z) ≡ true → x ≡ false
    no_or_twice true y z e = absurd cc
    no_or_twice false y z e = refl

-- all of a text that passes, and nothing of what follows it
pub whole_run : (p : ℕ → Bool) (text following : List ℕ) → list_all p text ≡ true → begins_by p following ≡ false → prefix_len p (text ++ following) ≡ length text
whole_run p [] [] all none = refl
whole_run p [] (b ∷ following) all none = rw none refl
whole_run p (c ∷ text) following all none =
    let (this, others) = and_parts (p c) (list_all p text) all in
    let more : prefix_len p (text ++ following) ≡ length text = whole_run p text following others none in
    rw this (ap (λ (n : ℕ). 1 + n) more ∙ one-add (length text))

abbrev piece_of_length : ℕ → Piece
piece_of_length n = record { kind = Some t.Name; length = n }

name_pieces : (text following : List ℕ) → names.is_name text ≡ true → ends_word following ≡ true → piece_at (text ++ following) ≡ Some (token_piece t.Name text)
unfolding piece_at token_at
name_pieces [] following h fine = absurd cc
name_pieces (c ∷ text) following h fine =
    let (start, others) = and_parts (is_name_start c) (list_all is_name_continue text) h in
    let size : 1 + prefix_len is_name_continue (text ++ following) ≡ length (c ∷ text) = ap (λ (n : ℕ). 1 + n) (whole_run is_name_continue text following others (word_ends following fine)) ∙ one-add (length text) in
    rw (nothing_ignored c (text ++ following) start) (rw start (ap (λ (n : ℕ). Some (piece_of_length n)) size))

-- ---- which keyword a name is

-- of the words that the text spells all pass
abbrev pub each_spelled : (Terminal → Bool) → List Word → List ℕ → Bool
each_spelled passes table text = list_all (λ word. passes word.1 || not (bytes_eq word.0 text)) table

pub spelled_passes : (passes : Terminal → Bool) (table : List Word) (text : List ℕ) → passes k.Name ≡ true → each_spelled passes table text ≡ true → passes (spelled table text) ≡ true
spelled_passes passes [] text h all = h
spelled_passes passes (word ∷ table) text h all =
    let (this, others) = and_parts (passes word.1 || not (bytes_eq word.0 text)) (each_spelled passes table text) all in
    go (bytes_eq word.0 text) this (spelled_passes passes table text h others)
  where
    or_not : (a : Bool) → (a || false) ≡ true → a ≡ true
    or_not true e = refl
    or_not false e = absurd cc

    go : (same : Bool) → (passes word.1 || not same) ≡ true → passes (spelled table text) ≡ true → passes (cond same word.1 (spelled table text)) ≡ true
    go true this more = or_not (passes word.1) this
    go false this more = more

-- each name is a name, the keywords too
pub spelled_name : (text : List ℕ) → is_name (terminal_of t.Name text) ≡ true
unfolding words
spelled_name text = spelled_passes is_name words text refl refl

-- a name, of a class that its keyword is in
pub word : (is : Terminal → Bool) (text : List ℕ) → names.is_name text ≡ true → is (terminal_of t.Name text) ≡ true → Printed (one is) (IsToken t.Name text) ends_word text
word is text h passes = token is t.Name text ends_word (λ following fine. name_pieces text following h fine) passes

-- a keyword
pub keyword : (is : Terminal → Bool) (text : List ℕ) → names.is_name text ≡ true → is (terminal_of t.Name text) ≡ true → Printed (mark is) (λ x. x ≡ tt) ends_word text
keyword is text h passes = marked is t.Name text ends_word (λ following fine. name_pieces text following h fine) passes

-- ---- names in trees

-- a text with its place, which is this text
abbrev pub IsText : {P : Type 0} → List ℕ → Text P → Type 0
IsText text x = x.it ≡ text

module _ {P : Type 0} (m : Meaning P) where
  pub named : (is : Terminal → Bool) (text : List ℕ) → names.is_name text ≡ true → is (terminal_of t.Name text) ≡ true → Printed (name_of m <$> one is) (IsText text) ends_word text
  named is text h passes = mapped (name_of m) (IsText text) (λ x said. said.1) (word is text h passes)

  pub any_name : (text : List ℕ) → names.is_name text ≡ true → Printed (name m) (IsText text) ends_word text
  any_name text h = named is_name text h (spelled_name text)

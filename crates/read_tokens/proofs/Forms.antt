-- The texts of tokens have the forms of their symbols.
use Rattle.std.proofs.Common.{◌≡◌, ℕ, suc, ◌+◌, ◌-◌, ◌<◌, Bool, true, false, cond, ◌||◌, ◌==◌, List, [], ◌∷◌, ◌++◌, length, take, drop, get_or, Option, Some, None, refl, sym, ap, ◌∙◌, subst, arith, one-add, eqb-true, append_assoc, length-append, IsUtf8, IsCharBoundary, inl, inr}
use Rattle.std.proofs.Math.Seq.{take-add}
use Rattle.std.specs.List.{prefix_len, list_all}
use Rattle.std.specs.Char.{is_ascii_digit}
use Rattle.std.specs.Str.{bytes_eq}
use Rattle.std.proofs.lemmas.Bool.{and_parts, and_from, or_left}
use Rattle.std.proofs.lemmas.Str.{IsCharBoundary-before_ascii, IsCharBoundary-after_ascii}
use Rattle.graphql_names.specs.NameSyntax.{is_name_start, is_name_continue, IsName}
use Rattle.read_tokens.specs.Bytes.{begins_by, begins_with, run_len}
use Rattle.read_tokens.specs.Numbers.{sign_len, whole_len, fraction_len, exponent_len, goes_on, number_kind, number_at}
use Rattle.read_tokens.specs.Strings.{part_len, closed_len, quoted_len}
use Rattle.read_tokens.specs.Blocks.{quotes, block_character_len, block_len}
use Rattle.read_tokens.specs.Tokens.{punctuator, one_byte, of_kind, string_at, token_at}
use Rattle.read_tokens.specs.Terminals.{Word, words, spelled, terminal_of}
use Rattle.read_tokens.specs.Forms.{is_word, Enclosed, Form, Marked}
use Rattle.read_tokens.specs.declared.token.TokenKind.{TokenKind}
use Rattle.read_tokens.specs.declared.token.TokenKind.TheVariants as k
use Rattle.read_tokens.specs.declared.token.TokenKind.TheVariants.{Name, String, BlockString, Bang, Dollar, Ampersand, OpenParen, CloseParen, Spread, Colon, Equals, At, OpenBracket, CloseBracket, OpenBrace, Pipe, CloseBrace, Int, Float}
use Rattle.read_tokens.specs.declared.terminal.Terminal.{Terminal}
use Rattle.read_tokens.specs.declared.terminal.Terminal.TheVariants as t
use Rattle.read_tokens.proofs.Ends.{of_kind_is, one_byte_is}
use Rattle.read_tokens.proofs.Choices.{some_if, some_unless, choice, bind_some, same_some}

-- ---- words

all_words : (ws : List Word) → list_all (λ (w : Word). is_word w.1) ws ≡ true → (text : List ℕ) → is_word (spelled ws text) ≡ true
all_words [] h text = refl
all_words (w ∷ ws) h text =
    let parts = and_parts (is_word w.1) (list_all (λ (v : Word). is_word v.1) ws) h in
    go (bytes_eq w.0 text) parts.0 (all_words ws parts.1 text)
  where
    go : (b : Bool) → is_word w.1 ≡ true → is_word (spelled ws text) ≡ true → is_word (cond b w.1 (spelled ws text)) ≡ true
    go true here more = here
    go false here more = more

pub spelled_word : (text : List ℕ) → is_word (spelled words text) ≡ true
unfolding words
spelled_word text = all_words words refl text

pub not_word : (symbol other : Terminal) → is_word symbol ≡ true → is_word other ≡ false → symbol ≡ other → ⊥
not_word symbol other word other_word e = let both : true ≡ false = sym word ∙ ap is_word e ∙ other_word in absurd cc

word_form : (text : List ℕ) → IsName text → Form (spelled words text) text
word_form text name = record {
  name = λ _. name;
  string = λ e. absurd (not_word (spelled words text) t.String (spelled_word text) refl e);
  block = λ e. absurd (not_word (spelled words text) t.BlockString (spelled_word text) refl e);
}

pub front_passes : (p : ℕ → Bool) (xs : List ℕ) → list_all p (take (prefix_len p xs) xs) ≡ true
front_passes p [] = refl
front_passes p (x ∷ xs) = go (p x) refl (front_passes p xs)
  where
    go : (b : Bool) → p x ≡ b → list_all p (take (prefix_len p xs) xs) ≡ true → list_all p (take (cond b (1 + prefix_len p xs) 0) (x ∷ xs)) ≡ true
    go true e all = rw one-add (and_from (p x) (list_all p (take (prefix_len p xs) xs)) e all)
    go false e all = refl

name_is : (b : ℕ) (bytes : List ℕ) → is_name_start b ≡ true → IsName (take (prefix_len is_name_continue (b ∷ bytes)) (b ∷ bytes))
name_is b bytes start =
    let goes_on : is_name_continue b ≡ true = or_left (is_name_start b) (is_ascii_digit b) start in
    rw (goes_on, one-add) (and_from (is_name_start b) (list_all is_name_continue (take (prefix_len is_name_continue bytes) bytes)) start (front_passes is_name_continue bytes))

-- ---- strings

begins_is : (mark bytes : List ℕ) → begins_with mark bytes ≡ true → take (length mark) bytes ≡ mark
begins_is [] bytes h = refl
begins_is (x ∷ mark) [] h = absurd cc
begins_is (x ∷ mark) (b ∷ bytes) h =
    let parts = and_parts (b == x) (begins_with mark bytes) h in
    ap (λ (c : ℕ). c ∷ take (length mark) bytes) (eqb-true b x parts.0) ∙ ap (λ (cs : List ℕ). x ∷ cs) (begins_is mark bytes parts.1)

closed_is : (mark : List ℕ) (n : ℕ) (bytes : List ℕ) (m : ℕ) → begins_with mark bytes ≡ true → closed_len mark n bytes ≡ Some m → Enclosed mark (take m bytes)
closed_is mark n bytes m open_mark h = elim (some_if (begins_with mark (drop (length mark + n) bytes)) (length mark + n + length mark) m None h) [
  | inr e ↦ absurd cc
  | inl e ↦
      let l : ℕ = length mark in
      let content : List ℕ = take n (drop l bytes) in
      let whole : take (l + n + l) bytes ≡ (take l bytes ++ content) ++ take l (drop (l + n) bytes) = take-add (l + n) l bytes ∙ ap (λ (xs : List ℕ). xs ++ take l (drop (l + n) bytes)) (take-add l n bytes) in
      let marks : (take l bytes ++ content) ++ take l (drop (l + n) bytes) ≡ (mark ++ content) ++ mark =
      ap (λ (xs : List ℕ). (xs ++ content) ++ take l (drop (l + n) bytes)) (begins_is mark bytes open_mark) ∙ ap (λ (xs : List ℕ). (mark ++ content) ++ xs) (begins_is mark _ e.0) in
      (content, ap (λ (i : ℕ). take i bytes) (sym e.1) ∙ whole ∙ marks ∙ append_assoc mark content mark)
]

string_form : (text : List ℕ) → Enclosed (34 ∷ []) text → Form t.String text
string_form text e = record { name = λ h. absurd cc; string = λ _. e; block = λ h. absurd cc }

block_form : (text : List ℕ) → Enclosed quotes text → Form t.BlockString text
block_form text e = record { name = λ h. absurd cc; string = λ h. absurd cc; block = λ _. e }

abbrev FormAt : List ℕ → TokenKind × ℕ → Type 0
FormAt bytes token = Form (terminal_of token.0 (take token.1 bytes)) (take token.1 bytes)

string_at_form : (b : ℕ) (bytes : List ℕ) (token : TokenKind × ℕ) → b ≡ 34 → string_at (b ∷ bytes) ≡ Some token → FormAt (b ∷ bytes) token
unfolding string_at block_len quoted_len
string_at_form b bytes token is h = go (begins_with quotes (b ∷ bytes)) refl h
  where
    mark : begins_with (34 ∷ []) (b ∷ bytes) ≡ true
    mark = subst (λ (c : ℕ). begins_with (34 ∷ []) (c ∷ bytes) ≡ true) (sym is) refl

    go : (q : Bool) → begins_with quotes (b ∷ bytes) ≡ q → cond q (of_kind k.BlockString (block_len (b ∷ bytes))) (of_kind k.String (quoted_len (b ∷ bytes))) ≡ Some token → FormAt (b ∷ bytes) token
    go true e h =
        let len = of_kind_is k.BlockString (block_len (b ∷ bytes)) token h in
        let kind : k.BlockString ≡ token.0 = kind_is k.BlockString (block_len (b ∷ bytes)) token h in
        subst (λ (l : TokenKind). Form (terminal_of l (take token.1 (b ∷ bytes))) (take token.1 (b ∷ bytes))) kind
        (block_form _ (closed_is quotes (run_len block_character_len 0 (drop 3 (b ∷ bytes))) (b ∷ bytes) token.1 e len))
      where
        kind_is : (kind : TokenKind) (o : Option ℕ) (u : TokenKind × ℕ) → of_kind kind o ≡ Some u → kind ≡ u.0
        kind_is kind None u h = absurd cc
        kind_is kind (Some n) u h = ap (λ (v : TokenKind × ℕ). v.0) (same_some (kind, n) u h)
    go false e h =
        let len = of_kind_is k.String (quoted_len (b ∷ bytes)) token h in
        let kind : k.String ≡ token.0 = kind_is k.String (quoted_len (b ∷ bytes)) token h in
        subst (λ (l : TokenKind). Form (terminal_of l (take token.1 (b ∷ bytes))) (take token.1 (b ∷ bytes))) kind
        (string_form _ (closed_is (34 ∷ []) (run_len part_len 0 (drop 1 (b ∷ bytes))) (b ∷ bytes) token.1 mark len))
      where
        kind_is : (kind : TokenKind) (o : Option ℕ) (u : TokenKind × ℕ) → of_kind kind o ≡ Some u → kind ≡ u.0
        kind_is kind None u h = absurd cc
        kind_is kind (Some n) u h = ap (λ (v : TokenKind × ℕ). v.0) (same_some (kind, n) u h)

-- ---- others

-- the kind of neither a word nor a string
abbrev is_other : TokenKind → Bool
is_other Name = false
is_other String = false
is_other BlockString = false
is_other Bang = true
is_other Dollar = true
is_other Ampersand = true
is_other OpenParen = true
is_other CloseParen = true
is_other Spread = true
is_other Colon = true
is_other Equals = true
is_other At = true
is_other OpenBracket = true
is_other CloseBracket = true
is_other OpenBrace = true
is_other Pipe = true
is_other CloseBrace = true
is_other Int = true
is_other Float = true

no_form : (symbol : Terminal) (text : List ℕ) → is_word symbol ≡ false → (symbol ≡ t.String → ⊥) → (symbol ≡ t.BlockString → ⊥) → Form symbol text
no_form symbol text no_word no_string no_block = record {
  name = λ h. let both : true ≡ false = sym h ∙ no_word in absurd cc;
  string = λ h. absurd (no_string h);
  block = λ h. absurd (no_block h);
}

other_form : (kind : TokenKind) (text : List ℕ) → is_other kind ≡ true → Form (terminal_of kind text) text
other_form Name text h = absurd cc
other_form String text h = absurd cc
other_form BlockString text h = absurd cc
other_form Bang text h = no_form t.Bang text refl (λ e. absurd cc) (λ e. absurd cc)
other_form Dollar text h = no_form t.Dollar text refl (λ e. absurd cc) (λ e. absurd cc)
other_form Ampersand text h = no_form t.Ampersand text refl (λ e. absurd cc) (λ e. absurd cc)
other_form OpenParen text h = no_form t.OpenParen text refl (λ e. absurd cc) (λ e. absurd cc)
other_form CloseParen text h = no_form t.CloseParen text refl (λ e. absurd cc) (λ e. absurd cc)
other_form Spread text h = no_form t.Spread text refl (λ e. absurd cc) (λ e. absurd cc)
other_form Colon text h = no_form t.Colon text refl (λ e. absurd cc) (λ e. absurd cc)
other_form Equals text h = no_form t.Equals text refl (λ e. absurd cc) (λ e. absurd cc)
other_form At text h = no_form t.At text refl (λ e. absurd cc) (λ e. absurd cc)
other_form OpenBracket text h = no_form t.OpenBracket text refl (λ e. absurd cc) (λ e. absurd cc)
other_form CloseBracket text h = no_form t.CloseBracket text refl (λ e. absurd cc) (λ e. absurd cc)
other_form OpenBrace text h = no_form t.OpenBrace text refl (λ e. absurd cc) (λ e. absurd cc)
other_form Pipe text h = no_form t.Pipe text refl (λ e. absurd cc) (λ e. absurd cc)
other_form CloseBrace text h = no_form t.CloseBrace text refl (λ e. absurd cc) (λ e. absurd cc)
other_form Int text h = no_form t.Int text refl (λ e. absurd cc) (λ e. absurd cc)
other_form Float text h = no_form t.Float text refl (λ e. absurd cc) (λ e. absurd cc)

number_other : (bytes : List ℕ) (kind : TokenKind) (n : ℕ) → number_at bytes ≡ Some (kind, n) → is_other kind ≡ true
unfolding number_at
number_other bytes kind n h =
    let s : ℕ = sign_len bytes in
    let (digits, (d, h1)) = bind_some (whole_len (drop s bytes)) _ (kind, n) h in
    let (fraction, (f, h2)) = bind_some (fraction_len (drop (s + digits) bytes)) _ (kind, n) h1 in
    let (exponent, (e, h3)) = bind_some (exponent_len (drop (s + digits + fraction) bytes)) _ (kind, n) h2 in
    let is : (number_kind (s + digits) (s + digits + fraction + exponent), s + digits + fraction + exponent) ≡ (kind, n) =
    same_some _ _ (some_unless (begins_by goes_on (drop (s + digits + fraction + exponent) bytes)) _ (kind, n) h3) in
    ap is_other (sym (ap (λ (u : TokenKind × ℕ). u.0) is)) ∙ go (s + digits == s + digits + fraction + exponent)
  where
    go : (b : Bool) → is_other (cond b k.Int k.Float) ≡ true
    go true = refl
    go false = refl

punctuator_other : (b : ℕ) (kind : TokenKind) → punctuator b ≡ Some kind → is_other kind ≡ true
punctuator_other b kind h0 = elim (some_if (b == 33) k.Bang kind _ h0) [
  | inl e ↦ ap is_other (sym e.1)
  | inr h1 ↦ elim (some_if (b == 36) k.Dollar kind _ h1) [
    | inl e ↦ ap is_other (sym e.1)
    | inr h2 ↦ elim (some_if (b == 38) k.Ampersand kind _ h2) [
      | inl e ↦ ap is_other (sym e.1)
      | inr h3 ↦ elim (some_if (b == 40) k.OpenParen kind _ h3) [
        | inl e ↦ ap is_other (sym e.1)
        | inr h4 ↦ elim (some_if (b == 41) k.CloseParen kind _ h4) [
          | inl e ↦ ap is_other (sym e.1)
          | inr h5 ↦ elim (some_if (b == 58) k.Colon kind _ h5) [
            | inl e ↦ ap is_other (sym e.1)
            | inr h6 ↦ elim (some_if (b == 61) k.Equals kind _ h6) [
              | inl e ↦ ap is_other (sym e.1)
              | inr h7 ↦ elim (some_if (b == 64) k.At kind _ h7) [
                | inl e ↦ ap is_other (sym e.1)
                | inr h8 ↦ elim (some_if (b == 91) k.OpenBracket kind _ h8) [
                  | inl e ↦ ap is_other (sym e.1)
                  | inr h9 ↦ elim (some_if (b == 93) k.CloseBracket kind _ h9) [
                    | inl e ↦ ap is_other (sym e.1)
                    | inr h10 ↦ elim (some_if (b == 123) k.OpenBrace kind _ h10) [
                      | inl e ↦ ap is_other (sym e.1)
                      | inr h11 ↦ elim (some_if (b == 124) k.Pipe kind _ h11) [
                        | inl e ↦ ap is_other (sym e.1)
                        | inr h12 ↦ elim (some_if (b == 125) k.CloseBrace kind _ h12) [
                          | inl e ↦ ap is_other (sym e.1)
                          | inr h13 ↦ absurd cc
                        ]
                      ]
                    ]
                  ]
                ]
              ]
            ]
          ]
        ]
      ]
    ]
  ]
]

pub token_form : (bytes : List ℕ) (token : TokenKind × ℕ) → token_at bytes ≡ Some token → FormAt bytes token
unfolding token_at
token_form [] token h = absurd cc
token_form (b ∷ bytes) token h = elim (some_if (is_name_start b) (k.Name, prefix_len is_name_continue (b ∷ bytes)) token _ h) [
  | inl e ↦ subst (FormAt (b ∷ bytes)) e.1 (word_form (take (prefix_len is_name_continue (b ∷ bytes)) (b ∷ bytes)) (name_is b bytes e.0))
  | inr h ↦ elim (choice (b == 45 || is_ascii_digit b) (number_at (b ∷ bytes)) _ token h) [
    | inl e ↦ other_form token.0 (take token.1 (b ∷ bytes)) (number_other (b ∷ bytes) token.0 token.1 e.1)
    | inr h ↦ elim (choice (b == 34) (string_at (b ∷ bytes)) _ token h) [
      | inl e ↦ string_at_form b bytes token (eqb-true b 34 e.0) e.1
      | inr h ↦ elim (choice (b == 46) (cond (begins_with (46 ∷ 46 ∷ []) bytes) (Some (k.Spread, 3)) None) (one_byte (punctuator b)) token h) [
        | inl e ↦ elim (some_if (begins_with (46 ∷ 46 ∷ []) bytes) (k.Spread, 3) token None e.1) [
          | inl f ↦ other_form token.0 (take token.1 (b ∷ bytes)) (ap is_other (sym (ap (λ (u : TokenKind × ℕ). u.0) f.1)))
          | inr f ↦ absurd cc
        ]
        | inr h ↦ other_form token.0 (take token.1 (b ∷ bytes)) (punctuator_other b token.0 (one_byte_is (punctuator b) token h).0)
      ]
    ]
  ]
]

-- ---- marks

last_byte : (xs ys : List ℕ) (y : ℕ) → get_or (xs ++ y ∷ ys) (length xs) 0 ≡ y
last_byte [] ys y = refl
last_byte (x ∷ xs) ys y = last_byte xs ys y

pub one_mark : (text : List ℕ) → Enclosed (34 ∷ []) text → Marked 1 text
one_mark text (content, e) =
    let size : length text ≡ suc (length content + 1) = ap (length {A = ℕ}) e ∙ ap suc (length-append content (34 ∷ [])) in
    let at : length text - 1 ≡ suc (length content) = omega arith in
    let first : get_or text 0 0 ≡ 34 = ap (λ (xs : List ℕ). get_or xs 0 0) e in
    let last : get_or text (length text - 1) 0 ≡ 34 = ap (λ (i : ℕ). get_or text i 0) at ∙ ap (λ (xs : List ℕ). get_or xs (suc (length content)) 0) e ∙ last_byte (34 ∷ content) [] 34 in
    record {
      some = omega arith;
      twice = omega arith;
      open_mark = subst (λ (c : ℕ). c < 128) (sym first) (omega arith);
      close_mark = subst (λ (c : ℕ). c < 128) (sym last) (omega arith);
    }

pub three_marks : (text : List ℕ) → Enclosed quotes text → Marked 3 text
three_marks text (content, e) =
    let size : length text ≡ suc (suc (suc (length content + 3))) = ap (length {A = ℕ}) e ∙ ap (λ (n : ℕ). suc (suc (suc n))) (length-append content quotes) in
    let at : length text - 3 ≡ suc (suc (suc (length content))) = omega arith in
    let first : get_or text 2 0 ≡ 34 = ap (λ (xs : List ℕ). get_or xs 2 0) e in
    let last : get_or text (length text - 3) 0 ≡ 34 = ap (λ (i : ℕ). get_or text i 0) at ∙ ap (λ (xs : List ℕ). get_or xs (suc (suc (suc (length content)))) 0) e ∙ last_byte (34 ∷ 34 ∷ 34 ∷ content) (34 ∷ 34 ∷ []) 34 in
    record {
      some = omega arith;
      twice = omega arith;
      open_mark = subst (λ (c : ℕ). c < 128) (sym first) (omega arith);
      close_mark = subst (λ (c : ℕ). c < 128) (sym last) (omega arith);
    }

pub open_boundary : (n : ℕ) (text : List ℕ) → Marked n text → IsUtf8 text → IsCharBoundary text n
open_boundary n text marked utf8 =
    let some = marked.some in
    let twice = marked.twice in
    let back : (n - 1) + 1 ≡ n = omega arith in
    subst (IsCharBoundary text) back (IsCharBoundary-after_ascii text (n - 1) utf8 (omega arith) marked.open_mark)

pub close_boundary : (n : ℕ) (text : List ℕ) → Marked n text → IsCharBoundary text (length text - n)
close_boundary n text marked =
    let some = marked.some in
    let twice = marked.twice in
    IsCharBoundary-before_ascii text (length text - n) (omega arith) marked.close_mark

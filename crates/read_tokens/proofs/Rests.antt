-- What a `TokenCursor` shows, from one token to the next.
use Rattle.std.proofs.Common.{◌≡◌, ℕ, zero, suc, ◌+◌, ◌-◌, ◌<◌, ◌≤◌, Bool, true, false, ◌&&◌, List, [], ◌∷◌, length, take, drop, Option, Some, None, refl, sym, ap, ◌∙◌, subst, arith, one-add, add-zero}
use Rattle.std.proofs.lemmas.List.{drop-drop, length-drop, length-take-le}
use Rattle.std.proofs.lemmas.Bool.{lt-ltb, le-ltb}
use Rattle.std.specs.Prelude.{nat_lt, not, is_some}
use Rattle.read_tokens.specs.Input.{Token, Ending, Ended, NoTokenAt, Input, next}
use Rattle.read_tokens.specs.Bytes.{run_on, run_len}
use Rattle.read_tokens.specs.Tokens.{ignored_at, token_at}
use Rattle.read_tokens.specs.Terminals.{terminal_of}
use Rattle.read_tokens.specs.Lex.{Piece, piece_of, piece_at, with_token, past_ignored, NothingBegins}
use Rattle.read_tokens.specs.Cursor.{Rest, rest_by, rest_from, input_from, with_terminal, symbol_at, text_of, skipped, next_offset, is_stuck}
use Rattle.read_tokens.specs.declared.token.TokenKind.{TokenKind}
use Rattle.read_tokens.specs.declared.terminal.Terminal.{Terminal}
use Rattle.read_tokens.specs.Forms.{FormOf, Taken}
use Rattle.read_tokens.proofs.Forms.{token_form}
use Rattle.read_tokens.proofs.Ends.{token_ends}
use Rattle.read_tokens.proofs.Takes.{piece_takes}

-- ---- one piece more

rest_left : (left at : ℕ) (bytes : List ℕ) → left ≤ length bytes → rest_from left at bytes ≡ rest_from 0 (at + left) (drop left bytes)
unfolding rest_from
rest_left zero at bytes within = ap (λ (m : ℕ). rest_from 0 m bytes) (omega arith)
rest_left (suc left) at [] within = absurd (omega arith)
rest_left (suc left) at (b ∷ bytes) within =
    let within' : left ≤ length bytes = omega arith in
    rest_left left (at + 1) bytes within' ∙ ap (λ (m : ℕ). rest_from 0 m (drop left bytes)) (omega arith)

after_first : (n at b : ℕ) (bytes : List ℕ) → 0 < n → n ≤ suc (length bytes) → rest_from (n - 1) (at + 1) bytes ≡ rest_from 0 (at + n) (drop n (b ∷ bytes))
after_first zero at b bytes some within = absurd (omega arith)
after_first (suc n) at b bytes some within =
    let within' : n ≤ length bytes = omega arith in
    let one : suc n - 1 ≡ n = omega arith in
    ap (λ (m : ℕ). rest_from m (at + 1) bytes) one ∙ rest_left n (at + 1) bytes within' ∙ ap (λ (m : ℕ). rest_from 0 m (drop n bytes)) (omega arith)

abbrev pub onto : Piece → ℕ → List ℕ → Rest → Rest
onto p at bytes r = record { tokens = with_token p.kind (take p.length bytes) at r.tokens; ending = r.ending }

pub rest_piece : (at : ℕ) (bytes : List ℕ) (p : Piece) → piece_at bytes ≡ Some p → rest_from 0 at bytes ≡ onto p at bytes (rest_from 0 (at + p.length) (drop p.length bytes))
unfolding rest_from
rest_piece at [] p found = let takes = piece_takes [] p found in let some = takes.some in let within = takes.within in absurd (omega arith)
rest_piece at (b ∷ bytes) p found =
    let takes = piece_takes (b ∷ bytes) p found in
    let within : p.length ≤ suc (length bytes) = takes.within in
    rw found (ap (onto p at (b ∷ bytes)) (after_first p.length at b bytes takes.some within))

-- ---- what is ignored

one_more : (at r b : ℕ) (bytes : List ℕ) → rest_from 0 ((at + 1) + r) (drop r bytes) ≡ rest_from 0 (at + (1 + r)) (drop (1 + r) (b ∷ bytes))
one_more at r b bytes = rw one-add (ap (λ (m : ℕ). rest_from 0 m (drop r bytes)) (omega arith))

none_more : (at : ℕ) (bytes : List ℕ) → rest_from 0 at bytes ≡ rest_from 0 (at + 0) bytes
none_more at bytes = ap (λ (m : ℕ). rest_from 0 m bytes) (sym (add-zero at))

rest_ignored : (left at : ℕ) (bytes : List ℕ) → rest_from left at bytes ≡ rest_from 0 (at + run_len ignored_at left bytes) (drop (run_len ignored_at left bytes) bytes)
unfolding rest_from run_len piece_at
rest_ignored zero at [] = none_more at []
rest_ignored (suc left) at [] = none_more at []
rest_ignored (suc left) at (b ∷ bytes) = rest_ignored left (at + 1) bytes ∙ one_more at (run_len ignored_at left bytes) b bytes
rest_ignored zero at (b ∷ bytes) = go (ignored_at (b ∷ bytes)) refl (λ n. rest_ignored n (at + 1) bytes)
  where
    go : (o : Option ℕ) → ignored_at (b ∷ bytes) ≡ o → ((n : ℕ) → rest_from n (at + 1) bytes ≡ rest_from 0 ((at + 1) + run_len ignored_at n bytes) (drop (run_len ignored_at n bytes) bytes))
        → rest_by (piece_of o (token_at (b ∷ bytes))) at (b ∷ bytes) (λ n. rest_from (n - 1) (at + 1) bytes)
        ≡ rest_from 0 (at + run_on o (λ n. 1 + run_len ignored_at (n - 1) bytes)) (drop (run_on o (λ n. 1 + run_len ignored_at (n - 1) bytes)) (b ∷ bytes))
    go None e more = sym (ap (λ (o : Option ℕ). rest_by (piece_of o (token_at (b ∷ bytes))) at (b ∷ bytes) (λ n. rest_from (n - 1) (at + 1) bytes)) e) ∙ none_more at (b ∷ bytes)
    go (Some n) e more = more (n - 1) ∙ one_more at (run_len ignored_at (n - 1) bytes) b bytes

-- the tokens from an offset are those from the end of the ignored pieces there
pub from_past : (text : List ℕ) (offset last : ℕ) → input_from last (past_ignored text offset) text ≡ input_from last offset text
from_past text offset last =
    let r : ℕ = run_len ignored_at 0 (drop offset text) in
    let same : rest_from 0 offset (drop offset text) ≡ rest_from 0 (offset + r) (drop (offset + r) text) =
    rest_ignored 0 offset (drop offset text) ∙ ap (rest_from 0 (offset + r)) (drop-drop r offset text) in
    ap (λ (rest : Rest). record { last = last; ahead = rest.tokens; ending = rest.ending }) (sym same)

run_stops : (rule : List ℕ → Option ℕ) → rule [] ≡ None → (left : ℕ) (bytes : List ℕ) → rule (drop (run_len rule left bytes) bytes) ≡ None
unfolding run_len
run_stops rule none zero [] = none
run_stops rule none (suc left) [] = none
run_stops rule none (suc left) (b ∷ bytes) = rw one-add (run_stops rule none left bytes)
run_stops rule none zero (b ∷ bytes) = go (rule (b ∷ bytes)) refl (λ n. run_stops rule none n bytes)
  where
    go : (o : Option ℕ) → rule (b ∷ bytes) ≡ o → ((n : ℕ) → rule (drop (run_len rule n bytes) bytes) ≡ None) → rule (drop (run_on o (λ n. 1 + run_len rule (n - 1) bytes)) (b ∷ bytes)) ≡ None
    go None e more = e
    go (Some n) e more = rw one-add (more (n - 1))

-- after the ignored pieces no other one begins
pub nothing_ignored : (text : List ℕ) (offset : ℕ) → ignored_at (drop (past_ignored text offset) text) ≡ None
unfolding ignored_at
nothing_ignored text offset = ap ignored_at (sym (drop-drop (run_len ignored_at 0 (drop offset text)) offset text)) ∙ run_stops ignored_at refl 0 (drop offset text)

-- ---- the next token

abbrev pub token_there : List ℕ → ℕ → TokenKind → ℕ → Token
token_there text at kind n = record { kind = terminal_of kind (take n (drop at text)); text = take n (drop at text); offset = at }

abbrev pub ahead_of : Token → ℕ → Input → Input
ahead_of t last i = record { last = last; ahead = t ∷ i.ahead; ending = i.ending }

input_token : (text : List ℕ) (at last last' : ℕ) (kind : TokenKind) (n : ℕ) → ignored_at (drop at text) ≡ None → token_at (drop at text) ≡ Some (kind, n)
    → input_from last at text ≡ ahead_of (token_there text at kind n) last (input_from last' (past_ignored text (at + n)) text)
unfolding piece_at
input_token text at last last' kind n none found =
    let p : Piece = record { kind = Some kind; length = n } in
    let is : piece_at (drop at text) ≡ Some p = rw (none, found) refl in
    let here : rest_from 0 at (drop at text) ≡ onto p at (drop at text) (rest_from 0 (at + n) (drop (at + n) text)) =
    rest_piece at (drop at text) p is ∙ ap (λ (bytes : List ℕ). onto p at (drop at text) (rest_from 0 (at + n) bytes)) (drop-drop n at text) in
    ap (λ (rest : Rest). record { last = last; ahead = rest.tokens; ending = rest.ending }) here
    ∙ ap (ahead_of (token_there text at kind n) last) (sym (from_past text (at + n) last'))

abbrev ending_at : ℕ → List ℕ → Ending
ending_at at [] = Ended at
ending_at at (b ∷ bytes) = NoTokenAt at

rest_none : (at : ℕ) (bytes : List ℕ) → ignored_at bytes ≡ None → token_at bytes ≡ None → rest_from 0 at bytes ≡ record { tokens = []; ending = ending_at at bytes }
unfolding rest_from piece_at
rest_none at [] none no_token = refl
rest_none at (b ∷ bytes) none no_token = rw (none, no_token) refl

input_none : (text : List ℕ) (at last : ℕ) → ignored_at (drop at text) ≡ None → token_at (drop at text) ≡ None → input_from last at text ≡ record { last = last; ahead = []; ending = ending_at at (drop at text) }
input_none text at last none no_token = ap (λ (rest : Rest). record { last = last; ahead = rest.tokens; ending = rest.ending }) (rest_none at (drop at text) none no_token)

-- the token whose symbol begins a text
record Symbol (bytes : List ℕ) (symbol : Terminal × ℕ) : Type 0 where
  kind : TokenKind
  found : token_at bytes ≡ Some (kind, symbol.1)
  is : terminal_of kind (take symbol.1 bytes) ≡ symbol.0

symbol_found : (bytes : List ℕ) (symbol : Terminal × ℕ) → symbol_at bytes ≡ Some symbol → Symbol bytes symbol
unfolding symbol_at
symbol_found bytes symbol h = go (token_at bytes) refl h
  where
    go : (o : Option (TokenKind × ℕ)) → token_at bytes ≡ o → with_terminal o bytes ≡ Some symbol → Symbol bytes symbol
    go None e is = absurd cc
    go (Some t) e is =
        let same : (terminal_of t.0 (take t.1 bytes), t.1) ≡ symbol = cc in
        let len : t.1 ≡ symbol.1 = ap (λ (s : Terminal × ℕ). s.1) same in
        record {
          kind = t.0;
          found = e ∙ ap (λ (m : ℕ). Some (t.0, m)) len;
          is = ap (λ (m : ℕ). terminal_of t.0 (take m bytes)) (sym len) ∙ ap (λ (s : Terminal × ℕ). s.0) same;
        }

symbol_none : (bytes : List ℕ) → symbol_at bytes ≡ None → token_at bytes ≡ None
unfolding symbol_at
symbol_none bytes h = go (token_at bytes) refl h
  where
    go : (o : Option (TokenKind × ℕ)) → token_at bytes ≡ o → with_terminal o bytes ≡ None → token_at bytes ≡ None
    go None e is = e
    go (Some t) e is = absurd cc

-- ---- what the calls of a `TokenCursor` answer

pub symbol_token : (bytes : List ℕ) (symbol : Terminal × ℕ) → symbol_at bytes ≡ Some symbol → (kind : TokenKind) × (token_at bytes ≡ Some (kind, symbol.1))
symbol_token bytes symbol h = let s = symbol_found bytes symbol h in (s.kind, s.found)

pub skip_text : (text : List ℕ) (at last : ℕ) (symbol : Terminal × ℕ) → ignored_at (drop at text) ≡ None → symbol_at (drop at text) ≡ Some symbol
    → take symbol.1 (drop at text) ≡ text_of (input_from last at text).ahead
skip_text text at last symbol none h =
    let s = symbol_found (drop at text) symbol h in
    sym (ap (λ (i : Input). text_of i.ahead) (input_token text at last 0 s.kind symbol.1 none s.found))

pub skip_after : (text : List ℕ) (at last : ℕ) (symbol : Terminal × ℕ) → ignored_at (drop at text) ≡ None → symbol_at (drop at text) ≡ Some symbol
    → input_from (at + symbol.1) (past_ignored text (at + symbol.1)) text ≡ skipped (input_from last at text)
skip_after text at last symbol none h =
    let s = symbol_found (drop at text) symbol h in
    let n : ℕ = symbol.1 in
    let within : n ≤ length (drop at text) = (token_ends (drop at text) (s.kind, n) s.found).ends.within in
    let size : length (take n (drop at text)) ≡ n = length-take-le n (drop at text) within in
    let i : Input = input_from (at + n) (past_ignored text (at + n)) text in
    sym (ap skipped (input_token text at last (at + n) s.kind n none s.found)
    ∙ ap (λ (m : ℕ). record { last = at + m; ahead = i.ahead; ending = i.ending }) size)

pub skip_none : (text : List ℕ) (at last : ℕ) → ignored_at (drop at text) ≡ None → symbol_at (drop at text) ≡ None
    → ([] ≡ text_of (input_from last at text).ahead) × (input_from last at text ≡ skipped (input_from last at text))
skip_none text at last none h =
    let e = input_none text at last none (symbol_none (drop at text) h) in
    (sym (ap (λ (i : Input). text_of i.ahead) e), e ∙ sym (ap skipped e))

abbrev pub symbol_of : Option (Terminal × ℕ) → Option Terminal
symbol_of None = None
symbol_of (Some symbol) = Some symbol.0

pub next_is : (text : List ℕ) (at last : ℕ) (o : Option (Terminal × ℕ)) → ignored_at (drop at text) ≡ None → o ≡ symbol_at (drop at text) → symbol_of o ≡ next (input_from last at text)
next_is text at last None none h = sym (ap (λ (i : Input). next i) (input_none text at last none (symbol_none (drop at text) (sym h))))
next_is text at last (Some symbol) none h =
    let s = symbol_found (drop at text) symbol (sym h) in
    sym (ap (λ (i : Input). next i) (input_token text at last 0 s.kind symbol.1 none s.found) ∙ ap (λ (t : Terminal). Some t) s.is)

ending_offset : (at : ℕ) (bytes : List ℕ) (last : ℕ) → next_offset (record { last = last; ahead = []; ending = ending_at at bytes }) ≡ at
ending_offset at [] last = refl
ending_offset at (b ∷ bytes) last = refl

pub offset_is : (text : List ℕ) (at last : ℕ) (o : Option (Terminal × ℕ)) → ignored_at (drop at text) ≡ None → o ≡ symbol_at (drop at text) → at ≡ next_offset (input_from last at text)
offset_is text at last None none h = sym (ap (λ (i : Input). next_offset i) (input_none text at last none (symbol_none (drop at text) (sym h))) ∙ ending_offset at (drop at text) last)
offset_is text at last (Some symbol) none h =
    let s = symbol_found (drop at text) symbol (sym h) in
    sym (ap (λ (i : Input). next_offset i) (input_token text at last 0 s.kind symbol.1 none s.found))

abbrev pub has_none : Option (Terminal × ℕ) → Bool
has_none None = true
has_none (Some symbol) = false

pub has_none_is : (o : Option (Terminal × ℕ)) (r : Bool) → is_some o ≡ not r → has_none o ≡ r
has_none_is None true h = refl
has_none_is None false h = absurd cc
has_none_is (Some symbol) true h = absurd cc
has_none_is (Some symbol) false h = refl

ending_stuck : (at last n : ℕ) (bytes : List ℕ) → length bytes ≡ n - at → nat_lt at n ≡ is_stuck (record { last = last; ahead = []; ending = ending_at at bytes })
ending_stuck at last n [] size = let out : n ≤ at = omega arith in le-ltb at n out
ending_stuck at last n (b ∷ bytes) size = let inside : at < n = omega arith in lt-ltb at n inside

pub stuck_is : (text : List ℕ) (at last : ℕ) (o : Option (Terminal × ℕ)) → ignored_at (drop at text) ≡ None → o ≡ symbol_at (drop at text)
    → (has_none o && nat_lt at (length text)) ≡ is_stuck (input_from last at text)
stuck_is text at last None none h =
    ending_stuck at last (length text) (drop at text) (length-drop at text)
    ∙ sym (ap (λ (i : Input). is_stuck i) (input_none text at last none (symbol_none (drop at text) (sym h))))
stuck_is text at last (Some symbol) none h =
    let s = symbol_found (drop at text) symbol (sym h) in
    sym (ap (λ (i : Input). is_stuck i) (input_token text at last 0 s.kind symbol.1 none s.found))

-- a token's length is that of its text
pub token_is : (bytes : List ℕ) (kind : TokenKind) (n : ℕ) (token : List ℕ) → token_at bytes ≡ Some (kind, n) → token ≡ take n bytes
    → (token_at bytes ≡ Some (kind, length token)) × (token ≡ take (length token) bytes)
token_is bytes kind n token found is =
    let size : n ≡ length token = sym (ap (length {A = ℕ}) is ∙ length-take-le n bytes (token_ends bytes (kind, n) found).ends.within) in
    (found ∙ ap (λ (m : ℕ). Some (kind, m)) size, is ∙ ap (λ (m : ℕ). take m bytes) size)

-- the text of the next token
abbrev pub HasForm : Input → Type 0
HasForm i = FormOf (next i) (text_of i.ahead)

pub first_form : (text : List ℕ) (at last : ℕ) → ignored_at (drop at text) ≡ None → HasForm (input_from last at text)
first_form text at last none = go (token_at (drop at text)) refl
  where
    go : (o : Option (TokenKind × ℕ)) → token_at (drop at text) ≡ o → HasForm (input_from last at text)
    go None e = subst HasForm (sym (input_none text at last none e)) tt
    go (Some token) e =
        let bytes : List ℕ = drop at text in
        let is = token_is bytes token.0 token.1 (take token.1 bytes) e refl in
        let taken : Taken (terminal_of token.0 (take token.1 bytes)) (take token.1 bytes) = record { bytes = bytes; kind = token.0; found = is.0; front = is.1; is = refl } in
        subst HasForm (sym (input_token text at last 0 token.0 token.1 none e)) (token_form bytes token e, taken)

-- ---- the next token of a text

-- where no token begins, but the text goes on after what is ignored
pub nothing_there : (text : List ℕ) (offset at : ℕ) → at ≡ past_ignored text offset → at ≤ length text → (at ≡ length text → ⊥) → token_at (drop at text) ≡ None → NothingBegins (drop (past_ignored text offset) text) × (at ≡ past_ignored text offset)
unfolding piece_at
nothing_there text offset at place within not_end none =
    let some : drop at text ≡ [] → ⊥ = λ e. not_end (let size : length (drop at text) ≡ length text - at = length-drop at text in let empty : length (drop at text) ≡ 0 = ap (length {A = ℕ}) e in omega arith) in
    let nothing : ignored_at (drop at text) ≡ None = ap (λ (n : ℕ). ignored_at (drop n text)) place ∙ nothing_ignored text offset in
    (subst (λ (n : ℕ). NothingBegins (drop n text)) place (record { some = some; no_piece = rw (nothing, none) refl }), place)

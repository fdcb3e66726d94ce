-- What a `TokenCursor` shows is how its text is lexed, and there is one way.
use Rattle.std.proofs.Common.{◌≡◌, ◌⊎◌, ℕ, zero, suc, ◌+◌, ◌-◌, ◌<◌, ◌≤◌, List, [], ◌∷◌, length, take, drop, Option, Some, None, refl, sym, ap, ◌∙◌, subst, inl, inr, arith, add-zero}
use Rattle.std.proofs.lemmas.List.{drop-drop, length-drop}
use Rattle.read_tokens.specs.Input.{Token, Ending, Ended, NoTokenAt}
use Rattle.read_tokens.specs.Tokens.{ignored_at, token_at}
use Rattle.read_tokens.specs.Lex.{Piece, piece_at, ArePieces, with_token, tokens_among, Lex, NothingBegins}
use Rattle.read_tokens.specs.Cursor.{Rest, rest_from, EndsAs}
use Rattle.read_tokens.proofs.Rests.{rest_piece}
use Rattle.read_tokens.proofs.Takes.{piece_takes}

-- ---- how a text is lexed

-- The first m bytes are pieces, whose tokens these are, and so it ends there.
record Lexed (at : ℕ) (bytes : List ℕ) (rest : Rest) : Type 0 where
  pieces : List Piece
  m : ℕ
  within : m ≤ length bytes
  are : ArePieces pieces bytes (drop m bytes)
  found : rest.tokens ≡ tokens_among pieces bytes at
  ends : ((drop m bytes ≡ []) × (rest.ending ≡ Ended (at + m))) ⊎ (NothingBegins (drop m bytes) × (rest.ending ≡ NoTokenAt (at + m)))

lexed_end : (at : ℕ) → Lexed at [] (rest_from 0 at [])
unfolding rest_from
lexed_end at = record {
  pieces = [];
  m = 0;
  within = omega arith;
  are = refl;
  found = refl;
  ends = inl (refl, ap Ended (sym (add-zero at)));
}

lexed_stuck : (at b : ℕ) (bytes : List ℕ) → piece_at (b ∷ bytes) ≡ None → Lexed at (b ∷ bytes) (rest_from 0 at (b ∷ bytes))
unfolding rest_from
lexed_stuck at b bytes none = rw none (record {
  pieces = [];
  m = 0;
  within = omega arith;
  are = refl;
  found = refl;
  ends = inr (record { some = λ e. absurd cc; no_piece = none }, ap NoTokenAt (sym (add-zero at)));
})

lexed_more : (at : ℕ) (bytes : List ℕ) (p : Piece) → piece_at bytes ≡ Some p → Lexed (at + p.length) (drop p.length bytes) (rest_from 0 (at + p.length) (drop p.length bytes)) → Lexed at bytes (rest_from 0 at bytes)
lexed_more at bytes p found more =
    let rest : Rest = rest_from 0 (at + p.length) (drop p.length bytes) in
    let k : ℕ = more.m in
    let n : ℕ = p.length in
    let there : drop k (drop n bytes) ≡ drop (n + k) bytes = drop-drop k n bytes in
    let takes = piece_takes bytes p found in
    let within : n ≤ length bytes = takes.within in
    let fits : k ≤ length (drop n bytes) = more.within in
    let size : length (drop n bytes) ≡ length bytes - n = length-drop n bytes in
    let place : (at + n) + k ≡ at + (n + k) = omega arith in
    subst (Lexed at bytes) (sym (rest_piece at bytes p found)) (record {
      pieces = p ∷ more.pieces;
      m = n + k;
      within = omega arith;
      are = (found, subst (ArePieces more.pieces (drop n bytes)) there more.are);
      found = ap (with_token p.kind (take n bytes) at) more.found;
      ends = go there place more.ends;
    })
  where
    go : {following following' : List ℕ} {m m' : ℕ} {ending : Ending} → following ≡ following' → m ≡ m'
        → ((following ≡ []) × (ending ≡ Ended m)) ⊎ (NothingBegins following × (ending ≡ NoTokenAt m))
        → ((following' ≡ []) × (ending ≡ Ended m')) ⊎ (NothingBegins following' × (ending ≡ NoTokenAt m'))
    go same place (inl e) = inl (sym same ∙ e.0, e.1 ∙ ap Ended place)
    go same place (inr e) = inr (subst NothingBegins same e.0, e.1 ∙ ap NoTokenAt place)

lexed : (fuel at : ℕ) (bytes : List ℕ) → length bytes ≤ fuel → Lexed at bytes (rest_from 0 at bytes)
lexed fuel at [] enough = lexed_end at
lexed zero at (b ∷ bytes) enough = absurd (omega arith)
lexed (suc fuel) at (b ∷ bytes) enough = go (piece_at (b ∷ bytes)) refl (λ n bs h. lexed fuel n bs h)
  where
    go : (o : Option Piece) → piece_at (b ∷ bytes) ≡ o → ((n : ℕ) (bs : List ℕ) → length bs ≤ fuel → Lexed n bs (rest_from 0 n bs)) → Lexed at (b ∷ bytes) (rest_from 0 at (b ∷ bytes))
    go None e more = lexed_stuck at b bytes e
    go (Some p) e more =
        let takes = piece_takes (b ∷ bytes) p e in
        let some : 0 < p.length = takes.some in
        let size : length (drop p.length (b ∷ bytes)) ≡ length (b ∷ bytes) - p.length = length-drop p.length (b ∷ bytes) in
        lexed_more at (b ∷ bytes) p e (more (at + p.length) (drop p.length (b ∷ bytes)) (omega arith))

pub ends_as : (text : List ℕ) → EndsAs text (rest_from 0 0 text).tokens (rest_from 0 0 text).ending
ends_as text = go (lexed (length text) 0 text (omega arith))
  where
    go : Lexed 0 text (rest_from 0 0 text) → EndsAs text (rest_from 0 0 text).tokens (rest_from 0 0 text).ending
    go l = elim l.ends [
      | inl e ↦
          let m : ℕ = l.m in
          let within : m ≤ length text = l.within in
          let none : length (drop m text) ≡ 0 = ap (length {A = ℕ}) e.0 in
          let size : length (drop m text) ≡ length text - m = length-drop m text in
          let all : 0 + m ≡ length text = omega arith in
          subst (EndsAs text (rest_from 0 0 text).tokens) (sym e.1) (all, record { pieces = l.pieces; are = subst (ArePieces l.pieces text) e.0 l.are; found = l.found })
      | inr e ↦
          let m : ℕ = l.m in
          let all : m ≡ 0 + m = omega arith in
          subst (EndsAs text (rest_from 0 0 text).tokens) (sym e.1)
          (record { pieces = l.pieces; are = subst (λ (i : ℕ). ArePieces l.pieces text (drop i text)) all l.are; found = l.found }, subst (λ (i : ℕ). NothingBegins (drop i text)) all e.0)
    ]

-- ---- there is one way

no_piece_left : (p : Piece) (text : List ℕ) → text ≡ [] → piece_at text ≡ Some p → ⊥
unfolding piece_at ignored_at token_at
no_piece_left p [] e found = absurd cc
no_piece_left p (b ∷ text) e found = absurd cc

one_list : (ps qs : List Piece) (text : List ℕ) → ArePieces ps text [] → ArePieces qs text [] → ps ≡ qs
one_list [] [] text a b = refl
one_list [] (q ∷ qs) text a b = absurd (no_piece_left q text a b.0)
one_list (p ∷ ps) [] text a b = absurd (no_piece_left p text b a.0)
one_list (p ∷ ps) (q ∷ qs) text a b =
    let same : p ≡ q = same_piece (sym a.0 ∙ b.0) in
    let more : ps ≡ qs = one_list ps qs (drop p.length text) a.1 (subst (λ (r : Piece). ArePieces qs (drop r.length text) []) (sym same) b.1) in
    ap (λ (r : Piece). r ∷ ps) same ∙ ap (λ (rs : List Piece). q ∷ rs) more
  where
    same_piece : Some p ≡ Some q → p ≡ q
    same_piece e = cc

pub lex_unique : (text : List ℕ) (ts us : List Token) → Lex text ts → Lex text us → ts ≡ us
lex_unique text ts us a b = a.found ∙ ap (λ (ps : List Piece). tokens_among ps text 0) (one_list a.pieces b.pieces text a.are b.are) ∙ sym b.found

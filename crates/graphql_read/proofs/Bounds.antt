-- Where the tokens of a text are, and when the bound of nesting is passed.
use Rattle.std.proofs.Common.{◌≡◌, ℕ, ◌+◌, ◌-◌, ◌<◌, ◌≤◌, List, [], ◌∷◌, ◌++◌, length, take, drop, Option, Some, None, refl, sym, ap, subst, ◌∙◌, arith, append_assoc}
use Rattle.std.proofs.lemmas.List.{length-drop}
use Rattle.read_tokens.specs.Input.{Token, Ending, Ended, NoTokenAt}
use Rattle.read_tokens.specs.Lex.{Piece, ArePieces, with_token, tokens_among, LexesFront, Lex, NothingBegins}
use Rattle.read_tokens.specs.Cursor.{EndsAs}
use Rattle.read_tokens.specs.declared.token.TokenKind.{TokenKind}
use Rattle.read_tokens.proofs.Takes.{piece_takes}
use Rattle.read_grammar.specs.Depth.{depth}
use Rattle.read_grammar.specs.Faults as faults
use Rattle.read_grammar.specs.Faults.{Symbol, IsTokenAt}
use Rattle.read_grammar.proofs.Nests.{depth_front}
use Rattle.graphql_read.specs.Reads.{HasTree, NestingBound, ReadsWithin, IsDue}
use Rattle.graphql_read.specs.ReadFaults.{fault_view, LiesIn, PassesBound}
use Rattle.graphql_read.specs.declared.fault.ReadFault.{ReadFault}
use Rattle.graphql_read.specs.declared.fault.ReadFault.TheVariants.{Syntax, Nesting, Memory}
use Rattle.graphql_read.proofs.Endings.{no_piece_of_none, same_piece, ends_whole}

-- ---- prefixes of a text

-- these tokens begin those
abbrev Begin : List Token → List Token → Type 0
Begin ts us = (more : List Token) × (us ≡ ts ++ more)

with_token_begins : (kind : Option TokenKind) (text : List ℕ) (at : ℕ) (ts us : List Token) → Begin ts us → Begin (with_token kind text at ts) (with_token kind text at us)
with_token_begins None text at ts us b = b
with_token_begins (Some kind) text at ts us b = (b.0, ap (with_token (Some kind) text at) b.1)

-- the tokens of a front begin those of the text
front_begins : (ps qs : List Piece) (text following : List ℕ) (at : ℕ) → ArePieces ps text following → ArePieces qs text [] → Begin (tokens_among ps text at) (tokens_among qs text at)
front_begins [] qs text following at a b = (tokens_among qs text at, refl)
front_begins (p ∷ ps) [] text following at a b = absurd (no_piece_of_none text p b a.0)
front_begins (p ∷ ps) (q ∷ qs) text following at a b =
    let same : q ≡ p = same_piece q p (sym b.0 ∙ a.0) in
    let more : Begin (tokens_among ps (drop p.length text) (at + p.length)) (tokens_among qs (drop p.length text) (at + p.length)) =
    front_begins ps qs (drop p.length text) following (at + p.length) a.1 (subst (λ (r : Piece). ArePieces qs (drop r.length text) []) same b.1) in
    subst (λ (r : Piece). Begin (tokens_among (p ∷ ps) text at) (tokens_among (r ∷ qs) text at)) (sym same)
    (with_token_begins p.kind (take p.length text) at _ _ more)

-- where the whole text is within the limit, each front is
pub within_all : (nesting : ℕ) (text : List ℕ) (tokens : List Token) → Lex text tokens → depth tokens ≤ nesting → NestingBound nesting text → ⊥
within_all nesting text tokens lexed le passed =
    let front = passed.lexed in
    let begins : Begin (tokens_among front.pieces text 0) (tokens_among lexed.pieces text 0) = front_begins front.pieces lexed.pieces text passed.following 0 front.are lexed.are in
    let parts : tokens ≡ passed.tokens ++ begins.0 = lexed.found ∙ begins.1 ∙ ap (λ (ts : List Token). ts ++ begins.0) (sym front.found) in
    let less : depth passed.tokens ≤ depth (passed.tokens ++ begins.0) = depth_front passed.tokens begins.0 in
    let all : depth (passed.tokens ++ begins.0) ≤ nesting = subst (λ (ts : List Token). depth ts ≤ nesting) parts le in
    let deep : nesting < depth passed.tokens = passed.above in
    omega arith

-- the tokens of a text, however it ends, are those of a front
ends_front : (text : List ℕ) (tokens : List Token) (ending : Ending) → EndsAs text tokens ending → (following : List ℕ) × LexesFront text tokens following
ends_front text tokens (Ended at) ends = ([], ends.1)
ends_front text tokens (NoTokenAt at) ends = (drop at text, ends.0)

-- ---- where tokens are

-- a token begins before the end of the text
token_within : (ps : List Piece) (text following : List ℕ) (at : ℕ) (front rest : List Token) (token : Token) → ArePieces ps text following → tokens_among ps text at ≡ front ++ token ∷ rest → token.offset < at + length text
token_within [] text following at [] rest token a e = absurd cc
token_within [] text following at (x ∷ front) rest token a e = absurd cc
token_within (p ∷ ps) text following at front rest token a e =
    let takes = piece_takes text p a.0 in
    let some : 0 < p.length = takes.some in
    let fits : p.length ≤ length text = takes.within in
    let size : length (drop p.length text) ≡ length text - p.length = length-drop p.length text in
    by_kind p.kind front some fits (λ f m. let less : token.offset < (at + p.length) + length (drop p.length text) = token_within ps (drop p.length text) following (at + p.length) f rest token a.1 m in omega arith) e
  where
    others : List Token
    others = tokens_among ps (drop p.length text) (at + p.length)

    by_kind : (kind : Option TokenKind) (front : List Token) → 0 < p.length → p.length ≤ length text → ((f : List Token) → others ≡ f ++ token ∷ rest → token.offset < at + length text)
        → with_token kind (take p.length text) at others ≡ front ++ token ∷ rest → token.offset < at + length text
    by_kind None front some fits more e = more front e
    by_kind (Some kind) [] some fits more e = let here : at ≡ token.offset = ap (λ (ts : List Token). first_offset ts) e in omega arith
      where
        first_offset : List Token → ℕ
        first_offset [] = 0
        first_offset (t ∷ ts) = t.offset
    by_kind (Some kind) (x ∷ front) some fits more e = more front (ap rest_of e)
      where
        rest_of : List Token → List Token
        rest_of [] = []
        rest_of (t ∷ ts) = ts

-- the same of a token at an offset
stands_within : (text : List ℕ) (tokens front : List Token) (ending : Ending) (offset : ℕ) (token : Token) → EndsAs text tokens ending → IsTokenAt tokens front offset token → offset < length text
stands_within text tokens front ending offset token ends stands =
    let begin = ends_front text tokens ending ends in
    let less : token.offset < 0 + length text = token_within begin.1.pieces text begin.0 0 front stands.rest token begin.1.are (sym begin.1.found ∙ stands.parts) in
    let at : token.offset ≡ offset = stands.at in
    omega arith

some_left : (bytes : List ℕ) → NothingBegins bytes → 0 < length bytes
some_left [] nothing = absurd (nothing.some refl)
some_left (b ∷ bytes) nothing = omega arith

-- ---- faults

module _ {A : Type 0} (symbol : Symbol A) (nesting : ℕ) (text : List ℕ) where
  -- where the text has a tree within the limit, the bound is not passed
  pub not_passed : (tree : A) → ReadsWithin symbol nesting text tree → NestingBound nesting text → ⊥
  not_passed tree d = within_all nesting text d.reads.tokens d.reads.lexed d.within

  -- the place of a fault that is due is in the text
  pub lies_in : (fault : faults.Fault) → IsDue symbol nesting text fault → LiesIn text fault
  lies_in faults.Memory due = tt
  lies_in (faults.NoToken offset) due =
      let ends : EndsAs text due.tokens (NoTokenAt offset) = subst (EndsAs text due.tokens) due.says.0 due.lexed in
      let some : 0 < length (drop offset text) = some_left (drop offset text) ends.1 in
      let size : length (drop offset text) ≡ length text - offset = length-drop offset text in
      omega arith
  lies_in (faults.Unexpected offset) due = stands_within text due.tokens due.says.front due.ending offset due.says.token due.lexed due.says.stands
  lies_in (faults.End offset) due =
      let ends : EndsAs text due.tokens (Ended offset) = subst (EndsAs text due.tokens) due.says.0 due.lexed in
      ends.0
  lies_in (faults.Nesting offset) due = stands_within text due.tokens due.says.0.front due.ending offset due.says.0.token due.lexed due.says.0.stands

  -- where the fault is of nesting, the bound is passed
  pub is_passed : (offset : ℕ) → IsDue symbol nesting text (faults.Nesting offset) → NestingBound nesting text
  is_passed offset due =
      let says = due.says.0 in
      let front = ends_front text due.tokens due.ending due.lexed in
      let deep : List Token = says.front ++ says.token ∷ [] in
      let above : nesting < depth deep = says.above in
      let more : depth deep ≤ depth (deep ++ says.stands.rest) = depth_front deep says.stands.rest in
      let parts : deep ++ says.stands.rest ≡ due.tokens = append_assoc says.front (says.token ∷ []) says.stands.rest ∙ sym says.stands.parts in
      let same : depth (deep ++ says.stands.rest) ≡ depth due.tokens = ap depth parts in
      record { tokens = due.tokens; following = front.0; lexed = front.1; above = omega arith }

  pub passes_bound : (fault : ReadFault) → IsDue symbol nesting text (fault_view fault) → PassesBound nesting text fault
  passes_bound (Syntax fault) due = tt
  passes_bound (Nesting offset) due = is_passed offset due
  passes_bound Memory due = tt

  -- if the text has a tree and is within the bound, no fault but out of memory is due
  pub memory_alone : (fault : faults.Fault) → IsDue symbol nesting text fault → (tree : A) → HasTree symbol text tree → (NestingBound nesting text → ⊥) → fault ≡ faults.Memory
  memory_alone faults.Memory due tree r not = refl
  memory_alone (faults.NoToken offset) due tree r not =
      let whole = ends_whole text due.tokens due.ending r.tokens due.lexed r.lexed in
      let bad : Ended whole.0 ≡ NoTokenAt offset = sym whole.1 ∙ due.says.0 in
      absurd cc
  memory_alone (faults.Unexpected offset) due tree r not =
      let whole = ends_whole text due.tokens due.ending r.tokens due.lexed r.lexed in
      let says = due.says in
      let parts : r.tokens ≡ (says.front ++ says.token ∷ []) ++ says.stands.rest = whole.2 ∙ says.stands.parts ∙ sym (append_assoc says.front (says.token ∷ []) says.stands.rest) in
      absurd (says.begins_none says.stands.rest tree (subst (λ (ts : List Token). symbol ts tree) parts r.derived))
  memory_alone (faults.End offset) due tree r not =
      let whole = ends_whole text due.tokens due.ending r.tokens due.lexed r.lexed in
      absurd (due.says.1 tree (subst (λ (ts : List Token). symbol ts tree) whole.2 r.derived))
  memory_alone (faults.Nesting offset) due tree r not = absurd (not (is_passed offset due))

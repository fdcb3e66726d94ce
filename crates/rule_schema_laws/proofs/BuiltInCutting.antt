-- A text cut into pieces.
use Rattle.std.proofs.Common.{◌≡◌, ℕ, zero, suc, List, [], ◌∷◌, ◌++◌, drop, Option, Some, None, refl, sym, subst}
use Rattle.read_operations.specs.in_tokens.Lex.{Piece, piece_at, ArePieces}

abbrev pub cut_by : Option Piece → List ℕ → (List ℕ → List Piece) → List Piece
cut_by None text more = []
cut_by (Some p) text more = p ∷ more (drop p.length text)

-- the pieces of a text, so many at most
abbrev pub cut : ℕ → List ℕ → List Piece
cut zero text = []
cut (suc n) text = cut_by (piece_at text) text (λ following. cut n following)

abbrev pub left_by : Option Piece → List ℕ → (List ℕ → List ℕ) → List ℕ
left_by None text more = text
left_by (Some p) text more = more (drop p.length text)

-- what is after them
abbrev pub left : ℕ → List ℕ → List ℕ
left zero text = text
left (suc n) text = left_by (piece_at text) text (λ following. left n following)

pub cut_are : (n : ℕ) (text : List ℕ) → ArePieces (cut n text) text (left n text)
cut_are zero text = refl
cut_are (suc n) text = by (piece_at text) refl (λ t. cut_are n t)
  where
    by : (o : Option Piece) → piece_at text ≡ o → ((t : List ℕ) → ArePieces (cut n t) t (left n t))
        → ArePieces (cut_by o text (λ following. cut n following)) text (left_by o text (λ following. left n following))
    by None e more = refl
    by (Some p) e more = (e, more (drop p.length text))

-- pieces of a text up to a place, and those after it
pub join : (ps qs : List Piece) (text middle following : List ℕ) → ArePieces ps text middle → ArePieces qs middle following → ArePieces (ps ++ qs) text following
join [] qs text middle following a b = subst (λ (t : List ℕ). ArePieces qs t following) (sym a) b
join (p ∷ ps) qs text middle following a b = (a.0, join ps qs (drop p.length text) middle following a.1 b)

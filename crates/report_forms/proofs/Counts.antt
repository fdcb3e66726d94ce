-- The counts of a text's characters.
use Rattle.std.proofs.Common.{◌≡◌, ℕ, zero, suc, ◌+◌, ◌*◌, ◌/◌, ◌<◌, ◌≤◌, List, [], ◌∷◌, ◌++◌, length, get_or, refl, sym, ◌∙◌, ap, subst, arith, inl, inr, length-append, add-one}
use Rattle.std.proofs.lemmas.Bool.Decides.{leb_tells}
use Rattle.std.proofs.lemmas.List.{get_or_append_left, get_or_at}
use Rattle.report_forms.specs.Ends.{ends_character, how_many}
use Rattle.report_forms.specs.Starts.{counts_up_to}
use Rattle.report_forms.proofs.Counting.{how_many-split, how_many-bound}

pub length-counts : (text : List ℕ) (n : ℕ) → length (counts_up_to text n) ≡ n + 1
length-counts text zero = refl
length-counts text (suc n) =
    let one : ℕ = how_many (ends_character text) 0 (suc n * 64) in
    omega (arith, length-append (counts_up_to text n) (one ∷ []), length-counts text n)

-- each has its place
pub counted_at : (text : List ℕ) (n k d : ℕ) → k ≤ n → get_or (counts_up_to text n) k d ≡ how_many (ends_character text) 0 (k * 64)
counted_at text zero k d le =
    let e : k ≡ zero = omega arith in
    subst (λ (m : ℕ). get_or (counts_up_to text zero) m d ≡ how_many (ends_character text) 0 (m * 64)) (sym e) refl
counted_at text (suc n) k d le =
    let last : ℕ = how_many (ends_character text) 0 (suc n * 64) in
    elim (leb_tells k n) [
      | inl h ↦ get_or_append_left (counts_up_to text n) (last ∷ []) d k (omega (arith, h.1, length-counts text n)) ∙ counted_at text n k d h.1
      | inr h ↦
          let e : k ≡ suc n = omega (arith, h.1) in
          subst (λ (m : ℕ). get_or (counts_up_to text (suc n)) m d ≡ how_many (ends_character text) 0 (m * 64)) (sym e)
          (get_or_at (counts_up_to text n) last [] d (suc n) (omega (arith, length-counts text n)))
    ]

-- a piece is in the text
pub piece_within : (n piece : ℕ) → piece < n / 64 → piece * 64 + 64 ≤ n
piece_within n piece less = omega arith

pub piece_of : (place n : ℕ) → place ≤ n → place / 64 ≤ n / 64
piece_of place n le = omega arith

pub piece_before : (place : ℕ) → place / 64 * 64 ≤ place
piece_before place = omega arith

-- with one more piece
pub count_more : (text : List ℕ) (piece count between : ℕ) → count ≡ how_many (ends_character text) 0 (piece * 64)
    → between ≡ how_many (ends_character text) (piece * 64) (piece * 64 + 64) → count + between ≡ how_many (ends_character text) 0 ((piece + 1) * 64)
count_more text piece count between c b =
    let e : piece * 64 + 64 ≡ (piece + 1) * 64 = omega arith in
    subst (λ (n : ℕ). count + between ≡ how_many (ends_character text) 0 n) e
    (omega (arith, c, b, how_many-split (ends_character text) 0 (piece * 64) (piece * 64 + 64) (omega arith) (omega arith)))

pub counts_more : (text : List ℕ) (piece count : ℕ) (old new : List ℕ) → old ≡ counts_up_to text piece → count ≡ how_many (ends_character text) 0 ((piece + 1) * 64)
    → new ≡ old ++ count ∷ [] → new ≡ counts_up_to text (piece + 1)
counts_more text piece count old new o c n =
    n ∙ ap (λ l. l ++ count ∷ []) o ∙ ap (λ x. counts_up_to text piece ++ x ∷ []) (c ∙ ap (λ (k : ℕ). how_many (ends_character text) 0 (k * 64)) (add-one piece))
    ∙ ap (counts_up_to text) (sym (add-one piece))

-- the count of a piece, and the characters from there on
pub counted_up_to : (text counts : List ℕ) (place between : ℕ) → counts ≡ counts_up_to text (length text / 64) → place ≤ length text
    → between ≡ how_many (ends_character text) (place / 64 * 64) place → get_or counts (place / 64) 0 + between ≡ how_many (ends_character text) 0 place
counted_up_to text counts place between is within b =
    let one : get_or counts (place / 64) 0 ≡ how_many (ends_character text) 0 (place / 64 * 64) =
    ap (λ l. get_or l (place / 64) 0) is ∙ counted_at text (length text / 64) (place / 64) 0 (piece_of place (length text) within) in
    omega (arith, one, b, how_many-split (ends_character text) 0 (place / 64 * 64) place (omega arith) (piece_before place))

-- of a line, those that end up to the place but not up to the line's start
pub counted_between : (text : List ℕ) (start place before upto : ℕ) → start ≤ place → before ≡ how_many (ends_character text) 0 start
    → upto ≡ how_many (ends_character text) 0 place → upto ≡ before + how_many (ends_character text) start place
counted_between text start place before upto le b u = u ∙ how_many-split (ends_character text) 0 start place (omega arith) le ∙ ap (λ x. x + how_many (ends_character text) start place) (sym b)

pub counted_bound : (text : List ℕ) (place count : ℕ) → count ≡ how_many (ends_character text) 0 place → count ≤ place
counted_bound text place count c = omega (arith, c, how_many-bound (ends_character text) 0 place)

-- What begins with a quotation mark, and a text between two marks.
use Rattle.std.proofs.Common.{◌≡◌, ℕ, ◌+◌, ◌-◌, Bool, true, false, cond, ◌&&◌, ◌==◌, List, [], ◌∷◌, ◌++◌, length, take, drop, Some, None, refl, sym, ap, ◌∙◌, arith, append_assoc, length-append}
use Rattle.std.proofs.lemmas.Bool.{and_from, eq-eqb}
use Rattle.std.proofs.lemmas.List.{drop_at, take_at}
use Rattle.read_tokens.specs.Bytes.{begins_with, between}
use Rattle.read_tokens.specs.Strings.{closed_len}

-- no quotation mark begins it
abbrev pub NoMark : List ℕ → Type 0
NoMark bytes = begins_with (34 ∷ []) bytes ≡ false

pub none_begin : (bytes others : List ℕ) → NoMark bytes → begins_with (34 ∷ others) bytes ≡ false
none_begin [] others h = refl
none_begin (b ∷ bytes) others h = go (b == 34) h
  where
    go : (t : Bool) → (t && true) ≡ false → (t && begins_with others bytes) ≡ false
    go true e = absurd cc
    go false e = refl

-- ---- a text between marks

begins_itself : (mark following : List ℕ) → begins_with mark (mark ++ following) ≡ true
begins_itself [] following = refl
begins_itself (b ∷ mark) following = and_from (b == b) (begins_with mark (mark ++ following)) (eq-eqb b b refl) (begins_itself mark following)

-- what is closed is as long as the text with both marks
pub closed : (mark text following : List ℕ) (n : ℕ) → n ≡ length text → closed_len mark n (mark ++ (text ++ (mark ++ following))) ≡ Some (length (mark ++ (text ++ mark)))
closed mark text following n e =
    ap (λ (bytes : List ℕ). cond (begins_with mark (drop (length mark + n) bytes)) (Some (length mark + n + length mark)) None) (sym (append_assoc mark text (mark ++ following)))
    ∙ ap (λ (bytes : List ℕ). cond (begins_with mark bytes) (Some (length mark + n + length mark)) None) (drop_at (mark ++ text) (mark ++ following) (length mark + n) front)
    ∙ ap (λ (t : Bool). cond t (Some (length mark + n + length mark)) None) (begins_itself mark following)
    ∙ ap Some whole
  where
    front : length (mark ++ text) ≡ length mark + n
    front = length-append mark text ∙ ap (λ (m : ℕ). length mark + m) (sym e)

    whole : length mark + n + length mark ≡ length (mark ++ (text ++ mark))
    whole = omega (arith, length-append mark (text ++ mark), length-append text mark)

pub within : (mark text : List ℕ) → between (length mark) (mark ++ (text ++ mark)) ≡ text
within mark text =
    ap (take (length (mark ++ (text ++ mark)) - length mark - length mark)) (drop_at mark (text ++ mark) (length mark) refl)
    ∙ ap (λ (n : ℕ). take n (text ++ mark)) left
    ∙ take_at text mark (length text) refl
  where
    left : length (mark ++ (text ++ mark)) - length mark - length mark ≡ length text
    left = omega (arith, length-append mark (text ++ mark), length-append text mark)

-- A text that goes out in runs, and where the runs end.
use Rattle.std.proofs.Common.{length-drop, get_or-drop, ◌≡◌, ℕ, zero, suc, ◌+◌, ◌-◌, ◌<◌, ◌≤◌, Bool, ◌||◌, inl, inr, List, [], ◌∷◌, ◌++◌, length, take, drop, get_or, true, false, codes, refl, sym, ap, ◌∙◌, subst, arith, add-one, append_assoc}
use Rattle.std.proofs.lemmas.Grind.{common_steps}
use Rattle.std.proofs.lemmas.Str.{IsCharBoundary-after_ascii}
use Rattle.std.proofs.lemmas.Bool.{cases_order}
use Rattle.std.proofs.lemmas.List.{get_or-take, length-take-le}
use Rattle.std.specs.Prelude.{slice_range}
use Rattle.std.specs.List.{list_any}
use Rattle.std.specs.Str.{IsUtf8, IsCharBoundary}
use Rattle.tree_literals.specs.Joined.{joined, joined-push}
use Rattle.tree_literals.specs.StringLayout.{escaped_byte, escaped_text, block_escaped, is_quotes}
use Rattle.tree_literals.specs.EscapeRuns.{must_escape, FirstEscape, begins_with_quotes, FirstQuotes}

-- texts that were put make up what is written of a text, but for what is written of its rest
pub record PutSoFar {S : Type 0} (puts : S → List ℕ → S → Type 0) (s t : S) (written : List ℕ → List ℕ) (rest text : List ℕ) : Type 0 where
  pub done : List (List ℕ)
  pub put : puts s (joined done) t
  pub whole : joined done ++ written rest ≡ written text

module _ {S : Type 0} (puts : S → List ℕ → S → Type 0) (none : (s : S) → puts s (joined []) s) (more : (s t u : S) (texts : List (List ℕ)) (text : List ℕ) → puts s (joined texts) t → puts t text u → puts s (joined (texts ++ text ∷ [])) u) (written : List ℕ → List ℕ) where
  pub so_far-none : (s : S) (text : List ℕ) → PutSoFar puts s s written text text
  unfolding joined
  so_far-none s text = record { done = []; put = none s; whole = refl }

  pub so_far-more : (s t u v : S) (rest text run piece next : List ℕ) → PutSoFar puts s t written rest text → puts t run u → puts u piece v → written rest ≡ run ++ (piece ++ written next) → PutSoFar puts s v written next text
  so_far-more s t u v rest text run piece next p a b e = record {
    done = (p.done ++ run ∷ []) ++ piece ∷ [];
    put = more s u v (p.done ++ run ∷ []) piece (more s t u p.done run p.put a) b;
    whole =
        rw (joined-push (p.done ++ run ∷ []) piece, joined-push p.done run, append_assoc (joined p.done ++ run) piece (written next), append_assoc (joined p.done) run (piece ++ written next), ← e) p.whole;
  }

  pub so_far-all : (s t u : S) (rest text : List ℕ) → PutSoFar puts s t written rest text → puts t rest u → written rest ≡ rest → puts s (written text) u
  so_far-all s t u rest text p a e =
      subst (λ x. puts s x u) (joined-push p.done rest ∙ ap (λ x. joined p.done ++ x) (sym e) ∙ p.whole) (more s t u p.done rest p.put a)

raw_byte : (b : ℕ) → must_escape b ≡ false → escaped_byte b ≡ b ∷ []
raw_byte b h = grind (arith, common_steps)

pub escape_ascii : (b : ℕ) → must_escape b ≡ true → b < 128
escape_ascii b h = grind (arith, common_steps)

pub raw_all : (s : List ℕ) → ((k : ℕ) → k < length s → must_escape (get_or s k 0) ≡ false) → escaped_text s ≡ s
unfolding joined
raw_all [] h = refl
raw_all (b ∷ s) h = rw (raw_byte b (h 0 (omega arith)), raw_all s (λ k l. h (suc k) (omega arith))) refl

raw_front : (n : ℕ) (s : List ℕ) → n < length s → ((k : ℕ) → k < n → must_escape (get_or s k 0) ≡ false) → escaped_text s ≡ take n s ++ (escaped_byte (get_or s n 0) ++ escaped_text (drop (suc n) s))
unfolding joined
raw_front n [] l h = absurd (omega arith)
raw_front zero (b ∷ s) l h = refl
raw_front (suc n) (b ∷ s) l h = rw (raw_byte b (h 0 (omega arith))) (ap (λ x. b ∷ x) (raw_front n s (omega arith) (λ k m. h (suc k) (omega arith))))

pub first_escape-at : (n : ℕ) (s : List ℕ) → n < length s → ((k : ℕ) → k < n → must_escape (get_or s k 0) ≡ false) → must_escape (get_or s n 0) ≡ true → FirstEscape s n
first_escape-at n s l h e = record { within = l; here = e; parts = rw add-one (raw_front n s l h) }

-- the same where the parts have other names
pub escape_parts : (rest run bytes next : List ℕ) (i : ℕ) → FirstEscape rest i → run ≡ take i rest → bytes ≡ rest → next ≡ drop (i + 1) rest → escaped_text rest ≡ run ++ (escaped_byte (get_or bytes i 0) ++ escaped_text next)
escape_parts rest run bytes next i f p q r = rw (p, q, r) f.parts

pub quotes_all : (s : List ℕ) → ((k : ℕ) → k < length s → begins_with_quotes (drop k s) ≡ false) → block_escaped s ≡ s
quotes_all [] h = refl
quotes_all (a ∷ []) h = refl
quotes_all (a ∷ b ∷ []) h = refl
quotes_all (a ∷ b ∷ c ∷ s) h =
    let here : is_quotes a b c ≡ false = h 0 (omega arith) in
    rw here (ap (λ x. a ∷ x) (quotes_all (b ∷ c ∷ s) (λ k l. h (suc k) (omega arith))))

quotes_front : (n : ℕ) (s : List ℕ) → ((k : ℕ) → k < n → begins_with_quotes (drop k s) ≡ false) → begins_with_quotes (drop n s) ≡ true → block_escaped s ≡ take n s ++ (codes "\\\"\"\"" ++ block_escaped (drop (suc (suc (suc n))) s))
quotes_front zero [] h e = cc
quotes_front zero (a ∷ []) h e = cc
quotes_front zero (a ∷ b ∷ []) h e = cc
quotes_front zero (a ∷ b ∷ c ∷ s) h e = rw e refl
quotes_front (suc n) [] h e = cc
quotes_front (suc zero) (a ∷ []) h e = cc
quotes_front (suc (suc n)) (a ∷ []) h e = cc
quotes_front (suc zero) (a ∷ b ∷ []) h e = cc
quotes_front (suc (suc zero)) (a ∷ b ∷ []) h e = cc
quotes_front (suc (suc (suc n))) (a ∷ b ∷ []) h e = cc
quotes_front (suc n) (a ∷ b ∷ c ∷ s) h e =
    let here : is_quotes a b c ≡ false = h 0 (omega arith) in
    rw here (ap (λ x. a ∷ x) (quotes_front n (b ∷ c ∷ s) (λ k l. h (suc k) (omega arith)) e))

quotes_here : (s : List ℕ) → begins_with_quotes s ≡ true → (2 < length s) × (get_or s 0 0 ≡ 34) × (get_or s 2 0 ≡ 34)
quotes_here [] e = cc
quotes_here (a ∷ []) e = cc
quotes_here (a ∷ b ∷ []) e = cc
quotes_here (a ∷ b ∷ c ∷ s) e = (omega arith, grind (arith, common_steps), grind (arith, common_steps))

pub first_quotes-at : (n : ℕ) (s : List ℕ) → n < length s → ((k : ℕ) → k < n → begins_with_quotes (drop k s) ≡ false) → begins_with_quotes (drop n s) ≡ true → FirstQuotes s n
first_quotes-at n s l h e =
    let here = quotes_here (drop n s) e in
    record {
      within = omega (arith, here.0, length-drop n s);
      first =
          let same : n + 0 ≡ n = omega arith in
          subst (λ k. get_or s k 0 ≡ 34) same (sym (get_or-drop n s 0 0) ∙ here.1);
      last = sym (get_or-drop n s 2 0) ∙ here.2;
      parts =
          let third : n + 3 ≡ suc (suc (suc n)) = omega arith in
          subst (λ k. block_escaped s ≡ take n s ++ (codes "\\\"\"\"" ++ block_escaped (drop k s))) (sym third) (quotes_front n s h e);
    }

pub quotes_parts : (rest run next : List ℕ) (i : ℕ) → FirstQuotes rest i → run ≡ take i rest → next ≡ drop (i + 3) rest → block_escaped rest ≡ run ++ (codes "\\\"\"\"" ++ block_escaped next)
quotes_parts rest run next i f p r = rw (p, r) f.parts

-- a text may be cut after its first """
pub quotes_boundary : (text : List ℕ) (i : ℕ) → IsUtf8 text → FirstQuotes text i → IsCharBoundary text (i + 3)
quotes_boundary text i u f =
    let third : i + 2 + 1 ≡ i + 3 = omega arith in
    subst (IsCharBoundary text) third (IsCharBoundary-after_ascii text (i + 2) u f.within (omega (arith, f.last)))

-- ---- sixteen at a time

none_at : (bytes : List ℕ) (k : ℕ) → list_any must_escape bytes ≡ false → k < length bytes → must_escape (get_or bytes k 0) ≡ false
none_at [] k h below = absurd (omega arith)
none_at (b ∷ bytes) k h below = go (must_escape b) refl h k below (λ j none less. none_at bytes j none less)
  where
    go : (t : Bool) → must_escape b ≡ t → t || list_any must_escape bytes ≡ false → (k : ℕ) → k < suc (length bytes)
        → ((j : ℕ) → list_any must_escape bytes ≡ false → j < length bytes → must_escape (get_or bytes j 0) ≡ false) → must_escape (get_or (b ∷ bytes) k 0) ≡ false
    go true e h k below more = absurd cc
    go false e h zero below more = e
    go false e h (suc k) below more = more k h (omega arith)

-- where the first n bytes are plain, and the next sixteen, all these are
pub sixteen_more : (bytes : List ℕ) (n : ℕ) → n + 16 ≤ length bytes → ((k : ℕ) → k < n → must_escape (get_or bytes k 0) ≡ false)
    → list_any must_escape (slice_range bytes n (n + 16)) ≡ false → (k : ℕ) → k < n + 16 → must_escape (get_or bytes k 0) ≡ false
sixteen_more bytes n within front next k below = elim (cases_order k n) [
  | inl is ↦ following (omega arith)
  | inr h ↦ elim h [
    | inl less ↦ front k less
    | inr more ↦ following (omega arith)
  ]
]
  where
    run : List ℕ
    run = slice_range bytes n (n + 16)

    following : n ≤ k → must_escape (get_or bytes k 0) ≡ false
    following from =
        let long : length (drop n bytes) ≡ length bytes - n = length-drop n bytes in
        let room : (n + 16) - n ≤ length (drop n bytes) = omega arith in
        let size : length run ≡ (n + 16) - n = length-take-le ((n + 16) - n) (drop n bytes) room in
        let at : n + (k - n) ≡ k = omega arith in
        let inside : k - n < (n + 16) - n = omega arith in
        let same : get_or run (k - n) 0 ≡ get_or bytes k 0 = get_or-take ((n + 16) - n) (drop n bytes) (k - n) 0 inside ∙ get_or-drop n bytes (k - n) 0 ∙ ap (λ (i : ℕ). get_or bytes i 0) at in
        let within_run : k - n < length run = omega arith in
        ap must_escape (sym same) ∙ none_at run (k - n) next within_run

-- Texts with separators between them.
use Rattle.std.proofs.Common.{◌≡◌, ℕ, true, List, [], ◌∷◌, ◌++◌, sym, ap, ◌∙◌, append_assoc, append-nil}
use Rattle.round_trip.specs.in_literals.Joined.{joined, further_text, separated}
use Rattle.round_trip.specs.Printed.{ends_word}

-- a separator, a text, and those after them
pub further_is : (separator text : List ℕ) (texts : List (List ℕ)) → separator ++ (text ++ further_text separator texts) ≡ further_text separator (text ∷ texts)
unfolding joined
further_is separator text texts =
    ap (λ (l : List ℕ). separator ++ (l ++ further_text separator texts)) (sym (append-nil text))
    ∙ sym (append_assoc separator (text ++ []) (further_text separator texts))

pub separated_is : (separator text : List ℕ) (texts : List (List ℕ)) → text ++ further_text separator texts ≡ separated separator (text ∷ texts)
unfolding joined
separated_is separator text texts = ap (λ (l : List ℕ). text ++ l) (sym (append-nil (further_text separator texts)))

-- a separator ends a word
pub further_ends : (b : ℕ) (separator : List ℕ) (texts : List (List ℕ)) (following : List ℕ) → ends_word (b ∷ []) ≡ true → ends_word following ≡ true → ends_word (further_text (b ∷ separator) texts ++ following) ≡ true
unfolding joined
further_ends b separator [] following h k = k
further_ends b separator (text ∷ texts) following h k = h

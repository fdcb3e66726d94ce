-- Texts one after another.
use Rattle.std.specs.Prelude.{◌≡◌, ℕ, List, [], ◌∷◌, ◌++◌, map}
use Rattle.std.proofs.Common.{append-nil, append_assoc, sym, ap, ◌∙◌}

-- the texts, one after another
unfoldable pub joined : List (List ℕ) → List ℕ
joined [] = []
joined (text ∷ texts) = text ++ joined texts

-- a text with a separator before it
abbrev pub after : List ℕ → List ℕ → List ℕ
after separator text = joined (separator ∷ text ∷ [])

-- further texts, each with a separator before it
abbrev pub further_text : List ℕ → List (List ℕ) → List ℕ
further_text separator texts = joined (map (after separator) texts)

-- the texts, with a separator between each two
abbrev pub separated : List ℕ → List (List ℕ) → List ℕ
separated separator [] = joined []
separated separator (text ∷ texts) = joined (text ∷ further_text separator texts ∷ [])

-- to join texts and one more is to append that one to the joined texts
pub joined-push : (texts : List (List ℕ)) (text : List ℕ) → joined (texts ++ text ∷ []) ≡ joined texts ++ text
unfolding joined
joined-push [] text = append-nil text
joined-push (first ∷ texts) text = ap (λ l. first ++ l) (joined-push texts text) ∙ sym (append_assoc first (joined texts) text)

-- Private: leads to `Lines`. The places at which lines begin, and how many characters end up to each 64th place.
use Rattle.std.specs.Prelude.{◌≡◌, ℕ, zero, suc, ◌*◌, ◌/◌, List, [], ◌∷◌, ◌++◌, length, if◌then◌else◌}
use Rattle.report_forms.specs.Ends.{ends_line, ends_character, how_many}

-- the places at which lines begin, up to the last argument, in order
abbrev pub starts_up_to : List ℕ → ℕ → List ℕ
starts_up_to text zero = 0 ∷ []
starts_up_to text (suc n) = if ends_line text (suc n) then starts_up_to text n ++ (suc n ∷ []) else starts_up_to text n

-- how many characters end at or before the places that have 0, 64, 128 and so on bytes before them
abbrev pub counts_up_to : List ℕ → ℕ → List ℕ
counts_up_to text zero = 0 ∷ []
counts_up_to text (suc n) = counts_up_to text n ++ (how_many (ends_character text) 0 (suc n * 64) ∷ [])

-- the places and the counts of a text
pub record IsIndexed (text starts counts : List ℕ) : Type 0 where
  pub of_lines : starts ≡ starts_up_to text (length text)
  pub of_characters : counts ≡ counts_up_to text (length text / 64)

-- Lists of items and names in words, given each item's text; the result is None if a text that is needed is not
-- known.
use Rattle.std.specs.Prelude.{ℕ, List, [], ◌∷◌, codes, Option, None, Some}
use Rattle.std.specs.Fmt.{option_append}

module _ {A : Type 0} (text : A → Option (List ℕ)) where
  -- an item after another: `, ` and its text
  abbrev pub further_item : A → Option (List ℕ)
  further_item x = option_append (Some (codes ", ")) (text x)

  abbrev pub further_items : List A → Option (List ℕ)
  further_items [] = Some []
  further_items (x ∷ xs) = option_append (further_item x) (further_items xs)

  -- the items' texts, joined by `, `
  abbrev pub comma_separated : List A → Option (List ℕ)
  comma_separated [] = Some []
  comma_separated (x ∷ xs) = option_append (text x) (further_items xs)

  -- the prefix, a space and the name in backticks; without a name, `anon`
  abbrev pub name_or_anon : List ℕ → List ℕ → Option A → Option (List ℕ)
  name_or_anon prefix anon None = Some anon
  name_or_anon prefix anon (Some name) =
      option_append (Some prefix) (option_append (Some (codes " `")) (option_append (text name) (Some (codes "`"))))

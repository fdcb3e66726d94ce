-- Private: leads to `escaped_text` and `block_escaped`. Where the next byte, or the next """, of a text is that must be escaped.
use Rattle.std.specs.Prelude.{◌≡◌, ℕ, ◌<◌, ◌+◌, ◌==◌, nat_lt, Bool, true, false, ◌||◌, List, [], ◌∷◌, ◌++◌, length, take, drop, slice_index, codes}
use Rattle.tree_literals.specs.StringLayout.{escaped_byte, escaped_text, block_escaped, is_quotes}

abbrev pub must_escape : ℕ → Bool
must_escape b = nat_lt b 32 || (b == 34) || (b == 92) || (b == 127)

-- the first byte that is escaped is at i
pub record FirstEscape (text : List ℕ) (i : ℕ) : Type 0 where
  pub within : i < length text
  pub here : must_escape (slice_index text i) ≡ true
  pub parts : escaped_text text ≡ take i text ++ (escaped_byte (slice_index text i) ++ escaped_text (drop (i + 1) text))

abbrev pub begins_with_quotes : List ℕ → Bool
begins_with_quotes [] = false
begins_with_quotes (a ∷ []) = false
begins_with_quotes (a ∷ b ∷ []) = false
begins_with_quotes (a ∷ b ∷ c ∷ text) = is_quotes a b c

-- the first """ is at i
pub record FirstQuotes (text : List ℕ) (i : ℕ) : Type 0 where
  pub within : i + 2 < length text
  pub first : slice_index text i ≡ 34
  pub last : slice_index text (i + 2) ≡ 34
  pub parts : block_escaped text ≡ take i text ++ (codes "\\\"\"\"" ++ block_escaped (drop (i + 3) text))

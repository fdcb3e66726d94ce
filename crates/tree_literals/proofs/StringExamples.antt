-- The layout of small strings and descriptions, computed. The texts are written by hand.
use Rattle.std.proofs.Common.{◌≡◌, ℕ, List, [], ◌∷◌, ◌++◌, codes, true, false, None, Some, refl}
use Rattle.tree_literals.specs.Joined.{joined}
use Rattle.graphql_names.specs.Placed.{Text}
use Rattle.tree_literals.specs.LineLayout.{Prefix}
use Rattle.tree_literals.specs.StringLayout.{quoted_text, can_be_block_string, description_text}

abbrev U : Type 0
U = Unit {0}

abbrev text : List ℕ → Text U
text t = record { it = t; place = tt }

abbrev two : Prefix
two = Some (codes "  ")

-- escapes: quotation mark, backslash, LF, CR, tab, BS, FF, NUL, U+001F, U+007F; the slash and é as they are
escapes : quoted_text (34 ∷ 92 ∷ 10 ∷ 13 ∷ 9 ∷ 8 ∷ 12 ∷ 0 ∷ 31 ∷ 127 ∷ 47 ∷ 195 ∷ 169 ∷ []) ≡ codes "\"\\\"\\\\\\n\\r\\t\\b\\f\\u0000\\u001F\\u007F/" ++ (195 ∷ 169 ∷ 34 ∷ [])
unfolding joined
escapes = refl

-- descriptions
abbrev described : Prefix → ℕ → List ℕ → List ℕ
described prefix level t = description_text prefix level (Some (text t))

two_lines : described two 0 (codes "x\ny") ≡ codes "\"\"\"\nx\ny\n\"\"\"\n"
unfolding joined
two_lines = refl

two_lines_in_line : described None 0 (codes "x\ny") ≡ codes "\"x\\ny\" "
unfolding joined
two_lines_in_line = refl

one_line : described two 1 (codes "x") ≡ codes "\"x\"\n  "
unfolding joined
one_line = refl

lines_deeper : described two 1 (codes "x\n\n  \"\"\"\"\ny") ≡ codes "\"\"\"\n  x\n\n    \\\"\"\"\"\n  y\n  \"\"\"\n  "
unfolding joined
lines_deeper = refl

first_line_blank : can_be_block_string (codes " \nx") ≡ false
first_line_blank = refl

last_line_blank : can_be_block_string (codes "x\n") ≡ false
last_line_blank = refl

none_at_margin : can_be_block_string (codes " x\n\ty") ≡ false
none_at_margin = refl

one_at_margin : can_be_block_string (codes " x\n\ny\n z") ≡ true
one_at_margin = refl

carriage_return : can_be_block_string (codes "x\r\ny") ≡ false
carriage_return = refl

nothing : can_be_block_string [] ≡ false
nothing = refl

first_line_blank_on_lines : described two 0 (codes " \nx") ≡ codes "\" \\nx\"\n"
unfolding joined
first_line_blank_on_lines = refl

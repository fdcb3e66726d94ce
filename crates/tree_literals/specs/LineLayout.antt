-- What is between and around the parts of a text, in both kinds of layout.
--
-- A layout is an optional prefix and a level. Without a prefix, everything is on one line. With a prefix, each member is
-- on a line of its own, and a line at level n begins with n prefixes, unless it is empty.
use Rattle.std.specs.Prelude.{ℕ, ◌+◌, List, [], ◌∷◌, map, replicate, codes, Option, None, Some}
use Rattle.tree_literals.specs.Joined.{joined, further_text}
use Rattle.graphql_names.specs.Placed.{Placed}

-- the prefix of a layout that has lines; `None` for a layout of one line
abbrev pub Prefix : Type 0
Prefix = Option (List ℕ)

-- the default prefix of `serialize()`
abbrev pub default_prefix : Prefix
default_prefix = Some (codes "  ")

-- a text that depends on its level
abbrev pub Leveled : Type 0
Leveled = ℕ → List ℕ

-- what begins a line at a level
abbrev pub line_start : List ℕ → ℕ → List ℕ
line_start prefix level = joined (replicate level prefix)

-- what begins the first line of the whole text
abbrev pub start_text : Prefix → ℕ → List ℕ
start_text None level = joined []
start_text (Some prefix) level = line_start prefix level

-- a text by itself, with the start of its first line
abbrev pub standing : Prefix → ℕ → List ℕ → List ℕ
standing prefix level text = joined (start_text prefix level ∷ text ∷ [])

-- from one line to the next: a line feed and the start of the next line; in a layout of one line, a space
abbrev pub break_text : Prefix → ℕ → List ℕ
break_text None level = codes " "
break_text (Some prefix) level = joined (codes "\n" ∷ line_start prefix level ∷ [])

-- a member on a line of its own
abbrev pub member_text : Prefix → ℕ → Leveled → List ℕ
member_text prefix level member = joined (break_text prefix level ∷ member level ∷ [])

abbrev pub members_text : Prefix → ℕ → List Leveled → List ℕ
members_text prefix level members = joined (map (member_text prefix level) members)

-- { members }, the members one level deeper; the empty text without members
abbrev pub braced_text : Prefix → ℕ → List Leveled → List ℕ
braced_text prefix level [] = joined []
braced_text prefix level (member ∷ members) = joined (codes "{" ∷ members_text prefix (level + 1) (member ∷ members) ∷ break_text prefix level ∷ codes "}" ∷ [])

-- the same with a space before it
abbrev pub set_text : Prefix → ℕ → List Leveled → List ℕ
set_text prefix level [] = joined []
set_text prefix level (member ∷ members) = joined (codes " {" ∷ members_text prefix (level + 1) (member ∷ members) ∷ break_text prefix level ∷ codes "}" ∷ [])

-- (members); the empty text without members
abbrev pub parenthesized_text : List (List ℕ) → List ℕ
parenthesized_text [] = joined []
parenthesized_text (text ∷ texts) = joined (codes "(" ∷ text ∷ further_text (codes ", ") texts ∷ codes ")" ∷ [])

-- the texts of the members of a list, ignoring places
abbrev pub texts_of : {P A X : Type 0} → (A → X) → List (Placed P A) → List X
texts_of f ns = map (λ n. f n.it) ns

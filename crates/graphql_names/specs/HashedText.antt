-- What a text writes to a hasher.
use Rattle.std.specs.Prelude.{ℕ, zero, suc, ◌/◌, List, [], ◌∷◌, length, take, drop}
use Rattle.std.specs.Hash.{HashWrites}

-- this many pieces of eight bytes each, and then the rest of the text
abbrev pub pieces : ℕ → List ℕ → HashWrites
pieces zero text = text ∷ []
pieces (suc n) text = take 8 text ∷ pieces n (drop 8 text)

-- the whole pieces of a text, and then the rest, which is shorter and may be empty
unfoldable pub hashed_text : List ℕ → HashWrites
hashed_text text = pieces (length text / 8) text

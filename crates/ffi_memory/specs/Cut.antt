-- Texts one after the other, with their ends.
use Rattle.std.specs.Prelude.{◌≡◌, ℕ, ◌+◌, List, [], ◌∷◌, length, IsUtf8}
use Rattle.std.specs.List.{All, concat}
use Rattle.ffi_memory.specs.declared.texts.TextsFault.{TextsFault}
use Rattle.ffi_memory.specs.declared.texts.TextsFault.TheVariants.{Memory, Ends, NotUtf8}

-- the end of each of the texts, if the first begins at `start`
abbrev pub ends_of : ℕ → List (List ℕ) → List ℕ
ends_of start [] = []
ends_of start (text ∷ texts) = (start + length text) ∷ ends_of (start + length text) texts

-- the bytes are the texts one after the other, and these are their ends, if the first begins at `start`
abbrev pub IsCutFrom : ℕ → List ℕ → List ℕ → List (List ℕ) → Type 0
IsCutFrom start bytes ends texts = (bytes ≡ concat texts) × (ends ≡ ends_of start texts)

-- the bytes are the texts one after the other, and these are their ends
abbrev pub IsCut : List ℕ → List ℕ → List (List ℕ) → Type 0
IsCut bytes ends texts = IsCutFrom 0 bytes ends texts

-- when each fault is answered
abbrev pub IsTextsFault : List ℕ → List ℕ → TextsFault → Type 0
IsTextsFault bytes ends Memory = Unit {0}
IsTextsFault bytes ends Ends = (texts : List (List ℕ)) → IsCut bytes ends texts → ⊥
IsTextsFault bytes ends NotUtf8 = (texts : List (List ℕ)) × (IsCut bytes ends texts × (All IsUtf8 texts → ⊥))

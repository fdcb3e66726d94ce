-- The texts of a schema that is held, under their names.
use Rattle.std.specs.Prelude.{◌≢◌, ℕ, List, length, map, ◌⊎◌, IsUtf8}
use Rattle.std.specs.List.{All}
use Rattle.ffi_memory.specs.declared.texts.TextsFault.{TextsFault}
use Rattle.ffi_memory.specs.declared.texts.TextsFault.TheVariants.{Memory, Ends, NotUtf8}
use Rattle.ffi_memory.specs.Cut.{IsCut}
use Rattle.graphql_checked_c.specs.declared.held.HeldText.{HeldText}

-- the name of a text
abbrev pub path_of : HeldText → List ℕ
path_of text = text.path.now

-- the bytes of a text
abbrev pub text_of : HeldText → List ℕ
text_of text = text.lines

-- the bytes are those of these texts, with these ends, and of their names, with their ends
abbrev pub AreHeld : List ℕ → List ℕ → List ℕ → List ℕ → List HeldText → Type 0
AreHeld names name_ends texts ends held = IsCut names name_ends (map path_of held) × IsCut texts ends (map text_of held)

-- the bytes are not those of texts with these ends
abbrev pub IsNoCut : List ℕ → List ℕ → Type 0
IsNoCut texts ends = (pieces : List (List ℕ)) → IsCut texts ends pieces → ⊥

-- the names or the texts do not have these ends, or there are more of one than of the other
abbrev pub AreNotNamed : List ℕ → List ℕ → List ℕ → List ℕ → Type 0
AreNotNamed names name_ends texts ends = IsNoCut names name_ends ⊎ IsNoCut texts ends ⊎ (length name_ends ≢ length ends)

-- the bytes are those of texts with these ends, one of which is not UTF-8
abbrev pub HasNotUtf8 : List ℕ → List ℕ → Type 0
HasNotUtf8 texts ends = (pieces : List (List ℕ)) × (IsCut texts ends pieces × (All IsUtf8 pieces → ⊥))

-- a name or a text is not UTF-8
abbrev pub OneHasNotUtf8 : List ℕ → List ℕ → List ℕ → List ℕ → Type 0
OneHasNotUtf8 names name_ends texts ends = HasNotUtf8 names name_ends ⊎ HasNotUtf8 texts ends

-- when each fault is answered
abbrev pub IsHeldFault : List ℕ → List ℕ → List ℕ → List ℕ → TextsFault → Type 0
IsHeldFault names name_ends texts ends Memory = Unit {0}
IsHeldFault names name_ends texts ends Ends = AreNotNamed names name_ends texts ends
IsHeldFault names name_ends texts ends NotUtf8 = OneHasNotUtf8 names name_ends texts ends

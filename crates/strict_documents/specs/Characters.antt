-- Source characters (GraphQL, October 2021, section 2.1), and the other characters of a text.
use Rattle.std.specs.Prelude.{◌≡◌, ℕ, ◌+◌, Vec, Bool, not, ◌||◌, ◌==◌, List, [], ◌∷◌, ◌++◌, length, map, take, Option, Some}
use Rattle.std.specs.Int.{is_in_range}
use Rattle.std.specs.Option.{option_map}
use Rattle.std.specs.Char.{encode_utf8}
use Rattle.std.specs.Str.{chars}
use Rattle.std.specs.declared.alloc.Global.{Global}
use Rattle.graphql_names.specs.Placed.{Place}
use Rattle.graphql_names.specs.declared.span.SourceSpan.{SourceSpan}
use Rattle.rule_definitions.specs.Room.{most_told}
use Rattle.strict_documents.specs.Departure.{Departure}
use Rattle.strict_documents.specs.Departing.{departure_if}
use Rattle.strict_documents.specs.DepartureViews.{departures_of}
use Rattle.strict_documents.specs.declared.departure.DepartureKind.TheVariants as kind
use Rattle.strict_documents.specs.declared.departure.Departure.{Departure as Rust}

-- SourceCharacter: U+0009, U+000A, U+000D, U+0020 to U+FFFF
abbrev pub is_source_character : ℕ → Bool
is_source_character c = c == 9 || c == 10 || c == 13 || is_in_range 0x20 0xFFFF c

-- a place in numbers: its file, the bytes of the file before it, and its own bytes
pub record Stretch : Type 0 where
  pub file : ℕ
  pub offset : ℕ
  pub size : ℕ

abbrev pub stretch_of : SourceSpan → Stretch
stretch_of s = record { file = s.file_id.0; offset = s.offset; size = s.length }

abbrev pub stretched : Departure Place → Departure (Option Stretch)
stretched d = record { place = option_map stretch_of d.place; kind = d.kind; name = d.name }

abbrev pub stretches_of : Vec Rust Global → List (Departure (Option Stretch))
stretches_of ds = map stretched (departures_of ds)

-- of a character with so many bytes before it: in UTF-8 it has as many as its encoding
abbrev pub character_departure : ℕ → ℕ → ℕ → List (Departure (Option Stretch))
character_departure file offset c =
    departure_if (not (is_source_character c)) (Some (record { file = file; offset = offset; size = length (encode_utf8 c) })) kind.SourceCharacter []

-- of these characters, with so many bytes before the first
abbrev pub character_departures : ℕ → ℕ → List ℕ → List (Departure (Option Stretch))
character_departures file offset [] = []
character_departures file offset (c ∷ cs) = character_departure file offset c ++ character_departures file (offset + length (encode_utf8 c)) cs

-- the first 1,000 of those of the text of that file
abbrev pub TellsCharacters : ℕ → List ℕ → Vec Rust Global → Type 0
TellsCharacters file text ds = stretches_of ds ≡ take most_told (character_departures file 0 (chars text))

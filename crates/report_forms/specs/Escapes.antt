-- Escapes of workflow commands: `%`, CR and LF, and in a property `:` and `,` too.
use Rattle.std.specs.Prelude.{ℕ, Bool, ◌&&◌, ◌==◌, List, [], ◌∷◌, codes, if◌then◌else◌}
use Rattle.std.specs.List.{flat_map}
use Rattle.std.specs.Str.{chars, encode_utf8_all}

abbrev pub escaped_character : Bool → ℕ → List ℕ
escaped_character in_property c =
    if c == 37 then codes "%25"
    else if c == 13 then codes "%0D"
    else if c == 10 then codes "%0A"
    else if in_property && (c == 58) then codes "%3A"
    else if in_property && (c == 44) then codes "%2C"
    else c ∷ []

abbrev pub escaped_text : Bool → List ℕ → List ℕ
escaped_text in_property text = encode_utf8_all (flat_map (escaped_character in_property) (chars text))

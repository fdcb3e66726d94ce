-- How the text of others is shown: without its control characters.
use Rattle.std.specs.Prelude.{◌≡◌, ℕ, ◌+◌, Bool, false, not, ◌&&◌, ◌||◌, ◌==◌, nat_lt, List, [], ◌∷◌, All, if◌then◌else◌}
use Rattle.std.specs.Int.{is_in_range}
use Rattle.std.specs.List.{flat_map}
use Rattle.std.specs.Str.{chars, encode_utf8_all}

-- a control character of C0 or C1, DELETE, one that turns the direction of what is written (Bidi_Control), or one that separates
-- lines or paragraphs
abbrev pub is_control : ℕ → Bool
is_control c = nat_lt c 32 || is_in_range 127 159 c || c == 0x061C || is_in_range 0x200E 0x200F c || is_in_range 0x2028 0x202E c || is_in_range 0x2066 0x2069 c

-- the character that is shown for one that is no tab: for a control of C0 or DELETE its picture, for any other control the replacement character
abbrev pub visible_character : ℕ → ℕ
visible_character c = if is_control c then (if nat_lt c 32 then 9216 + c else if c == 127 then 9249 else 0xFFFD) else c

-- a tab is shown as four spaces
abbrev pub shown_character : ℕ → List ℕ
shown_character c = if c == 9 then 32 ∷ 32 ∷ 32 ∷ 32 ∷ [] else visible_character c ∷ []

-- what is shown of a text
abbrev pub shown_text : List ℕ → List ℕ
shown_text text = encode_utf8_all (flat_map shown_character (chars text))

-- no character of the text is a control character; or none but line feeds
abbrev pub HasNoControl : List ℕ → Type 0
HasNoControl text = All (λ c. is_control c ≡ false) (chars text)

abbrev pub HasOnlyLineFeeds : List ℕ → Type 0
HasOnlyLineFeeds text = All (λ c. (is_control c && not (c == 10)) ≡ false) (chars text)

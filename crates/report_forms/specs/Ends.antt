-- Where line terminators and characters of a text end. A place is named by the number of bytes before it.
use Rattle.std.specs.Prelude.{ℕ, zero, suc, ◌+◌, Bool, false, not, ◌&&◌, ◌||◌, ◌==◌, nat_lt, nat_le, List, length, slice_index, if◌then◌else◌}

-- a line terminator ends at this place: after a line feed, or after a carriage return that no line feed follows (section 2.1.2)
abbrev pub ends_line : List ℕ → ℕ → Bool
ends_line text zero = false
ends_line text (suc k) = slice_index text k == 10 || (slice_index text k == 13 && not (slice_index text (suc k) == 10))

-- a continuation byte of UTF-8
abbrev pub continues_character : ℕ → Bool
continues_character byte = nat_le 128 byte && nat_lt byte 192

-- a character ends at this place of a text in UTF-8: no continuation byte follows
abbrev pub ends_character : List ℕ → ℕ → Bool
ends_character text zero = false
ends_character text (suc k) = nat_lt k (length text) && not (continues_character (slice_index text (suc k)))

-- how many numbers above `low`, up to and including the last, pass
abbrev pub how_many : (ℕ → Bool) → ℕ → ℕ → ℕ
how_many passes low zero = 0
how_many passes low (suc n) = how_many passes low n + (if nat_le low n && passes (suc n) then 1 else 0)

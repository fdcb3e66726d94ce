-- Private: leads to `token_at`. Bytes that are skipped in runs.
use Rattle.std.specs.Prelude.{ℕ, Bool, not, ◌||◌, ◌==◌}

-- no quotation mark, no backslash and no line terminator
abbrev pub is_plain_part : ℕ → Bool
is_plain_part b = not (b == 34 || b == 92 || b == 10 || b == 13)

-- no quotation mark and no backslash
abbrev pub is_plain_character : ℕ → Bool
is_plain_character b = not (b == 34 || b == 92)

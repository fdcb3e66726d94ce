-- The syntax of a name (GraphQL October 2021, section 2.1.9 Names).
use Rattle.std.specs.Prelude.{ℕ, List, [], ◌∷◌, Bool, false, ◌==◌, ◌||◌, ◌&&◌, IsTrue}
use Rattle.std.specs.List.{list_all}
use Rattle.std.specs.Char.{is_ascii_alphabetic, is_ascii_digit}

-- NameStart: an ASCII letter or `_`
abbrev pub is_name_start : ℕ → Bool
is_name_start c = is_ascii_alphabetic c || c == 95

-- NameContinue: a NameStart or an ASCII digit
abbrev pub is_name_continue : ℕ → Bool
is_name_continue c = is_name_start c || is_ascii_digit c

-- Name: one NameStart, and then any number of NameContinues
abbrev pub is_name : List ℕ → Bool
is_name [] = false
is_name (c ∷ cs) = is_name_start c && list_all is_name_continue cs

-- the bytes of a text are a Name token
abbrev pub IsName : List ℕ → Type 0
IsName text = IsTrue (is_name text)

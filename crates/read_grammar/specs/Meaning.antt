-- What trees keep of tokens: their places, and the texts that strings stand for.
use Rattle.std.specs.Prelude.{ℕ, List, [], ◌∷◌}
use Rattle.graphql_names.specs.Placed.{Text}
use Rattle.read_tokens.specs.Input.{Token, Input, Ended, end_of}

-- the place from where something begins to where it ends, both counted in bytes, and the text that a
-- String or BlockString token stands for
pub record Meaning (P : Type 0) : Type 0 where
  pub place : ℕ → ℕ → P
  pub string : Token → List ℕ

-- the input before the first token
abbrev pub start : List Token → Input
start tokens = record { last = 0; ahead = tokens; ending = Ended 0 }

-- the offset of the first of these tokens; 0 if there is none
abbrev pub begin_of : List Token → ℕ
begin_of [] = 0
begin_of (t ∷ ts) = t.offset

module _ {P : Type 0} (m : Meaning P) where
  -- the place from the first token ahead in `i` to the last token read in `o`
  abbrev pub place_between : Input → Input → P
  place_between i o = m.place (begin_of i.ahead) o.last

  -- the place of a token
  abbrev pub place_of : Token → P
  place_of t = m.place t.offset (end_of t)

  -- a token as a name
  abbrev pub name_of : Token → Text P
  name_of t = record { it = t.text; place = place_of t }

  -- a token as the text that it stands for
  abbrev pub text_of : Token → Text P
  text_of t = record { it = m.string t; place = place_of t }

-- Private: leads to `Derives` and `Says`. How parts of a type are read.
use Rattle.std.specs.Prelude.{ℕ, ◌-◌}
use Rattle.tree_literals.specs.TypeTree.{TypeTree, NamedTree}
use Rattle.tree_literals.specs.TypeTree as types
use Rattle.read_grammar.specs.Meaning.{Meaning}
use Rattle.read_grammar.specs.Kinds.{is_name, is_open_bracket, is_close_bracket}
use Rattle.read_grammar.specs.Reading.{Parser, mark, when, opening, ◌⊙◌, ◌<&>◌}
use Rattle.read_grammar.specs.ValueReading as reading

module _ {P : Type 0} (m : Meaning P) where
  -- a type in brackets
  abbrev pub bracketed_type : ℕ → Parser (TypeTree P)
  bracketed_type n = (λ x. x.1.0) <&> opening is_open_bracket n ⊙ reading.type m (n - 1) ⊙ mark is_close_bracket

  -- a type without the mark `!` after it
  abbrev pub unmarked_type : ℕ → Parser (TypeTree P)
  unmarked_type n = when is_name (NamedTree <&> reading.name m) (types.ListTree <&> bracketed_type n)

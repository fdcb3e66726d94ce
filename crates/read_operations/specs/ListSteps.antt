-- Private: leads to `Derives` and `Says`. The lists inside arguments and values.
use Rattle.std.specs.Prelude.{ℕ, List}
use Rattle.graphql_names.specs.Placed.{Placed, Text}
use Rattle.tree_literals.specs.ValueTree.{ValueTree}
use Rattle.tree_directives.specs.DirectiveTree.{Arguments}
use Rattle.read_grammar.specs.Meaning.{Meaning}
use Rattle.read_grammar.specs.Begins.{begins_value}
use Rattle.read_grammar.specs.Kinds.{is_name}
use Rattle.read_grammar.specs.Reading.{Parser, many, some, placed}
use Rattle.read_grammar.specs.ValueGrammar.{Const}
use Rattle.read_grammar.specs.ValueReading as reading

module _ {P : Type 0} (m : Meaning P) where
  -- arguments without their parentheses
  abbrev pub some_arguments : Const → ℕ → Parser (Arguments P)
  some_arguments const n = some is_name (placed m (reading.argument m const n))

  -- the values of a list without its brackets
  abbrev pub values : Const → ℕ → Parser (List (Placed P (ValueTree P)))
  values const n = many begins_value (placed m (reading.value m const n))

  -- the fields of an object without its braces
  abbrev pub object_fields : Const → ℕ → Parser (List (Text P × (Unit {0} × Placed P (ValueTree P))))
  object_fields const n = many is_name (reading.object_field m (reading.value m const n))

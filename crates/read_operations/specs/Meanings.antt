-- What tokens mean in a file.
use Rattle.std.specs.Prelude.{List, ℕ, Bool}
use Rattle.graphql_names.specs.declared.span.FileId.{FileId}
use Rattle.graphql_names.specs.declared.name.Name.{Name}
use Rattle.graphql_names.specs.declared.node.Node.{Node}
use Rattle.graphql_names.specs.Placed.{Placed, Place, Text, name_tree, node_tree}
use Rattle.tree_literals.specs.ValueTree.{ValueTree, EnumTree, VariableTree, value_tree}
use Rattle.tree_literals.specs.declared.value.Value.{Value}
use Rattle.read_tokens.specs.Blocks.{block_value}
use Rattle.read_tokens.specs.Strings.{string_value}
use Rattle.read_tokens.specs.Input.{Token}
use Rattle.read_tokens.specs.declared.terminal.Terminal.{Terminal}
use Rattle.read_tokens.specs.declared.terminal.Terminal.TheVariants.{BlockString}
use Rattle.read_grammar.specs.Kinds.{or, is_string, is_open_bracket, is_open_brace}
use Rattle.read_grammar.specs.Meaning.{Meaning}
use Rattle.read_grammar.specs.Places.{meaning_in}
use Rattle.read_grammar.specs.Reading.{Parser, take, unless, ◌<&>◌}
use Rattle.read_grammar.specs.ValueReading as reading

-- the text that a string stands for (section 2.9.4)
abbrev pub string_by : Terminal → List ℕ → List ℕ
string_by BlockString text = block_value text
string_by _ text = string_value text

abbrev pub string_of : Token → List ℕ
string_of t = string_by t.kind t.text

abbrev pub in_file : FileId → Meaning Place
in_file file = meaning_in string_of file.0

-- a field of an object in memory, as what the grammar's rule reads
abbrev pub entry_view : Name × Node Value → Text Place × (Unit {0} × Placed Place (ValueTree Place))
entry_view e = (name_tree e.0, (tt, node_tree value_tree e.1))

-- private layer: a string, read as the text that it stands for
abbrev pub string_meant : Parser (List ℕ)
string_meant = string_of <&> take is_string

-- private layer: whether a terminal begins a list or an object
abbrev pub begins_nested : Terminal → Bool
begins_nested = or is_open_bracket is_open_brace

module _ {P : Type 0} (m : Meaning P) where
  -- private layer: a variable as a value, unless it is forbidden
  abbrev pub variable_meant : Bool → Parser (ValueTree P)
  variable_meant constant = unless constant (VariableTree <&> reading.variable m)

  -- private layer: an enum value as a value
  abbrev pub named_meant : Parser (ValueTree P)
  named_meant = EnumTree <&> reading.enum_value m

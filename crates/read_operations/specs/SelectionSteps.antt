-- Private: leads to `Derives` and `Says`. How parts of selections are read.
use Rattle.std.specs.Prelude.{ℕ, List, [], Option, Ok, unwrap_or}
use Rattle.std.specs.Option.{option_map}
use Rattle.graphql_names.specs.declared.name.Name.{Name}
use Rattle.graphql_names.specs.Placed.{Place, Text, name_tree}
use Rattle.tree_directives.specs.DirectiveTree.{Arguments, Directives, directives_tree}
use Rattle.tree_operations.specs.SelectionTree.{SelectionTree, SelectionTrees, FieldTree, SpreadTree, InlineTree, no_selections}
use Rattle.tree_operations.specs.declared.selection.FragmentSpread.{FragmentSpread}
use Rattle.read_grammar.specs.Meaning.{Meaning}
use Rattle.read_grammar.specs.Begins.{begins_selection}
use Rattle.read_grammar.specs.Kinds.{is_on, is_at, is_spread, is_open_paren, is_open_brace}
use Rattle.read_grammar.specs.Reading.{Parser, and_then, mark, some, try, placed, ◌⊙◌, ◌<&>◌}
use Rattle.read_grammar.specs.ValueGrammar.{with_variables}
use Rattle.read_grammar.specs.ValueReading.{arguments, directives}
use Rattle.read_grammar.specs.OperationReading.{alias_and_name, fragment_name, type_condition, dotted, dotted_of, selection, selection_set}

-- ---- trees of values in memory, without their places

abbrev pub alias_view : Option Name × Name → Option (Text Place) × Text Place
alias_view x = (option_map name_tree x.0, name_tree x.1)

abbrev pub spread_view : FragmentSpread → Text Place × Directives Place
spread_view s = (name_tree s.fragment_name, directives_tree s.directives)

-- what is read before the selections of a field: alias and name, arguments, directives; of an inline fragment: type condition, directives
abbrev pub FieldRead : Type 0 → Type 0
FieldRead P = (Option (Text P) × Text P) × (Option (Arguments P) × Option (Directives P))

abbrev pub InlineRead : Type 0 → Type 0
InlineRead P = Option (Text P) × Option (Directives P)

-- a field, and an inline fragment, made of a place, what is read before its selections, and its selections
abbrev pub field_with : {P : Type 0} → P → FieldRead P → Option (SelectionTrees P) → SelectionTree P
field_with p x set = FieldTree p (record { alias = x.0.0; name = x.0.1; arguments = unwrap_or x.1.0 []; directives = unwrap_or x.1.1 [] }) (unwrap_or set no_selections)

abbrev pub inline_with : {P : Type 0} → P → InlineRead P → SelectionTrees P → SelectionTree P
inline_with p x set = InlineTree p x.0 (unwrap_or x.1 []) set

-- ---- how selections are read

module _ {P : Type 0} (m : Meaning P) where
  -- Directives? SelectionSet
  abbrev pub directives_and_set : ℕ → Parser (SelectionTrees P) → Parser (Option (Directives P) × SelectionTrees P)
  directives_and_set n set = try is_at (directives m with_variables n) ⊙ set

  -- Alias? Name Arguments? Directives?
  abbrev pub field_head : ℕ → Parser (FieldRead P)
  field_head n = alias_and_name m ⊙ try is_open_paren (arguments m with_variables n) ⊙ try is_at (directives m with_variables n)

  abbrev pub spread_parts : ℕ → Parser (Text P × Directives P)
  spread_parts n = (λ x. (x.0, unwrap_or x.1 [])) <&> fragment_name m ⊙ try is_at (directives m with_variables n)

  -- TypeCondition? Directives?
  abbrev pub inline_head : ℕ → Parser (InlineRead P)
  inline_head n = try is_on (type_condition m) ⊙ try is_at (directives m with_variables n)

  abbrev pub inline_parts : ℕ → Parser (SelectionTrees P) → Parser (Option (Text P) × (Directives P × SelectionTrees P))
  inline_parts n set = (λ x. (x.0, (unwrap_or x.1.0 [], x.1.1))) <&> try is_on (type_condition m) ⊙ try is_at (directives m with_variables n) ⊙ set

  -- the parts of a fragment spread, and of an inline fragment, as a selection that begins at this offset
  abbrev pub spread_since : ℕ → ℕ → Parser (SelectionTree P)
  spread_since begin n i = and_then (spread_parts n i) (λ x o. Ok (SpreadTree (m.place begin o.last) x.0 x.1, o))

  abbrev pub inline_since : ℕ → ℕ → Parser (SelectionTrees P) → Parser (SelectionTree P)
  inline_since begin n set i = and_then (inline_parts n set i) (λ x o. Ok (InlineTree (m.place begin o.last) x.0 x.1.0 x.1.1, o))

  -- a selection that begins with `...`
  abbrev pub spread_or_inline : ℕ → Parser (SelectionTrees P) → Parser (SelectionTree P)
  spread_or_inline n set = dotted_of <&> placed m (mark is_spread ⊙ dotted m n set)

  -- SelectionSet?
  abbrev pub optional_set : ℕ → Parser (Option (SelectionTrees P))
  optional_set n = try is_open_brace (selection_set m n)

  -- selections without their braces
  abbrev pub some_selections : ℕ → Parser (List (SelectionTree P))
  some_selections n = some begins_selection (selection m n (selection_set m n))

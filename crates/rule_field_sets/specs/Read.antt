-- What is read of fields by their numbers, and of sets by their numbers and by their nodes (GraphQL, October 2021, section 5.3.2). A
-- number that was not given counts as that of a field without a key, which no real field is, or of a set of that field alone, so that
-- different numbers are read differently; an index without a node counts as a set without selections.
use Rattle.std.specs.Prelude.{ℕ, List, [], ◌∷◌, slice_get}
use Rattle.std.specs.Option.{option_map_or}
use Rattle.graphql_names.specs.Placed.{Place}
use Rattle.tree_literals.specs.TypeTree.{NamedTree}
use Rattle.spec_document.specs.MeantTree.{MeantSet, meant_set, no_meant, meant_of_set}
use Rattle.rule_document_definitions.specs.ReadFields.{ReadField, read_field, ReadSet, nothing_read, read_set, no_reads, read_then, list_read}
use Rattle.rule_field_sets.specs.Numbered.{tables_of}
use Rattle.rule_field_sets.specs.Nodes.{typed_at, set_nodes}
use Rattle.rule_field_sets.specs.declared.field_sets.FieldSets.{FieldSets}

-- a field without a key, a different one for each number
abbrev pub no_field : ℕ → ReadField
no_field n = read_field (record { parent = n ∷ []; key = []; name = []; arguments = []; ty = NamedTree (record { it = []; place = tt }) }) nothing_read

-- a set without selections
abbrev pub no_selections : MeantSet Place
no_selections = meant_set [] no_meant

-- what is read of the fields of this number
abbrev pub content_at : FieldSets → ℕ → ReadField
content_at w n = option_map_or (λ e. e.1) (slice_get (tables_of w.numbers).fields n) (no_field n)

-- what is read of the sets of this number
abbrev pub set_content_at : FieldSets → ℕ → ReadSet
set_content_at w n = option_map_or (λ e. e.1) (slice_get (tables_of w.numbers).sets n) (read_set (read_then (no_field n) no_reads) [])

-- the set of the node with this index
abbrev pub set_at : FieldSets → ℕ → MeantSet Place
set_at w i = option_map_or (λ v. meant_of_set (typed_at v)) (slice_get (set_nodes w) i) no_selections

-- what is read of that set
abbrev pub node_read : FieldSets → ℕ → ReadSet
node_read w i = list_read (set_at w i)

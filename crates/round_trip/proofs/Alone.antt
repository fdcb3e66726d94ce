-- Types, values, operations, fragments, selections and documents: what is printed of each is a text of its symbol, of one tree alone.
use Rattle.std.proofs.Common.{◌≡◌, ℕ, Bool, true, List, ◌∷◌, refl, le_refl}
use Rattle.std.specs.List.{list_all}
use Rattle.round_trip.specs.in_literals.LineLayout.{Prefix}
use Rattle.read_operations.specs.in_literals.ValueLayout.{type_text, value_text}
use Rattle.read_operations.specs.in_operations.OperationLayout.{operation_text, fragment_text}
use Rattle.graphql_names.specs.Placed.{Place}
use Rattle.read_operations.specs.in_values.Writable.{value_writable, has_selection, selections_writable, operation_writable, fragment_writable}
use Rattle.read_operations.specs.in_literals.TypeTree.{TypeTree, unplaced_type}
use Rattle.read_operations.specs.in_literals.ValueTree.{ValueTree, unplaced_value}
use Rattle.read_operations.specs.in_operations.SelectionTree.{SelectionTrees, unplaced_selections}
use Rattle.read_operations.specs.in_operations.OperationTree.{OperationTree, FragmentTree, unplaced_operation, unplaced_fragment}
use Rattle.read_operations.specs.in_definitions.DefinitionTree.{DefinitionTree, unplaced_document}
use Rattle.read_operations.specs.in_definitions.DocumentLayout.{document_text}
use Rattle.read_operations.specs.in_definitions.Writable.{definition_writable}
use Rattle.read_operations.specs.in_grammar.Meaning.{Meaning}
use Rattle.read_operations.specs.in_grammar.Grammar.{DerivesAs, Derives, DerivesType, DerivesSelections, document}
use Rattle.read_operations.specs.in_grammar.ValueGrammar.{Const, value, type}
use Rattle.read_operations.specs.in_grammar.OperationGrammar.{selections, operation_definition, fragment_definition}
use Rattle.read_operations.specs.in_grammar.ValueReading as v
use Rattle.read_operations.specs.in_grammar.OperationReading as o
use Rattle.read_operations.proofs.in_grammar.Parses.{any_count}
use Rattle.read_operations.proofs.in_grammar.Values.{value_parses}
use Rattle.read_operations.proofs.in_grammar.Operations.{operation_definition_parses, fragment_definition_parses}
use Rattle.read_operations.proofs.in_grammar.Theorems.{one_tree}
use Rattle.read_operations.proofs.in_grammar.Laws.{one_document, one_type, one_selections}
use Rattle.read_operations.specs.Meanings.{string_of}
use Rattle.round_trip.specs.Literals.{LiteralsRead}
use Rattle.round_trip.specs.SelectionsLayout.{selections_text}
use Rattle.round_trip.specs.ReadsAlone.{ReadsAlone}
use Rattle.round_trip.specs.Printed.{ends_word, ends_definition}
use Rattle.round_trip.specs.Definitions.{definition_well_formed, definition_depth}
use Rattle.round_trip.specs.WellFormed.{depths, is_white_prefix, type_well_formed, type_depth, value_well_formed, operation_well_formed, fragment_well_formed, value_depth, operation_depth, fragment_depth, selections_well_formed, selections_depth}
use Rattle.round_trip.proofs.NumberTokens.{numbers_read}
use Rattle.round_trip.proofs.StringTokens.{strings_read}
use Rattle.round_trip.proofs.Types.{type_read}
use Rattle.round_trip.proofs.Values.{value_read}
use Rattle.round_trip.proofs.Selections.{bare_selections_read}
use Rattle.round_trip.proofs.Operations.{operation_read, fragment_read}
use Rattle.round_trip.proofs.Documents.{document_read}
use Rattle.round_trip.proofs.Whole.{OneTree, reads_alone}

-- Numbers and strings stand for themselves.
pub literals_read : LiteralsRead string_of
literals_read = record { numbers = numbers_read; strings = strings_read }

module _ (m : Meaning Place) (lits : LiteralsRead m.string) where
  one_value : (const : Const) → OneTree (DerivesAs (value m const))
  one_value const = one_tree {p = v.value m const} (λ n h le. any_count (value_parses m const n h le)) refl

  pub value_alone : (const : Const) (tree : ValueTree Place) → value_well_formed tree ≡ true → value_writable const tree ≡ true
      → ReadsAlone (DerivesAs (value m const)) unplaced_value (value_text tree) (unplaced_value tree)
  value_alone const tree formed writable =
      reads_alone (value m const) unplaced_value (value_text tree) (unplaced_value tree) (value_depth tree) ends_word refl (one_value const)
      (value_read m lits const tree (value_depth tree) formed writable (le_refl (value_depth tree)))

  one_operation : OneTree (DerivesAs (operation_definition m))
  one_operation = one_tree {p = o.operation_definition m} (λ n h le. any_count (operation_definition_parses m n h le)) refl

  pub operation_alone : (at_start : Bool) (prefix : Prefix) (level : ℕ) (tree : OperationTree Place) → is_white_prefix prefix ≡ true → operation_well_formed tree ≡ true → operation_writable tree ≡ true
      → ReadsAlone (DerivesAs (operation_definition m)) unplaced_operation (operation_text at_start prefix tree level) (unplaced_operation tree)
  operation_alone at_start prefix level tree white formed writable =
      reads_alone (operation_definition m) unplaced_operation (operation_text at_start prefix tree level) (unplaced_operation tree) (operation_depth tree) ends_word refl one_operation
      (operation_read m lits prefix white at_start tree (operation_depth tree) level formed writable (le_refl (operation_depth tree)))

  one_fragment : OneTree (DerivesAs (fragment_definition m))
  one_fragment = one_tree {p = o.fragment_definition m} (λ n h le. any_count (fragment_definition_parses m n h le)) refl

  pub fragment_alone : (prefix : Prefix) (level : ℕ) (tree : FragmentTree Place) → is_white_prefix prefix ≡ true → fragment_well_formed tree ≡ true → fragment_writable tree ≡ true
      → ReadsAlone (DerivesAs (fragment_definition m)) unplaced_fragment (fragment_text prefix tree level) (unplaced_fragment tree)
  fragment_alone prefix level tree white formed writable =
      reads_alone (fragment_definition m) unplaced_fragment (fragment_text prefix tree level) (unplaced_fragment tree) (fragment_depth tree) ends_word refl one_fragment
      (fragment_read m lits prefix white tree (fragment_depth tree) level formed writable (le_refl (fragment_depth tree)))

  pub selections_alone : (prefix : Prefix) (level : ℕ) (tree : SelectionTrees Place) → is_white_prefix prefix ≡ true → has_selection tree ≡ true → selections_well_formed tree ≡ true → selections_writable tree ≡ true
      → ReadsAlone (DerivesSelections m) unplaced_selections (selections_text prefix tree level) (unplaced_selections tree)
  selections_alone prefix level tree white has formed writable =
      reads_alone (selections m) unplaced_selections (selections_text prefix tree level) (unplaced_selections tree) (selections_depth tree) ends_word refl (one_selections m)
      (bare_selections_read m lits prefix white tree (selections_depth tree) level has formed writable (le_refl (selections_depth tree)))

  pub document_alone : (prefix : Prefix) (level : ℕ) (tree : DefinitionTree Place) (trees : List (DefinitionTree Place)) → is_white_prefix prefix ≡ true
      → list_all definition_well_formed (tree ∷ trees) ≡ true → list_all definition_writable (tree ∷ trees) ≡ true
      → ReadsAlone (Derives m) unplaced_document (document_text prefix level (tree ∷ trees)) (unplaced_document (tree ∷ trees))
  document_alone prefix level tree trees white formed writable =
      let n : ℕ = depths definition_depth (tree ∷ trees) in
      reads_alone (document m) unplaced_document (document_text prefix level (tree ∷ trees)) (unplaced_document (tree ∷ trees)) n ends_definition refl (one_document m)
      (document_read m lits prefix white tree trees n level formed writable (le_refl n))

-- a type holds no literals
pub type_alone : (m : Meaning Place) (tree : TypeTree Place) → type_well_formed tree ≡ true → ReadsAlone (DerivesType m) unplaced_type (type_text tree) (unplaced_type tree)
type_alone m tree formed = reads_alone (type m) unplaced_type (type_text tree) (unplaced_type tree) (type_depth tree) ends_word refl (one_type m) (type_read m tree (type_depth tree) formed (le_refl (type_depth tree)))

-- What is printed is read as what it was printed from.
use Rattle.std.specs.Prelude.{◌≡◌, ℕ, true, List, Result, Ok, Err}
use Rattle.std.specs.Option.{option_copied}
use Rattle.tree_literals.specs.Serialized.{serialized}
use Rattle.tree_literals.specs.declared.serialize.Serialize.{Serialize}
use Rattle.graphql_read.specs.in_tokens.Input.{Token}
use Rattle.graphql_read.specs.in_tokens.Lex.{Lex}
use Rattle.tree_definitions.specs.DefinitionTree.{document_tree}
use Rattle.tree_definitions.specs.DocumentLayout.{document_text}
use Rattle.tree_definitions.specs.Writable.{document_writable}
use Rattle.tree_definitions.specs.declared.document.Document.{Document}
use Rattle.graphql_read.specs.in_grammar.Faults.{IsTooDeep}
use Rattle.graphql_read.specs.declared.fault.ReadFault.{ReadFault}
use Rattle.graphql_read.specs.declared.fault.ReadFault.TheVariants.{Syntax, Nesting, Memory}
use Rattle.round_trip.specs.WellFormed.{is_white_prefix}

-- A limit kept the text from being read: memory ran out, or its first bracket that exceeds the limit opens at the offset.
abbrev pub IsLimit : ℕ → List ℕ → ReadFault → Type 0
IsLimit nesting text Memory = Unit {0}
IsLimit nesting text (Nesting offset) = (tokens : List Token) × Lex text tokens × IsTooDeep tokens nesting offset
IsLimit nesting text (Syntax fault) = ⊥

-- The answer is what was printed, or a limit kept the text from being read.
abbrev pub IsSameUnlessLimit : {X B : Type 0} → (X → B) → B → ℕ → List ℕ → Result X ReadFault → Type 0
IsSameUnlessLimit view printed nesting text (Ok x) = view x ≡ printed
IsSameUnlessLimit view printed nesting text (Err fault) = IsLimit nesting text fault

-- the text of a document under its layout
abbrev pub laid_out : Serialize Document → List ℕ
laid_out s = serialized (λ d prefix level. document_text prefix level (document_tree d)) s

-- The prefix is only spaces and tabs, or everything is printed on one line; and the grammar can write the document.
abbrev pub CanBeReread : Serialize Document → Type 0
CanBeReread s = (is_white_prefix (option_copied s.prefix) ≡ true) × (document_writable (document_tree s.tree.now) ≡ true)

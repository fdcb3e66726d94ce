-- The answers of calls, in the terms of the grammar.
use Rattle.std.specs.Prelude.{◌≡◌, ℕ, ◌<◌, ⊤, List, [], length, map, Result, Ok, Err, Vec}
use Rattle.std.specs.declared.alloc.Global.{Global}
use Rattle.graphql_names.specs.Placed.{Place}
use Rattle.tree_operations.specs.SelectionTree.{SelectionTrees, selection_tree, selection_trees}
use Rattle.tree_operations.specs.declared.selection.Selection.{Selection}
use Rattle.read_types.specs.in_definitions.DefinitionTree.{DefinitionTree, definition_tree}
use Rattle.read_types.specs.in_definitions.Sources.{Source}
use Rattle.read_types.specs.in_definitions.declared.definition.Definition.{Definition}
use Rattle.read_grammar.specs.Faults as faults
use Rattle.read_grammar.specs.Faults.{Symbol, Fault}
use Rattle.graphql_read.specs.Reads.{NestingBound, ReadsWithin}
use Rattle.graphql_read.specs.declared.fault.SyntaxFaultKind.{SyntaxFaultKind}
use Rattle.graphql_read.specs.declared.fault.SyntaxFaultKind.TheVariants.{NoToken, Unexpected, End}
use Rattle.graphql_read.specs.declared.fault.ReadFault.{ReadFault}
use Rattle.graphql_read.specs.declared.fault.ReadFault.TheVariants.{Syntax, Nesting, Memory}

abbrev pub fault_at : SyntaxFaultKind → ℕ → Fault
fault_at NoToken offset = faults.NoToken offset
fault_at Unexpected offset = faults.Unexpected offset
fault_at End offset = faults.End offset

abbrev pub fault_view : ReadFault → Fault
fault_view (Syntax f) = fault_at f.kind f.offset
fault_view (Nesting offset) = faults.Nesting offset
fault_view Memory = faults.Memory

-- the trees of selections
abbrev pub selections_tree : Vec Selection Global → SelectionTrees Place
selections_tree v = selection_trees selection_tree v.items

-- the trees of definitions
abbrev pub definitions_tree : Vec Definition Global → List (DefinitionTree Place)
definitions_tree v = map definition_tree v.items

-- the source with this text and an empty path
abbrev pub unnamed_source : List ℕ → Source
unnamed_source text = record { path = []; text = text }

-- the answer is this tree, or that memory ran out
abbrev pub IsTreeUnlessMemory : {X A : Type 0} → (X → A) → A → Result X ReadFault → Type 0
IsTreeUnlessMemory view tree (Ok x) = tree ≡ view x
IsTreeUnlessMemory view tree (Err e) = fault_view e ≡ faults.Memory

-- each tree that the text has within the limit is the answer, unless memory ran out
abbrev pub IsEachTreeUnlessMemory : {X A : Type 0} → (X → A) → Symbol A → ℕ → List ℕ → Result X ReadFault → Type 0
IsEachTreeUnlessMemory {X} {A} view symbol nesting text answer = (tree : A) → ReadsWithin symbol nesting text tree → IsTreeUnlessMemory view tree answer

-- The fault is in the text: `End` is where the text ends, every other fault before that. `Memory` has no offset.
abbrev pub LiesIn : List ℕ → Fault → Type 0
LiesIn text faults.Memory = ⊤
LiesIn text (faults.NoToken offset) = offset < length text
LiesIn text (faults.Unexpected offset) = offset < length text
LiesIn text (faults.End offset) = offset ≡ length text
LiesIn text (faults.Nesting offset) = offset < length text

-- if the fault is `Nesting`, some prefix of the text nests its brackets deeper than the limit
abbrev pub PassesBound : ℕ → List ℕ → ReadFault → Type 0
PassesBound nesting text (Nesting offset) = NestingBound nesting text
PassesBound nesting text fault = ⊤

-- A tree is answered only if no prefix of the text nests its brackets deeper than the limit, `Nesting` only if one does.
abbrev pub KeepsToBound : {X : Type 0} → ℕ → List ℕ → Result X ReadFault → Type 0
KeepsToBound nesting text (Ok x) = NestingBound nesting text → ⊥
KeepsToBound nesting text (Err fault) = PassesBound nesting text fault

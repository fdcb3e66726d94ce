-- What is written of a document: its operations, any without a name first, and then its fragments, each in the order read (GraphQL, October 2021, sections 2.2, 2.3 and 2.8).
use Rattle.std.specs.Prelude.{◌≡◌, Bool, true, false, not, List, [], ◌++◌, map, option_to_list}
use Rattle.std.specs.List.{filter}
use Rattle.tree_operations.specs.OperationLayout.{is_none}
use Rattle.tree_operations.specs.SelectionTree.{SelectionTree, FieldTree, SpreadTree, InlineTree, SelectionTrees, no_selections, selection_then}
use Rattle.tree_definitions.specs.DefinitionTree.{DefinitionTree, Operation, Fragment}
use Rattle.document_typing.specs.MeantTree.{MeantSelection, MeantField, MeantSpread, MeantInline, MeantSet, meant_set, MeantSelections, no_meant, meant_then, MeantOperation, MeantFragment, MeantDocument}
use Rattle.document_typing.specs.TypingFaults.{TypingFault}

module _ {P : Type 0} where
  abbrev pub is_anonymous : DefinitionTree P → Bool
  is_anonymous (Operation p o) = is_none o.name
  is_anonymous _ = false

  abbrev pub is_named_operation : DefinitionTree P → Bool
  is_named_operation (Operation p o) = not (is_none o.name)
  is_named_operation _ = false

  abbrev pub is_fragment_definition : DefinitionTree P → Bool
  is_fragment_definition (Fragment p f) = true
  is_fragment_definition _ = false

  -- what is written of a document as read
  abbrev pub out_doc : List (DefinitionTree P) → List (DefinitionTree P)
  out_doc ds = filter is_anonymous ds ++ filter is_named_operation ds ++ filter is_fragment_definition ds

-- ---- what is written of a document with its meaning: its operations and fragments without field definitions and types

abbrev mutual
  pub written_selection : {P : Type 0} → MeantSelection P → SelectionTree P
  written_selection (MeantField p d h s) = FieldTree p h (written_set s)
  written_selection (MeantSpread p n ds) = SpreadTree p n ds
  written_selection (MeantInline p c ds s) = InlineTree p c ds (written_set s)

  pub written_set : {P : Type 0} → MeantSet P → SelectionTrees P
  written_set (meant_set ty ss) = written_selections ss

  pub written_selections : {P : Type 0} → MeantSelections P → SelectionTrees P
  written_selections no_meant = no_selections
  written_selections (meant_then s ss) = selection_then (written_selection s) (written_selections ss)

module _ {P : Type 0} where
  abbrev pub written_operation : MeantOperation P → DefinitionTree P
  written_operation o = Operation o.place (record {
    operation_type = o.operation_type;
    name = o.name;
    variables = o.variables;
    directives = o.directives;
    selections = written_set o.set;
  })

  abbrev pub written_fragment : MeantFragment P → DefinitionTree P
  written_fragment f = Fragment f.place (record {
    name = f.name;
    type_condition = f.type_condition;
    directives = f.directives;
    selections = written_set f.set;
  })

  abbrev pub written_document : MeantDocument P → List (DefinitionTree P)
  written_document d = map written_operation (option_to_list d.anonymous) ++ map (λ e. written_operation e.1) d.named ++ map (λ e. written_fragment e.1) d.fragments

  -- if there are no faults, the document has all operations and fragments that were read: the same is written of both
  abbrev pub IsWholeWithoutFaults : List (DefinitionTree P) → MeantDocument P → List (TypingFault P) → Type 0
  IsWholeWithoutFaults ds d faults = faults ≡ [] → written_document d ≡ out_doc ds

-- Private: leads to `TypingFaults.antt`. The faults of a set, in the order of its selections.
use Rattle.std.specs.Prelude.{ℕ, List, [], ◌∷◌, ◌++◌, None, Some, if◌then◌else◌}
use Rattle.std.specs.Option.{option_map_or}
use Rattle.tree_operations.specs.SelectionTree.{SelectionTree, FieldTree, SpreadTree, InlineTree, SelectionTrees, no_selections, selection_then}
use Rattle.document_typing.specs.Meanings.{Meanings, inner_type}
use Rattle.document_typing.specs.KeptSelections.{may_select}
use Rattle.document_typing.specs.TypingFaults.{TypingFault, typing_fault_at, UndefinedField, SubselectionOnScalarType, SubselectionOnEnumType, UndefinedTypeInInlineFragmentTypeCondition}

-- the faults of a field that has selections although its inner type is the leaf of that name
abbrev pub leaf_faults : {P : Type 0} → Meanings → P → List ℕ → List (TypingFault P)
leaf_faults m p t =
    (if m.is_scalar t then typing_fault_at p (SubselectionOnScalarType t) ∷ [] else [])
    ++ (if m.is_enum t then typing_fault_at p (SubselectionOnEnumType t) ∷ [] else [])

abbrev mutual
  pub selection_faults : {P : Type 0} → Meanings → SelectionTree P → List ℕ → List (TypingFault P)
  selection_faults m (FieldTree p h ts) t = option_map_or
      (λ d. if may_select m (inner_type d) ts then set_faults m ts (inner_type d) else leaf_faults m p (inner_type d))
      (m.field t h.name.it) (typing_fault_at p (UndefinedField t h.name.it) ∷ [])
  selection_faults m (SpreadTree p n ds) t = []
  selection_faults m (InlineTree p None ds ts) t = set_faults m ts t
  selection_faults m (InlineTree p (Some c) ds ts) t =
      if m.has_type c.it then set_faults m ts c.it else typing_fault_at p (UndefinedTypeInInlineFragmentTypeCondition c.it) ∷ []

  pub set_faults : {P : Type 0} → Meanings → SelectionTrees P → List ℕ → List (TypingFault P)
  set_faults m no_selections t = []
  set_faults m (selection_then s ss) t = selection_faults m s t ++ set_faults m ss t

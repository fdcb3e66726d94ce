-- Typing: the rules on a document as it is read, before it has a meaning (sections 3.3.1, 5.1.1, 5.2.1.1, 5.2.2.1, 5.3.1, 5.3.3, 5.5.1.1 and 5.5.1.2).
use Rattle.std.specs.Prelude.{◌≡◌, ◌≤◌, ℕ, true, List, [], ◌∷◌, length, Contains, option_to_list, None, Some}
use Rattle.std.specs.List.{flat_map, filter}
use Rattle.std.specs.Option.{option_map}
use Rattle.tree_operations.specs.SelectionTree.{SelectionTree, FieldTree, SpreadTree, InlineTree, SelectionTrees, no_selections, selection_then}
use Rattle.tree_operations.specs.OperationTree.{OperationTree, FragmentTree}
use Rattle.tree_definitions.specs.DefinitionTree.{DefinitionTree, Operation, Fragment}
use Rattle.schema_components.specs.Lists.{StandsAfter}
use Rattle.rule_definitions.specs.Words.{Present, IfPresent}
use Rattle.verdict_definitions.specs.in_typing.Meanings.{Meanings, inner_type}
use Rattle.verdict_definitions.specs.in_typing.KeptSelections.{may_select}
use Rattle.verdict_definitions.specs.in_typing.KeptDocument.{is_operation}
use Rattle.book_validity.specs.Words.{Never}

module _ {P : Type 0} (m : Meanings) where
  abbrev mutual
    pub IsTyped : List ℕ → SelectionTree P → Type 0
    -- 5.3.1 Field Selections: the field is defined on the type; 5.3.3 Leaf Field Selections: a field of a leaf type selects nothing
    IsTyped t (FieldTree p h ts) = Present (m.field t h.name.it) (λ d. (may_select m (inner_type d) ts ≡ true) × AreTyped (inner_type d) ts)
    IsTyped t (SpreadTree p n ds) = Unit {0}
    IsTyped t (InlineTree p None ds ts) = AreTyped t ts
    -- 5.5.1.2 Fragment Spread Type Existence
    IsTyped t (InlineTree p (Some c) ds ts) = (m.has_type c.it ≡ true) × AreTyped c.it ts

    pub AreTyped : List ℕ → SelectionTrees P → Type 0
    AreTyped t no_selections = Unit {0}
    AreTyped t (selection_then s ss) = IsTyped t s × AreTyped t ss

-- ---- a document

module _ {P : Type 0} where
  -- the name of an operation, of a fragment
  abbrev pub operation_names : DefinitionTree P → List (List ℕ)
  operation_names (Operation p o) = option_to_list (option_map (λ n. n.it) o.name)
  operation_names _ = []

  abbrev pub fragment_names : DefinitionTree P → List (List ℕ)
  fragment_names (Fragment p f) = f.name.it ∷ []
  fragment_names _ = []

  -- an operation of the document `ds`, after the definitions `before`
  pub record IsTypedOperation (m : Meanings) (ds before : List (DefinitionTree P)) (o : OperationTree P) : Type 0 where
    -- 5.2.1.1 Operation Name Uniqueness: none before it has its name
    pub unique : IfPresent o.name (λ n. Never (Contains (flat_map operation_names before) n.it))
    -- 5.2.2.1 Lone Anonymous Operation
    pub alone : o.name ≡ None → length (filter is_operation ds) ≤ 1
    -- 3.3.1: the root type exists; 5.3: its selections are typed
    pub selections : Present (m.root o.operation_type) (λ t. AreTyped m t o.selections)

  pub record IsTypedFragment (m : Meanings) (before : List (DefinitionTree P)) (f : FragmentTree P) : Type 0 where
    -- 5.5.1.1 Fragment Name Uniqueness
    pub unique : Never (Contains (flat_map fragment_names before) f.name.it)
    -- 5.5.1.2 Fragment Spread Type Existence
    pub condition : m.has_type f.type_condition.it ≡ true
    pub selections : AreTyped m f.type_condition.it f.selections

  -- 5.1.1 Executable Definitions: operations and fragments alone
  abbrev pub IsTypedDefinition : Meanings → List (DefinitionTree P) → List (DefinitionTree P) → DefinitionTree P → Type 0
  IsTypedDefinition m ds before (Operation p o) = IsTypedOperation m ds before o
  IsTypedDefinition m ds before (Fragment p f) = IsTypedFragment m before f
  IsTypedDefinition m ds before _ = ⊥

  abbrev pub IsTypedDocument : Meanings → List (DefinitionTree P) → Type 0
  IsTypedDocument m ds = (before : List (DefinitionTree P)) (d : DefinitionTree P) → StandsAfter ds before d → IsTypedDefinition m ds before d

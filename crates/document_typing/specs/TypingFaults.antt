-- The rules of typing, each by what breaks it in the document as read: a fault with its place and its data (GraphQL, October 2021, sections 5.1.1, 5.2.1.1, 5.2.2.1, 5.3.1, 5.3.3, 5.5.1.1 and 5.5.1.2).
use Rattle.std.specs.Prelude.{◌≡◌, ◌↔◌, ℕ, ◌<◌, true, false, List, length, None, Some, Contains}
use Rattle.std.specs.List.{filter}
use Rattle.tree_operations.specs.SelectionTree.{SelectionTree, FieldTree, InlineTree, SelectionTrees, selection_then, FieldHead}
use Rattle.tree_operations.specs.OperationWritable.{has_selection}
use Rattle.graphql_names.specs.Placed.{Text}
use Rattle.tree_directives.specs.DirectiveTree.{Directives}
use Rattle.tree_definitions.specs.DefinitionTree.{DefinitionTree, Operation, Fragment}
use Rattle.tree_definitions.specs.Queries.{is_executable, definition_place}
use Rattle.schema_types.specs.in_components.Lists.{AtSomePlace, has_name}
pub use Rattle.fault_document_errors.specs.DocumentBreaches.{TypingFault, DocumentBreach, TypeSystemDefinition, AmbiguousAnonymousOperation, OperationNameCollision, FragmentNameCollision, UndefinedRootOperation, UndefinedTypeInNamedFragmentTypeCondition, UndefinedTypeInInlineFragmentTypeCondition, SubselectionOnScalarType, SubselectionOnEnumType, UndefinedField}
use Rattle.document_typing.specs.MeantTree.{Definition}
use Rattle.document_typing.specs.Meanings.{Meanings, inner_type}
use Rattle.document_typing.specs.KeptSelections.{may_select}
use Rattle.document_typing.specs.KeptDocument.{is_operation, operation_name, fragment_name, kept_named, kept_operations, kept_fragments}

-- what is wrong at a place
abbrev pub typing_fault_at : {P : Type 0} → P → DocumentBreach P → TypingFault P
typing_fault_at p breach = record { place = p; breach = breach }

-- ---- rules on a selection in a set on the type t

-- UndefinedField: a field is valid only if the type that it is selected on defines it (section 5.3.1)
-- broken by a field that is not defined on the type
abbrev pub UndefinedFieldAt : {P : Type 0} → Meanings → List ℕ → SelectionTree P → TypingFault P → Type 0
UndefinedFieldAt m t (FieldTree p h ts) fault = (m.field t h.name.it ≡ None) × (fault ≡ typing_fault_at p (UndefinedField t h.name.it))
UndefinedFieldAt m t _ fault = ⊥

-- SubselectionOnScalarType: a field whose values are scalars is valid only if it selects nothing (section 5.3.3)
-- broken by a field that selects from values of a scalar
abbrev pub SubselectionOnScalarTypeAt : {P : Type 0} → Meanings → List ℕ → SelectionTree P → TypingFault P → Type 0
SubselectionOnScalarTypeAt m t (FieldTree p h ts) fault = (d : Definition) × (
    (m.field t h.name.it ≡ Some d) × (m.is_scalar (inner_type d) ≡ true) × (has_selection ts ≡ true)
    × (fault ≡ typing_fault_at p (SubselectionOnScalarType (inner_type d))))
SubselectionOnScalarTypeAt m t _ fault = ⊥

-- SubselectionOnEnumType: a field whose values are of an enum is valid only if it selects nothing (section 5.3.3)
-- broken by a field that selects from values of an enum
abbrev pub SubselectionOnEnumTypeAt : {P : Type 0} → Meanings → List ℕ → SelectionTree P → TypingFault P → Type 0
SubselectionOnEnumTypeAt m t (FieldTree p h ts) fault = (d : Definition) × (
    (m.field t h.name.it ≡ Some d) × (m.is_enum (inner_type d) ≡ true) × (has_selection ts ≡ true)
    × (fault ≡ typing_fault_at p (SubselectionOnEnumType (inner_type d))))
SubselectionOnEnumTypeAt m t _ fault = ⊥

-- UndefinedTypeInInlineFragmentTypeCondition: an inline fragment is valid only if its type is defined (section 5.5.1.2)
-- broken by an inline fragment on a type that does not exist
abbrev pub UndefinedTypeInInlineFragmentTypeConditionAt : {P : Type 0} → Meanings → List ℕ → SelectionTree P → TypingFault P → Type 0
UndefinedTypeInInlineFragmentTypeConditionAt m t (InlineTree p (Some c) ds ts) fault =
    (m.has_type c.it ≡ false) × (fault ≡ typing_fault_at p (UndefinedTypeInInlineFragmentTypeCondition c.it))
UndefinedTypeInInlineFragmentTypeConditionAt m t _ fault = ⊥

-- the selection breaks one of these rules, with this fault
pub data SelectionBreaks {P : Type 0} (m : Meanings) (t : List ℕ) (s : SelectionTree P) (fault : TypingFault P) : Type 0 where
  undefined_field : UndefinedFieldAt m t s fault → SelectionBreaks m t s fault
  subselection_on_scalar_type : SubselectionOnScalarTypeAt m t s fault → SelectionBreaks m t s fault
  subselection_on_enum_type : SubselectionOnEnumTypeAt m t s fault → SelectionBreaks m t s fault
  undefined_type_in_inline_fragment_type_condition : UndefinedTypeInInlineFragmentTypeConditionAt m t s fault → SelectionBreaks m t s fault

-- the selection s is in a set on the type u: in these selections, on the type t, or in a set that is kept inside them, at any depth
pub data IsInSelections {P : Type 0} (m : Meanings) (u : List ℕ) (s : SelectionTree P) : List ℕ → SelectionTrees P → Type 0 where
  first : (ss : SelectionTrees P) → IsInSelections m u s u (selection_then s ss)
  later : (t : List ℕ) (x : SelectionTree P) (ss : SelectionTrees P) → IsInSelections m u s t ss → IsInSelections m u s t (selection_then x ss)
  in_field : (t : List ℕ) (p : P) (h : FieldHead P) (ts ss : SelectionTrees P) (d : Definition)
      → m.field t h.name.it ≡ Some d → may_select m (inner_type d) ts ≡ true → IsInSelections m u s (inner_type d) ts
      → IsInSelections m u s t (selection_then (FieldTree p h ts) ss)
  in_fragment : (t : List ℕ) (p : P) (ds : Directives P) (ts ss : SelectionTrees P) → IsInSelections m u s t ts
      → IsInSelections m u s t (selection_then (InlineTree p None ds ts) ss)
  in_condition : (t : List ℕ) (p : P) (c : Text P) (ds : Directives P) (ts ss : SelectionTrees P)
      → m.has_type c.it ≡ true → IsInSelections m u s c.it ts
      → IsInSelections m u s t (selection_then (InlineTree p (Some c) ds ts) ss)

-- in these selections on the type t, or in a set that is kept inside them, a selection breaks a rule with this fault
abbrev pub SetFails : {P : Type 0} → Meanings → List ℕ → SelectionTrees P → TypingFault P → Type 0
SetFails {P} m t ts fault = (u : List ℕ) × ((s : SelectionTree P) × (IsInSelections m u s t ts × SelectionBreaks m u s fault))

-- these are the faults of a set with these selections on the type t: each way in which a selection breaks a rule, and nothing else
abbrev pub AreSetFaults : {P : Type 0} → Meanings → List ℕ → SelectionTrees P → List (TypingFault P) → Type 0
AreSetFaults {P} m t ts faults = (f : TypingFault P) → Contains faults f ↔ SetFails m t ts f

-- ---- rules on a definition of the document, after those in `before`

-- TypeSystemDefinition: a document is valid only if it holds operations and fragments alone (section 5.1.1)
-- broken by any other definition
abbrev pub TypeSystemDefinitionAt : {P : Type 0} → DefinitionTree P → TypingFault P → Type 0
TypeSystemDefinitionAt d fault = (is_executable d ≡ false) × (fault ≡ typing_fault_at (definition_place d) TypeSystemDefinition)

-- AmbiguousAnonymousOperation: an operation without a name is valid only if it is the only operation (section 5.2.2.1)
-- broken by an operation without a name if the document has more than one operation
abbrev pub AmbiguousAnonymousOperationAt : {P : Type 0} → List (DefinitionTree P) → DefinitionTree P → TypingFault P → Type 0
AmbiguousAnonymousOperationAt ds (Operation p o) fault =
    (o.name ≡ None) × (1 < length (filter is_operation ds)) × (fault ≡ typing_fault_at p AmbiguousAnonymousOperation)
AmbiguousAnonymousOperationAt ds _ fault = ⊥

-- OperationNameCollision: an operation is valid only if no earlier one has its name (section 5.2.1.1)
-- broken by an operation whose name an earlier kept operation has
abbrev pub OperationNameCollisionAt : {P : Type 0} → Meanings → List (DefinitionTree P) → DefinitionTree P → TypingFault P → Type 0
OperationNameCollisionAt {P} m before (Operation p o) fault = (n : Text P) × (
    (o.name ≡ Some n) × (has_name operation_name n.it (kept_named m before) ≡ true) × (fault ≡ typing_fault_at p (OperationNameCollision n.it)))
OperationNameCollisionAt m before _ fault = ⊥

-- FragmentNameCollision: a fragment definition is valid only if no earlier one has its name (section 5.5.1.1)
-- broken by a fragment whose name an earlier kept fragment has
abbrev pub FragmentNameCollisionAt : {P : Type 0} → Meanings → List (DefinitionTree P) → DefinitionTree P → TypingFault P → Type 0
FragmentNameCollisionAt m before (Fragment p f) fault =
    (has_name fragment_name f.name.it (kept_fragments m before) ≡ true) × (fault ≡ typing_fault_at p (FragmentNameCollision f.name.it))
FragmentNameCollisionAt m before _ fault = ⊥

-- UndefinedRootOperation: an operation is valid only if the schema has a root for it (section 3.3.1)
-- broken by an operation whose root the schema does not have
abbrev pub UndefinedRootOperationAt : {P : Type 0} → Meanings → DefinitionTree P → TypingFault P → Type 0
UndefinedRootOperationAt m (Operation p o) fault =
    (m.root o.operation_type ≡ None) × (fault ≡ typing_fault_at p (UndefinedRootOperation o.operation_type))
UndefinedRootOperationAt m _ fault = ⊥

-- UndefinedTypeInNamedFragmentTypeCondition: a fragment definition is valid only if its type is defined (section 5.5.1.2)
-- broken by a fragment on a type that does not exist
abbrev pub UndefinedTypeInNamedFragmentTypeConditionAt : {P : Type 0} → Meanings → DefinitionTree P → TypingFault P → Type 0
UndefinedTypeInNamedFragmentTypeConditionAt m (Fragment p f) fault =
    (m.has_type f.type_condition.it ≡ false) × (fault ≡ typing_fault_at p (UndefinedTypeInNamedFragmentTypeCondition f.type_condition.it))
UndefinedTypeInNamedFragmentTypeConditionAt m _ fault = ⊥

-- the definition d, which comes after those in `before` in the document ds, breaks one of these rules with this fault
pub data DefinitionBreaks {P : Type 0} (m : Meanings) (ds before : List (DefinitionTree P)) (d : DefinitionTree P) (fault : TypingFault P) : Type 0 where
  type_system_definition : TypeSystemDefinitionAt d fault → DefinitionBreaks m ds before d fault
  ambiguous_anonymous_operation : AmbiguousAnonymousOperationAt ds d fault → DefinitionBreaks m ds before d fault
  operation_name_collision : OperationNameCollisionAt m before d fault → DefinitionBreaks m ds before d fault
  fragment_name_collision : FragmentNameCollisionAt m before d fault → DefinitionBreaks m ds before d fault
  undefined_root_operation : UndefinedRootOperationAt m d fault → DefinitionBreaks m ds before d fault
  undefined_type_in_named_fragment_type_condition : UndefinedTypeInNamedFragmentTypeConditionAt m d fault → DefinitionBreaks m ds before d fault

-- ---- a rule of typing is broken with this fault: by a definition, or by a selection in a set that is kept
pub data TypingFails {P : Type 0} (m : Meanings) (ds : List (DefinitionTree P)) (fault : TypingFault P) : Type 0 where
  in_definition : AtSomePlace (λ before d. DefinitionBreaks m ds before d fault) ds → TypingFails m ds fault
  in_operation : (o : _) → Contains (kept_operations m ds) o → SetFails m o.base o.it.selections fault → TypingFails m ds fault
  in_named_fragment : (f : _) → Contains (kept_fragments m ds) f → SetFails m f.base f.it.selections fault → TypingFails m ds fault

-- these are the faults of typing: each way in which a rule is broken, and nothing else
abbrev pub AreTypingFaults : {P : Type 0} → Meanings → List (DefinitionTree P) → List (TypingFault P) → Type 0
AreTypingFaults {P} m ds faults = (f : TypingFault P) → Contains faults f ↔ TypingFails m ds f

-- no rule of typing is broken
abbrev pub TypingRules : {P : Type 0} → Meanings → List (DefinitionTree P) → Type 0
TypingRules {P} m ds = (fault : TypingFault P) → TypingFails m ds fault → ⊥

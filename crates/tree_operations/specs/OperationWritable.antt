-- Selections, operations and fragments that the grammar can write (GraphQL, October 2021, appendix B).
use Rattle.std.specs.Prelude.{ℕ, Bool, true, false, not, ◌&&◌, List, codes}
use Rattle.std.specs.List.{list_all}
use Rattle.tree_directives.specs.in_literals.in_names.Placed.{Placed}
use Rattle.tree_directives.specs.in_literals.ValueWritable.{is_text, default_writable}
use Rattle.tree_directives.specs.DirectiveWritable.{arguments_writable, directives_writable}
use Rattle.tree_operations.specs.SelectionTree.{FieldHead, SelectionTree, FieldTree, SpreadTree, InlineTree, SelectionTrees, no_selections, selection_then}
use Rattle.tree_operations.specs.OperationTree.{VariableDefinitionTree, OperationTree, FragmentTree}

-- no fragment is named `on` (section 2.8)
abbrev pub can_be_fragment : List ℕ → Bool
can_be_fragment text = not (is_text (codes "on") text)

abbrev pub head_writable : {P : Type 0} → FieldHead P → Bool
head_writable f = arguments_writable false f.arguments && directives_writable false f.directives

-- whether there is a selection, as an operation, a fragment or an inline fragment must have one; a field need not
abbrev pub has_selection : {P : Type 0} → SelectionTrees P → Bool
has_selection no_selections = false
has_selection (selection_then t ts) = true

abbrev mutual
  pub selection_writable : {P : Type 0} → SelectionTree P → Bool
  selection_writable (FieldTree p f ts) = head_writable f && selections_writable ts
  selection_writable (SpreadTree p n ds) = can_be_fragment n.it && directives_writable false ds
  selection_writable (InlineTree p c ds ts) = directives_writable false ds && has_selection ts && selections_writable ts

  pub selections_writable : {P : Type 0} → SelectionTrees P → Bool
  selections_writable no_selections = true
  selections_writable (selection_then t ts) = selection_writable t && selections_writable ts

-- the default value and the directives of a variable's definition can be written, without variables
abbrev pub variable_writable : {P : Type 0} → VariableDefinitionTree P → Bool
variable_writable v = default_writable v.default_value && directives_writable true v.directives

abbrev pub variables_writable : {P : Type 0} → List (Placed P (VariableDefinitionTree P)) → Bool
variables_writable vs = list_all (λ v. variable_writable v.it) vs

abbrev pub operation_writable : {P : Type 0} → OperationTree P → Bool
operation_writable o = variables_writable o.variables && directives_writable false o.directives && has_selection o.selections && selections_writable o.selections

abbrev pub fragment_writable : {P : Type 0} → FragmentTree P → Bool
fragment_writable f = can_be_fragment f.name.it && directives_writable false f.directives && has_selection f.selections && selections_writable f.selections

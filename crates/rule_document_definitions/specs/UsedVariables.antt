-- Which variables an operation uses (GraphQL, October 2021, section 5.8.4), and the type that each has.
use Rattle.std.specs.Prelude.{◌≡◌, ℕ, List, ◌⊎◌}
use Rattle.tree_literals.specs.TypeTree.{unplaced_type}
use Rattle.tree_literals.specs.ValueTree.{ValueTree, ItemTrees, EntryTrees, VariableTree, ListTree, ObjectTree, no_items, item_then, no_entries, entry_then}
use Rattle.tree_directives.specs.DirectiveTree.{Arguments, Directives}
use Rattle.tree_operations.specs.OperationTree.{VariableDefinitionTree}
use Rattle.spec_document.specs.MeantTree.{MeantOperation, MeantDocument}
use Rattle.rule_definitions.specs.Words.{Present, AtSomeIndex}
use Rattle.rule_definitions.specs.GivenValues.{Wanted}
use Rattle.rule_document_definitions.specs.Selected.{Standing, as_field, selection_directives}
use Rattle.rule_document_definitions.specs.Reached.{AtReached, AtReachedFragment}

module _ {P : Type 0} (n : List ℕ) where
  -- the variable n is in a value, at any depth
  abbrev mutual
    pub IsInValue : ValueTree P → Type 0
    IsInValue (VariableTree v) = v.it ≡ n
    IsInValue (ListTree ts) = IsInItems ts
    IsInValue (ObjectTree es) = IsInEntries es
    IsInValue v = ⊥

    pub IsInItems : ItemTrees P → Type 0
    IsInItems no_items = ⊥
    IsInItems (item_then p v ts) = IsInValue v ⊎ IsInItems ts

    pub IsInEntries : EntryTrees P → Type 0
    IsInEntries no_entries = ⊥
    IsInEntries (entry_then k p v es) = IsInValue v ⊎ IsInEntries es

  abbrev pub IsInArguments : Arguments P → Type 0
  IsInArguments given = AtSomeIndex given (λ i a. IsInValue a.it.value.it)

  abbrev pub IsInDirectives : Directives P → Type 0
  IsInDirectives ds = AtSomeIndex ds (λ i d. IsInArguments d.it.arguments)

  abbrev pub IsInSelection : Standing P → Type 0
  IsInSelection x = IsInDirectives (selection_directives x.it) ⊎ Present (as_field x) (λ f. IsInArguments f.head.arguments)

  -- the operation uses the variable: in its directives, in a selection that it reaches, or in the directives of a fragment that it reaches
  abbrev pub IsUsedIn : MeantDocument P → MeantOperation P → Type 0
  IsUsedIn d o =
      IsInDirectives o.directives
      ⊎ (AtReached d o IsInSelection
      ⊎ AtReachedFragment d o (λ f. IsInDirectives f.directives))

-- the type of a variable, with its place
abbrev pub wanted_by : {P : Type 0} → VariableDefinitionTree P → Wanted P
wanted_by x = record { it = unplaced_type x.ty.it; place = x.ty.place }

-- Private: leads to `UsesAll` of `rule_selections` and to `IsUsedIn` of the definitions of the rules of documents. Names, extended by those of the variables in something.
use Rattle.std.specs.Prelude.{ℕ, List, fold}
use Rattle.std.specs.Str.{bytes_eq}
use Rattle.indexmap.specs.IndexSet.{insert_key}
use Rattle.graphql_names.specs.Placed.{Place}
use Rattle.tree_literals.specs.ValueTree.{ValueTree, ItemTrees, EntryTrees, VariableTree, ListTree, ObjectTree, no_items, item_then, no_entries, entry_then}
use Rattle.tree_operations.specs.DirectiveTree.{Arguments, Directives}
use Rattle.rule_document_definitions.specs.in_spec_document.MeantTree.{MeantSelection, MeantField, MeantSpread, MeantInline}

-- the names, then those of the variables in a value, at any depth
abbrev mutual
  pub with_value : List (List ℕ) → ValueTree Place → List (List ℕ)
  with_value ns (VariableTree v) = insert_key bytes_eq ns v.it
  with_value ns (ListTree ts) = with_items ns ts
  with_value ns (ObjectTree es) = with_entries ns es
  with_value ns v = ns

  pub with_items : List (List ℕ) → ItemTrees Place → List (List ℕ)
  with_items ns no_items = ns
  with_items ns (item_then p v ts) = with_items (with_value ns v) ts

  pub with_entries : List (List ℕ) → EntryTrees Place → List (List ℕ)
  with_entries ns no_entries = ns
  with_entries ns (entry_then k p v es) = with_entries (with_value ns v) es

abbrev pub with_arguments : List (List ℕ) → Arguments Place → List (List ℕ)
with_arguments = fold (λ ns a. with_value ns a.it.value.it)

abbrev pub with_directives : List (List ℕ) → Directives Place → List (List ℕ)
with_directives = fold (λ ns d. with_arguments ns d.it.arguments)

-- the names, then those of the variables in a selection itself, not in what it selects
abbrev pub with_selection : List (List ℕ) → MeantSelection Place → List (List ℕ)
with_selection ns (MeantField p d h s) = with_directives (with_arguments ns h.arguments) h.directives
with_selection ns (MeantSpread p n ds) = with_directives ns ds
with_selection ns (MeantInline p c ds s) = with_directives ns ds

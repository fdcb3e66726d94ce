-- What is in a set refers as its selections do, one after the other.
use Rattle.std.proofs.Common.{◌≡◌, ℕ, ◌≤◌, List, [], ◌∷◌, ◌++◌, length, take, refl, sym, ap, ◌∙◌}
use Rattle.std.specs.List.{flat_map}
use Rattle.std.proofs.lemmas.List.{take_all}
use Rattle.graphql_names.specs.Placed.{Place}
use Rattle.schema_components.specs.Names.{Entries}
use Rattle.document_typed_selections.specs.TypedTree.{typed_selections, typed_selection_tree, typed_set_tree}
use Rattle.document_typed_selections.specs.declared.selection.Selection.{Selection}
use Rattle.document_typed_selections.specs.declared.selection.SelectionSet.{SelectionSet}
use Rattle.document_typed_selections.proofs.TypedTrees.{typed_set_tree_out}
use Rattle.spec_document.specs.MeantTree.{MeantFragment, meant, meant_of_set, meant_of_all}
use Rattle.rule_cycles.specs.Labels.{Labelled}
use Rattle.rule_fragments.specs.SpreadNumbers.{Spread, references_in, references_along, references_of}

module _ (es : Entries (MeantFragment Place)) where
  abbrev pub of_selection : Selection → Labelled Spread
  of_selection s = references_of es (meant (typed_selection_tree s))

  along : (ss : List Selection) → references_along es (meant_of_all (typed_selections typed_selection_tree ss)) ≡ flat_map of_selection ss
  along [] = refl
  along (s ∷ ss) = ap (λ l. of_selection s ++ l) (along ss)

  pub set_references : (s : SelectionSet) → references_in es (meant_of_set (typed_set_tree s)) ≡ flat_map of_selection s.selections.items
  set_references s = ap (λ t. references_in es (meant_of_set t)) (typed_set_tree_out s) ∙ along s.selections.items

  -- where a loop has come to the end
  pub references_all : (s : SelectionSet) (i : ℕ) (old now : Labelled Spread) → length s.selections.items ≤ i → now ≡ old ++ flat_map of_selection (take i s.selections.items) → now ≡ old ++ references_in es (meant_of_set (typed_set_tree s))
  references_all s i old now end h = h ∙ ap (λ l. old ++ flat_map of_selection l) (take_all i s.selections.items end) ∙ ap (λ l. old ++ l) (sym (set_references s))

-- The fragments of a document, one by one.
use Rattle.std.proofs.Common.{◌≡◌, ◌∙◌, ◌+◌, ◌-◌, ◌<◌, ◌≤◌, ℕ, zero, suc, List, [], ◌∷◌, length, slice_get, Some, None, refl, sym, ap, subst, arith}
use Rattle.std.specs.Option.{option_map}
use Rattle.std.proofs.lemmas.List.{length-map}
use Rattle.std.proofs.lemmas.Option.{slice_get_within}
use Rattle.graphql_names.specs.Node.{content}
use Rattle.graphql_names.specs.NameValue.{NameValue}
use Rattle.graphql_names.specs.Placed.{Place}
use Rattle.graphql_names.specs.declared.node.Node.{Node}
use Rattle.document_typed_selections.specs.TypedTree.{TypedSet, typed_set_tree}
use Rattle.document_typed_operations.specs.declared.operation.Fragment.{Fragment}
use Rattle.document_typed_operations.specs.Reached.{NamedSet, Fragments}
use Rattle.document_typed_operations.specs.WalkView.{fragment_set, fragments_tree}
use Rattle.rule_definitions.proofs.Lists.{slice_get-map}
use Rattle.rule_field_sets.specs.declared.field_sets.FieldSets.{FieldSets}
use Rattle.rule_field_sets.specs.Nodes.{fragments_in, fragment_nodes}
use Rattle.rule_field_sets.specs.Added.{IsNextFragment}

none_following : {X : Type 0} (xs : List X) (i : ℕ) → None ≡ slice_get xs i → length xs ≤ i
none_following [] i e = omega arith
none_following (x ∷ xs) zero e = cc
none_following (x ∷ xs) (suc i) e = omega (none_following xs i e, arith)

abbrev named : NameValue × Node Fragment → NamedSet Place
named e = (e.0.text, fragment_set e.1)

entries_of : (a : FieldSets) → length (fragments_in a) ≡ length a.fragments.now.entries
entries_of a = length-map a.fragments.now.entries named

module _ (a w : FieldSets) (same : w.fragments ≡ a.fragments) (i : ℕ) (last : i ≡ length (fragment_nodes w)) where
  fragments_same : fragments_in a ≡ fragments_in w
  fragments_same = λ j. fragments_tree (sym same j).now

  -- the fragment at the place is the next one
  pub next_found : (k : NameValue) (n : Node Fragment) (f : Fragment) → Some (k, n) ≡ slice_get a.fragments.now.entries i → f ≡ content {A = Fragment} n → IsNextFragment w (typed_set_tree f.selection_set)
  next_found k n f at is =
      let here : slice_get (fragments_in a) i ≡ Some (named (k, n)) = slice_get-map named a.fragments.now.entries i ∙ ap (option_map named) (sym at) in (
        named (k, n),
        (
          subst (λ fs. slice_get fs (length (fragment_nodes w)) ≡ Some (named (k, n))) fragments_same (subst (λ j. slice_get (fragments_in a) j ≡ Some (named (k, n))) last here),
          ap (λ (g : Fragment). typed_set_tree g.selection_set) (sym is),
        ),
      )

  -- where there is none, all have nodes
  pub none_next : None ≡ slice_get a.fragments.now.entries i → length (fragments_in w) ≤ length (fragment_nodes w)
  none_next e =
      let following : length a.fragments.now.entries ≤ i = none_following a.fragments.now.entries i e in
      let count : length (fragments_in a) ≡ length a.fragments.now.entries = entries_of a in
      let same_count : length (fragments_in a) ≡ length (fragments_in w) = ap length fragments_same in
      omega (following, count, same_count, last, arith)

  -- and where there is one, fewer are left with one node more
  pub fewer_next : (f : TypedSet Place) (b : FieldSets) → IsNextFragment w f → length (fragment_nodes b) ≡ length (fragment_nodes w) + 1 → length (fragments_in a) - length (fragment_nodes b) < length (fragments_in a) - length (fragment_nodes w)
  fewer_next f b next more =
      let within : length (fragment_nodes w) < length (fragments_in w) = slice_get_within (fragments_in w) (length (fragment_nodes w)) next.0 next.1.0 in
      let same_count : length (fragments_in a) ≡ length (fragments_in w) = ap length fragments_same in
      omega (within, same_count, more, arith)

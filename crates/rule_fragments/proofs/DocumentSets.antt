-- How deep selections nest in a set, along these; and what is found in a document, along its operations and fragments.
use Rattle.std.proofs.Common.{◌≡◌, ◌++◌, ℕ, ◌<◌, ◌≤◌, length, take, get_or, Bool, true, false, ◌||◌, List, [], ◌∷◌, map, Option, None, Some, refl, sym, ap, ◌∙◌}
use Rattle.std.specs.List.{flat_map, list_any, cons_option}
use Rattle.std.specs.Map.{values_of}
use Rattle.std.specs.Option.{option_map}
use Rattle.graphql_names.specs.Placed.{Placed, Place, node_tree}
use Rattle.graphql_names.specs.NameValue.{NameValue}
use Rattle.graphql_names.specs.declared.node.Node.{Node}
use Rattle.document_typed_selections.specs.TypedTree.{typed_selections, typed_selection_tree, typed_set_tree}
use Rattle.document_typed_selections.specs.declared.selection.Selection.{Selection}
use Rattle.document_typed_selections.specs.declared.selection.SelectionSet.{SelectionSet}
use Rattle.document_typed_selections.proofs.TypedTrees.{typed_set_tree_out}
use Rattle.document_typed_operations.specs.TypedDocument.{TypedOperation, TypedFragment, typed_operation_tree, typed_fragment_tree}
use Rattle.document_typed_operations.specs.declared.operation.Operation.{Operation}
use Rattle.document_typed_operations.specs.declared.operation.Fragment.{Fragment}
use Rattle.document_typed_operations.specs.declared.document.ExecutableDocument.{ExecutableDocument}
use Rattle.spec_document.specs.MeantTree.{MeantSet, MeantOperation, MeantFragment, meant_of_set, meant_of_all}
use Rattle.rule_selection_queries.specs.in_reach.in_typed_operations.DocumentView.{meant_by_operation, meant_by_fragment, document_meant}
use Rattle.rule_document_definitions.specs.Selected.{operations, fragments}
use Rattle.rule_document_definitions.specs.Limits.{path_bound}
use Rattle.rule_fragments.specs.Nested.{deeper_in, deeper_along, deeper_of, some_nests}
use Rattle.rule_selection_queries.specs.Lent.{lent}
use Rattle.rule_fragments.specs.Rooted.{operation_set, fragment_set, alone_so, alone_told}
use Rattle.std.proofs.lemmas.List.{take_all}
use Rattle.rule_selection_queries.proofs.Telling.{any_there}

deeper_each : (b : ℕ) (ss : List Selection) → deeper_along b (meant_of_all (typed_selections typed_selection_tree ss)) ≡ list_any (λ s. deeper_of b (lent s)) ss
deeper_each b [] = refl
deeper_each b (s ∷ ss) = ap (λ r. deeper_of b (lent s) || r) (deeper_each b ss)

pub set_deeper : (b : ℕ) (s : SelectionSet) → deeper_in b (meant_of_set (typed_set_tree s)) ≡ list_any (λ s. deeper_of b (lent s)) s.selections.items
set_deeper b s = ap (λ t. deeper_in b (meant_of_set t)) (typed_set_tree_out s) ∙ deeper_each b s.selections.items

-- ---- along a document

abbrev named_operations : List (NameValue × Node Operation) → List (MeantOperation Place)
named_operations es = map (λ (e : List ℕ × MeantOperation Place). e.1) (map {B = List ℕ × MeantOperation Place} (λ (e : List ℕ × Placed Place (TypedOperation Place)). (e.0, meant_by_operation e.1)) (map {B = List ℕ × Placed Place (TypedOperation Place)} (λ (e : NameValue × Node Operation). (e.0.text, node_tree typed_operation_tree e.1)) es))

abbrev named_fragments : List (NameValue × Node Fragment) → List (MeantFragment Place)
named_fragments es = map (λ (e : List ℕ × MeantFragment Place). e.1) (map {B = List ℕ × MeantFragment Place} (λ (e : List ℕ × Placed Place (TypedFragment Place)). (e.0, meant_by_fragment e.1)) (map {B = List ℕ × Placed Place (TypedFragment Place)} (λ (e : NameValue × Node Fragment). (e.0.text, node_tree typed_fragment_tree e.1)) es))

module _ {B : Type 0} (h : MeantSet Place → List B) where
  operations_told : (es : List (NameValue × Node Operation)) → flat_map (λ (o : MeantOperation Place). h o.set) (named_operations es) ≡ flat_map (λ n. h (operation_set n)) (values_of es)
  operations_told [] = refl
  operations_told (e ∷ es) = ap (λ l. h (operation_set e.1) ++ l) (operations_told es)

  fragments_told : (es : List (NameValue × Node Fragment)) → flat_map (λ (f : MeantFragment Place). h f.set) (named_fragments es) ≡ flat_map (λ n. h (fragment_set n)) (values_of es)
  fragments_told [] = refl
  fragments_told (e ∷ es) = ap (λ l. h (fragment_set e.1) ++ l) (fragments_told es)

  with_alone : (o : Option (Node Operation)) (os : List (MeantOperation Place)) → flat_map (λ (o : MeantOperation Place). h o.set) (cons_option (option_map meant_by_operation (option_map (node_tree typed_operation_tree) o)) os) ≡ alone_told h o ++ flat_map (λ (o : MeantOperation Place). h o.set) os
  with_alone None os = refl
  with_alone (Some n) os = refl

  -- the sets of all operations and fragments
  pub document_told : (d : ExecutableDocument) → flat_map (λ (o : MeantOperation Place). h o.set) (operations (document_meant d)) ++ flat_map (λ (f : MeantFragment Place). h f.set) (fragments (document_meant d))
      ≡ (alone_told h d.operations.anonymous ++ flat_map (λ n. h (operation_set n)) (values_of d.operations.named.entries)) ++ flat_map (λ n. h (fragment_set n)) (values_of d.fragments.entries)
  document_told d = λ i. (with_alone d.operations.anonymous (named_operations d.operations.named.entries) ∙ ap (λ l. alone_told h d.operations.anonymous ++ l) (operations_told d.operations.named.entries)) i ++ fragments_told d.fragments.entries i

module _ (h : MeantSet Place → Bool) where
  any_operation : (es : List (NameValue × Node Operation)) → list_any (λ (o : MeantOperation Place). h o.set) (named_operations es) ≡ list_any (λ n. h (operation_set n)) (values_of es)
  any_operation [] = refl
  any_operation (e ∷ es) = ap (λ r. h (operation_set e.1) || r) (any_operation es)

  any_fragment : (es : List (NameValue × Node Fragment)) → list_any (λ (f : MeantFragment Place). h f.set) (named_fragments es) ≡ list_any (λ n. h (fragment_set n)) (values_of es)
  any_fragment [] = refl
  any_fragment (e ∷ es) = ap (λ r. h (fragment_set e.1) || r) (any_fragment es)

  any_alone : (o : Option (Node Operation)) (os : List (MeantOperation Place)) → list_any (λ (o : MeantOperation Place). h o.set) (cons_option (option_map meant_by_operation (option_map (node_tree typed_operation_tree) o)) os) ≡ (alone_so h o || list_any (λ (o : MeantOperation Place). h o.set) os)
  any_alone None os = refl
  any_alone (Some n) os = refl

  -- some operation, some fragment
  pub document_operations : (d : ExecutableDocument) → list_any (λ (o : MeantOperation Place). h o.set) (operations (document_meant d)) ≡ (alone_so h d.operations.anonymous || list_any (λ n. h (operation_set n)) (values_of d.operations.named.entries))
  document_operations d = any_alone d.operations.anonymous (named_operations d.operations.named.entries) ∙ ap (λ r. alone_so h d.operations.anonymous || r) (any_operation d.operations.named.entries)

  pub document_fragments : (d : ExecutableDocument) → list_any (λ (f : MeantFragment Place). h f.set) (fragments (document_meant d)) ≡ list_any (λ n. h (fragment_set n)) (values_of d.fragments.entries)
  document_fragments d = any_fragment d.fragments.entries

pub deeper_here : (b : ℕ) (s : SelectionSet) (i : ℕ) (x : Selection) → i < length s.selections.items → x ≡ get_or s.selections.items i x → deeper_of b (lent x) ≡ true → true ≡ deeper_in b (meant_of_set (typed_set_tree s))
deeper_here b s i x h e t = sym (set_deeper b s ∙ any_there (λ (s : Selection). deeper_of b (lent s)) s.selections.items i x h e t)

pub deeper_none : (b : ℕ) (s : SelectionSet) (i : ℕ) → length s.selections.items ≤ i → list_any (λ s. deeper_of b (lent s)) (take i s.selections.items) ≡ false → false ≡ deeper_in b (meant_of_set (typed_set_tree s))
deeper_none b s i end h = sym (set_deeper b s ∙ ap (list_any (λ (s : Selection). deeper_of b (lent s))) (sym (take_all i s.selections.items end)) ∙ h)

-- whether selections nest too deep somewhere
pub where_nested : (d : ExecutableDocument) → some_nests (document_meant d)
    ≡ ((alone_so (deeper_in path_bound) d.operations.anonymous || list_any (λ n. deeper_in path_bound (operation_set n)) (values_of d.operations.named.entries)) || list_any (λ n. deeper_in path_bound (fragment_set n)) (values_of d.fragments.entries))
where_nested d = λ i. document_operations (deeper_in path_bound) d i || document_fragments (deeper_in path_bound) d i

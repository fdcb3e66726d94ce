-- How what is found in a set goes on along its selections.
use Rattle.std.proofs.Common.{◌≡◌, ◌++◌, ℕ, ◌<◌, ◌≤◌, length, take, get_or, Bool, true, false, ◌||◌, List, [], ◌∷◌, map, Option, None, Some, refl, sym, ap, subst, ◌∙◌, append_assoc}
use Rattle.std.specs.Prelude.{if◌then◌else◌, not}
use Rattle.std.specs.Borrow.{Bor}
use Rattle.std.specs.List.{flat_map, list_any, cons_option}
use Rattle.std.specs.Map.{values_of}
use Rattle.std.specs.Option.{option_map}
use Rattle.graphql_names.specs.Node.{content}
use Rattle.graphql_names.specs.Placed.{Placed, Place, node_tree}
use Rattle.graphql_names.specs.NameValue.{NameValue}
use Rattle.graphql_names.specs.declared.node.Node.{Node}
use Rattle.document_typed_selections.specs.TypedTree.{typed_selections, typed_selection_tree, typed_set_tree}
use Rattle.document_typed_selections.specs.declared.selection.Selection.{Selection}
use Rattle.document_typed_selections.specs.declared.selection.Field.{Field}
use Rattle.document_typed_selections.specs.declared.selection.FragmentSpread.{FragmentSpread}
use Rattle.document_typed_selections.specs.declared.selection.InlineFragment.{InlineFragment}
use Rattle.document_typed_selections.specs.declared.selection.SelectionSet.{SelectionSet}
use Rattle.document_typed_selections.specs.declared.selection.Selection.TheOpen.{FragmentSpread as SpreadOf}
use Rattle.document_typed_selections.specs.declared.selection.Selection.TheViews.{Field as Field', InlineFragment as InlineFragment', out-Selection}
use Rattle.document_typed_selections.specs.TypedParts.{typed_field_node, typed_spread_node, typed_inline_node}
use Rattle.document_typed_selections.proofs.TypedTrees.{typed_tree_field, typed_tree_inline, typed_set_tree_out, typed_selection_tree_out, tree_here}
use Rattle.document_typed_operations.specs.TypedDocument.{TypedOperation, TypedFragment, typed_operation_tree, typed_fragment_tree}
use Rattle.document_typed_operations.specs.declared.operation.Operation.{Operation}
use Rattle.document_typed_operations.specs.declared.operation.Fragment.{Fragment}
use Rattle.document_typed_operations.specs.declared.document.ExecutableDocument.{ExecutableDocument}
use Rattle.spec_document.specs.MeantTree.{MeantSelection, MeantSet, MeantOperation, MeantFragment, meant, meant_of_set, meant_of_all}
use Rattle.rule_reach.specs.in_typed_operations.DocumentView.{meant_by_operation, meant_by_fragment, document_meant}
use Rattle.rule_document_definitions.specs.Selected.{operations, fragments}
use Rattle.rule_document_definitions.specs.Limits.{path_bound}
use Rattle.rule_selection_queries.specs.Inside.{contents_in, contents_along, contents_of, contents_below}
use Rattle.rule_selection_queries.specs.Lent.{lent}
use Rattle.std.proofs.lemmas.List.{take_all}
use Rattle.rule_selection_queries.proofs.Telling.{any_there}
use Rattle.std.proofs.lemmas.Grind.{flat_map-append}

pub flat_map-flat_map : {A B C : Type 0} (f : B → List C) (g : A → List B) (xs : List A) → flat_map f (flat_map g xs) ≡ flat_map (λ x. flat_map f (g x)) xs
flat_map-flat_map f g [] = refl
flat_map-flat_map f g (x ∷ xs) = flat_map-append f (g x) (flat_map g xs) ∙ ap (λ l. flat_map f (g x) ++ l) (flat_map-flat_map f g xs)

-- ---- along selections

module _ (nested : Bool) (keep : MeantSelection Place → Bool) where
  along : (ss : List Selection) → contents_along nested keep (meant_of_all (typed_selections typed_selection_tree ss)) ≡ flat_map (λ s. contents_of nested keep (lent s)) ss
  along [] = refl
  along (s ∷ ss) = ap (λ l. contents_of nested keep (lent s) ++ l) (along ss)

  pub set_contents : (s : SelectionSet) → contents_in nested keep (meant_of_set (typed_set_tree s)) ≡ flat_map (λ s. contents_of nested keep (lent s)) s.selections.items
  set_contents s = ap (λ t. contents_in nested keep (meant_of_set t)) (typed_set_tree_out s) ∙ along s.selections.items

  pub set_told : {B : Type 0} (tells : MeantSelection Place → List B) (s : SelectionSet) → flat_map tells (contents_in nested keep (meant_of_set (typed_set_tree s))) ≡ flat_map (λ s. flat_map tells (contents_of nested keep (lent s))) s.selections.items
  set_told tells s = ap (flat_map tells) (set_contents s) ∙ flat_map-flat_map tells (λ (s : Selection). contents_of nested keep (lent s)) s.selections.items

-- ---- of one selection

pub lent_field : (s : Selection) (n : Node Field) → s ≡ Field' n → lent s ≡ meant (typed_field_node n)
lent_field s n is = ap lent is ∙ ap meant (typed_tree_field n)

pub lent_inline : (s : Selection) (n : Node InlineFragment) → s ≡ InlineFragment' n → lent s ≡ meant (typed_inline_node n)
lent_inline s n is = ap lent is ∙ ap meant (typed_tree_inline n)

pub lent_spread : (s : Selection) (n : Node FragmentSpread) → out-Selection s ≡ SpreadOf n → lent s ≡ meant (typed_spread_node n)
lent_spread s n is = ap meant (typed_selection_tree_out s ∙ ap tree_here is)

module _ (keep : MeantSelection Place → Bool) (s : Selection) where
  -- what is in a field, in an inline fragment, in a spread
  pub field_contents : (n : Node Field) (f : Field) → s ≡ Field' n → f ≡ content n → contents_below true keep (lent s) ≡ contents_in true keep (meant_of_set (typed_set_tree f.selection_set))
  field_contents n f is of = ap (contents_below true keep) (lent_field s n is) ∙ ap (λ (g : Field). contents_in true keep (meant_of_set (typed_set_tree g.selection_set))) (sym of)

  pub inline_contents : (n : Node InlineFragment) (f : InlineFragment) → s ≡ InlineFragment' n → f ≡ content n → contents_below true keep (lent s) ≡ contents_in true keep (meant_of_set (typed_set_tree f.selection_set))
  inline_contents n f is of = ap (contents_below true keep) (lent_inline s n is) ∙ ap (λ (g : InlineFragment). contents_in true keep (meant_of_set (typed_set_tree g.selection_set))) (sym of)

  pub spread_contents : (n : Node FragmentSpread) → out-Selection s ≡ SpreadOf n → contents_below true keep (lent s) ≡ []
  spread_contents n is = ap (contents_below true keep) (lent_spread s n is)

  -- the selection with what is in it, where it is kept
  pub kept_contents : keep (lent s) ≡ true → contents_of true keep (lent s) ≡ lent s ∷ contents_below true keep (lent s)
  kept_contents k = ap (λ b. if b then lent s ∷ contents_below true keep (lent s) else []) k

  pub left_contents : keep (lent s) ≡ false → contents_of true keep (lent s) ≡ []
  left_contents k = ap (λ b. if b then lent s ∷ contents_below true keep (lent s) else []) k

-- one and then more
pub and_more : {X : Type 0} (old mid new below all : List X) (x : X) → mid ≡ old ++ x ∷ [] → new ≡ mid ++ below → all ≡ x ∷ below → new ≡ old ++ all
and_more old mid new below all x one more is = more ∙ ap (λ l. l ++ below) one ∙ append_assoc old (x ∷ []) below ∙ ap (λ l. old ++ l) (sym is)

-- ---- where a loop has come to

module _ (nested : Bool) (keep : MeantSelection Place → Bool) where
  pub contents_all : (s : SelectionSet) (i : ℕ) (old now : List (MeantSelection Place)) → length s.selections.items ≤ i → now ≡ old ++ flat_map (λ s. contents_of nested keep (lent s)) (take i s.selections.items)
      → now ≡ old ++ contents_in nested keep (meant_of_set (typed_set_tree s))
  contents_all s i old now end h = h ∙ ap (λ l. old ++ flat_map (λ (s : Selection). contents_of nested keep (lent s)) l) (take_all i s.selections.items end) ∙ ap (λ l. old ++ l) (sym (set_contents nested keep s))

  pub told_contents : {B : Type 0} (tells : MeantSelection Place → List B) (s : SelectionSet) (i : ℕ) (old now : List B) → length s.selections.items ≤ i → now ≡ old ++ flat_map (λ s. flat_map tells (contents_of nested keep (lent s))) (take i s.selections.items)
      → now ≡ old ++ flat_map tells (contents_in nested keep (meant_of_set (typed_set_tree s)))
  told_contents tells s i old now end h = h ∙ ap (λ l. old ++ flat_map (λ (s : Selection). flat_map tells (contents_of nested keep (lent s))) l) (take_all i s.selections.items end) ∙ ap (λ l. old ++ l) (sym (set_told nested keep tells s))

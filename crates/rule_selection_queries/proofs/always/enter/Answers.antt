use Rattle.std.proofs.Common.{◌≡◌, ◌∷◌, [], map, Some, true, false, bytes_eq, sym, ap, ◌∙◌}
use Rattle.std.specs.List.{list_any}
use Rattle.indexmap.specs.IndexSet.{insert_key}
use Rattle.graphql_names.specs.NameValue.{NameValue}
use Rattle.document_typed_selections.specs.TypedParts.{typed_spread_node}
use Rattle.document_typed_selections.specs.TypedTree.{typed_selection_tree, typed_set_tree}
use Rattle.document_typed_selections.specs.declared.selection.FragmentSpread.{FragmentSpread}
use Rattle.document_typed_operations.specs.WalkView.{fragments_tree}
use Rattle.rule_document_definitions.specs.Selected.{spread_name}
use Rattle.rule_reach.specs.NotedNames.{noted_names}
use Rattle.rule_reach.proofs.NotedNames.{any_text, inserted}
use Rattle.rule_selection_queries.specs.Lent.{lent}
use Rattle.rule_selection_queries.proofs.Staying.{not_true}
use Rattle.rule_selection_queries.proofs.Found.{enter_known, enter_missing}
use Rattle.rule_selection_queries.proofs.Entering.{a_spread, nothing_set, nothing_name, new_set, new_name, is_there, put_again, is_missing, is_found}
use Rattle.rule_selection_queries.proofs.always.enter.Goals as goal

pub returns-in_default-get-clause-set : goal.returns-in_default-get-clause-set
returns-in_default-get-clause-set c =
    let fs = fragments_tree c.args.fragments.now in
    let names = noted_names c.args.entered.now in
    let s = lent c.args.selection.now in
    let n = c.content.result.now.fragment_name.text in
    let spread : spread_name s ≡ Some n = a_spread (typed_selection_tree c.args.selection.now) (typed_spread_node c.in-Some.spread.now) c.in-Some.ensures ∙ ap (λ (f : FragmentSpread). Some f.fragment_name.text) (sym c.content.ensures) in
    nothing_set fs names s (enter_missing fs names s n spread (is_missing n c.args.fragments.now.entries c.in_default-get.ensures.value))

pub returns-in_default-get-clause-noted : goal.returns-in_default-get-clause-noted
returns-in_default-get-clause-noted c =
    let fs = fragments_tree c.args.fragments.now in
    let names = noted_names c.args.entered.now in
    let s = lent c.args.selection.now in
    let n = c.content.result.now.fragment_name.text in
    let spread : spread_name s ≡ Some n = a_spread (typed_selection_tree c.args.selection.now) (typed_spread_node c.in-Some.spread.now) c.in-Some.ensures ∙ ap (λ (f : FragmentSpread). Some f.fragment_name.text) (sym c.content.ensures) in
    nothing_name fs names s (enter_missing fs names s n spread (is_missing n c.args.fragments.now.entries c.in_default-get.ensures.value))

pub returns-then-branch-clause-set : goal.returns-then-branch-clause-set
returns-then-branch-clause-set c =
    let fs = fragments_tree c.args.fragments.now in
    let names = noted_names c.args.entered.now in
    let s = lent c.args.selection.now in
    let n = c.content.result.now.fragment_name.text in
    let copy = c.in_ok-clone.field-0 in
    let spread : spread_name s ≡ Some n = a_spread (typed_selection_tree c.args.selection.now) (typed_spread_node c.in-Some.spread.now) c.in-Some.ensures ∙ ap (λ (f : FragmentSpread). Some f.fragment_name.text) (sym c.content.ensures) in
    let text : copy.text ≡ n = ap (λ (k : NameValue). k.text) c.in_ok-clone.ensures.same in
    let new : list_any (λ (a : NameValue). bytes_eq copy.text a.text) c.args.entered.now.keys ≡ false = not_true _ (sym c.in_ok-insert.ensures.added ∙ c.if-branch.true) in
    let known : list_any (bytes_eq n) names ≡ false = ap (λ t. list_any (bytes_eq t) names) (sym text) ∙ sym (any_text copy.text c.args.entered.now.keys) ∙ new in
    new_set fs names s n (typed_set_tree c.content-then-branch.result.now.selection_set) spread known
    (is_found n c.args.fragments.now.entries c.in-Some-get.fragment.now c.content-then-branch.result.now c.in-Some-get.ensures.value c.content-then-branch.ensures)

pub returns-then-branch-clause-noted : goal.returns-then-branch-clause-noted
returns-then-branch-clause-noted c =
    let fs = fragments_tree c.args.fragments.now in
    let names = noted_names c.args.entered.now in
    let s = lent c.args.selection.now in
    let n = c.content.result.now.fragment_name.text in
    let copy = c.in_ok-clone.field-0 in
    let spread : spread_name s ≡ Some n = a_spread (typed_selection_tree c.args.selection.now) (typed_spread_node c.in-Some.spread.now) c.in-Some.ensures ∙ ap (λ (f : FragmentSpread). Some f.fragment_name.text) (sym c.content.ensures) in
    let text : copy.text ≡ n = ap (λ (k : NameValue). k.text) c.in_ok-clone.ensures.same in
    let new : list_any (λ (a : NameValue). bytes_eq copy.text a.text) c.args.entered.now.keys ≡ false = not_true _ (sym c.in_ok-insert.ensures.added ∙ c.if-branch.true) in
    let known : list_any (bytes_eq n) names ≡ false = ap (λ t. list_any (bytes_eq t) names) (sym text) ∙ sym (any_text copy.text c.args.entered.now.keys) ∙ new in
    new_name fs names s n (typed_set_tree c.content-then-branch.result.now.selection_set) (noted_names c.insert.new.self) spread known
    (is_found n c.args.fragments.now.entries c.in-Some-get.fragment.now c.content-then-branch.result.now c.in-Some-get.ensures.value c.content-then-branch.ensures)
    (ap (map (λ (a : NameValue). a.text)) c.in_ok-insert.ensures.keys ∙ inserted c.args.entered.now.keys copy ∙ ap (insert_key bytes_eq names) text)

pub returns-clause-set : goal.returns-clause-set
returns-clause-set c =
    let fs = fragments_tree c.args.fragments.now in
    let names = noted_names c.args.entered.now in
    let s = lent c.args.selection.now in
    let n = c.content.result.now.fragment_name.text in
    let copy = c.in_ok-clone.field-0 in
    let spread : spread_name s ≡ Some n = a_spread (typed_selection_tree c.args.selection.now) (typed_spread_node c.in-Some.spread.now) c.in-Some.ensures ∙ ap (λ (f : FragmentSpread). Some f.fragment_name.text) (sym c.content.ensures) in
    let text : copy.text ≡ n = ap (λ (k : NameValue). k.text) c.in_ok-clone.ensures.same in
    let old : list_any (λ (a : NameValue). bytes_eq copy.text a.text) c.args.entered.now.keys ≡ true = is_there _ (sym c.in_ok-insert.ensures.added ∙ c.if-branch.false) in
    let known : list_any (bytes_eq n) names ≡ true = ap (λ t. list_any (bytes_eq t) names) (sym text) ∙ sym (any_text copy.text c.args.entered.now.keys) ∙ old in
    nothing_set fs names s (enter_known fs names s n spread known)

pub returns-clause-noted : goal.returns-clause-noted
returns-clause-noted c =
    let fs = fragments_tree c.args.fragments.now in
    let names = noted_names c.args.entered.now in
    let s = lent c.args.selection.now in
    let n = c.content.result.now.fragment_name.text in
    let copy = c.in_ok-clone.field-0 in
    let spread : spread_name s ≡ Some n = a_spread (typed_selection_tree c.args.selection.now) (typed_spread_node c.in-Some.spread.now) c.in-Some.ensures ∙ ap (λ (f : FragmentSpread). Some f.fragment_name.text) (sym c.content.ensures) in
    let text : copy.text ≡ n = ap (λ (k : NameValue). k.text) c.in_ok-clone.ensures.same in
    let old : list_any (λ (a : NameValue). bytes_eq copy.text a.text) c.args.entered.now.keys ≡ true = is_there _ (sym c.in_ok-insert.ensures.added ∙ c.if-branch.false) in
    let known : list_any (bytes_eq n) names ≡ true = ap (λ t. list_any (bytes_eq t) names) (sym text) ∙ sym (any_text copy.text c.args.entered.now.keys) ∙ old in
    ap (map (λ (a : NameValue). a.text)) c.in_ok-insert.ensures.keys ∙ inserted c.args.entered.now.keys copy ∙ ap (insert_key bytes_eq names) text
    ∙ put_again names n known ∙ nothing_name fs names s (enter_known fs names s n spread known)

use Rattle.std.proofs.Common.{◌≡◌, ◌++◌, ◌+◌, ◌-◌, option_to_list, ◌<◌, ◌≤◌, [], length, map, slice_get, get_or, Option, Some, None, Vec, Global, refl, ap, sym, subst, ◌∙◌, append-nil, rules}
use Rattle.std.specs.Borrow.{Bor}
use Rattle.std.specs.Option.{option_map, option_map_or}
use Rattle.std.proofs.lemmas.Option.{slice_get_read, slice_get-map}
use Rattle.graphql_names.specs.NameValue.{NameValue}
use Rattle.graphql_names.specs.Placed.{Place}
use Rattle.spec_document.specs.MeantTree.{meant_of_set}
use Rattle.document_typed_selections.specs.TypedTree.{TypedSet, typed_set_tree}
use Rattle.document_typed_selections.specs.declared.selection.Selection.{Selection}
use Rattle.document_typed_selections.specs.declared.selection.SelectionSet.{SelectionSet}
use Rattle.document_typed_operations.specs.TypedDocument.{typed_document_tree}
use Rattle.document_typed_operations.specs.declared.operation.Operation.{Operation}
use Rattle.document_typed_operations.specs.Reached.{document_fragments}
use Rattle.document_typed_operations.specs.WalkView.{fragments_tree}
use Rattle.document_typed_operations.proofs.WalkLaws.{fragments_tree-document}
use Rattle.rule_reach.specs.in_typed_operations.DocumentView.{document_meant, operation_meant}
use Rattle.rule_reach.specs.NotedNames.{noted_names}
use Rattle.rule_selection_queries.specs.Always.{Found, always_in, to_enter, to_come}
use Rattle.rule_selection_queries.specs.Lent.{lent, lent_all}
use Rattle.rule_selection_queries.proofs.Mapped.{length-lent}
use Rattle.rule_selection_queries.proofs.Found.{found_first, found_all, walk_step, walk_less}
use Rattle.rule_selection_queries.proofs.always.always_reached.Goals as goal
use Rattle.rule_selection_queries.proofs.always.always_reached.Goals.{in-Some+in_ok-push_staying-2, in_default}

pub walk-init : goal.walk-init
walk-init c =
    let t = typed_document_tree c.args.document.now in
    let d = document_meant c.args.document.now in
    let o = operation_meant c.args.operation.now in
    let all : lent_all c.push_staying.new.found.items ≡ always_in o.set =
    c.in_ok-push_staying.ensures
    ∙ ap (λ l. lent_all l ++ always_in (meant_of_set (typed_set_tree c.content.result.now.selection_set))) c.new-found.ensures.items
    ∙ ap (λ (x : Operation). always_in (meant_of_set (typed_set_tree x.selection_set))) c.content.ensures in
    subst (λ ns. Found d o (document_fragments t) (lent_all c.push_staying.new.found.items) 0 ns) (sym (ap (map (λ (k : NameValue). k.text)) c.new-entered.ensures.empty))
    (subst (λ l. Found d o (document_fragments t) l 0 []) (sym all) (found_first t o))

pub walk-preserved : goal.walk-preserved
walk-preserved c =
    let t = typed_document_tree c.args.document.now in
    let d = document_meant c.args.document.now in
    let o = operation_meant c.args.operation.now in
    let found = lent_all c.walk.found.items in
    let names = noted_names c.walk.entered in
    let s = lent c.index.result.now in
    let new = noted_names c.enter.new.entered in
    let given = option_map (λ (u : Bor SelectionSet). typed_set_tree u.now) c.in_ok-set.field-0 in
    let within : c.walk.passed < length c.walk.found.items = search rules in
    let item : slice_get c.walk.found.items c.walk.passed ≡ Some c.index.result.now = slice_get_read c.walk.found.items (length c.walk.found.items) c.walk.passed c.index.result.now refl within c.index.ensures in
    let at : slice_get found c.walk.passed ≡ Some s = slice_get-map lent c.walk.found.items c.walk.passed ∙ ap (option_map lent) item in
    let fragments = fragments_tree-document c.args.document.now in
    let set = subst (λ fs. given ≡ option_map (λ f. f.1) (to_enter fs names s)) (sym fragments) c.in_ok-set.ensures.set in
    let noted = subst (λ fs. new ≡ names ++ option_to_list (option_map (λ f. f.0) (to_enter fs names s))) (sym fragments) c.in_ok-set.ensures.noted in
    let step = walk_step t o found c.walk.passed names new s given at set noted c.walk.invariant in
    let over = λ (q : Option (Bor SelectionSet)). found ++ option_map_or (λ (u : TypedSet Place). always_in (meant_of_set u)) (option_map (λ (u : Bor SelectionSet). typed_set_tree u.now) q) [] in
    let same : lent_all c.match-branch-3.found.items ≡ over c.in_ok-set.field-0 =
    elim c.match-branch-3.branch [
      | in-Some+in_ok-push_staying-2 w ↦ ap (λ (v : Vec Selection Global). lent_all v.items) w.found-is ∙ w.in_ok-push_staying-2.ensures ∙ ap over (sym w.in-Some.is)
      | in_default w ↦ ap (λ (v : Vec Selection Global). lent_all v.items) w.found-is ∙ sym (append-nil found) ∙ ap over (sym w.in_default.is)
    ] in
    subst (λ l. Found d o (document_fragments t) l (c.walk.passed + 1) new) (sym same) step

pub walk-smaller : goal.walk-smaller
walk-smaller c =
    let t = typed_document_tree c.args.document.now in
    let d = document_meant c.args.document.now in
    let o = operation_meant c.args.operation.now in
    let found = lent_all c.walk.found.items in
    let names = noted_names c.walk.entered in
    let s = lent c.index.result.now in
    let new = noted_names c.enter.new.entered in
    let given = option_map (λ (u : Bor SelectionSet). typed_set_tree u.now) c.in_ok-set.field-0 in
    let within : c.walk.passed < length c.walk.found.items = search rules in
    let item : slice_get c.walk.found.items c.walk.passed ≡ Some c.index.result.now = slice_get_read c.walk.found.items (length c.walk.found.items) c.walk.passed c.index.result.now refl within c.index.ensures in
    let at : slice_get found c.walk.passed ≡ Some s = slice_get-map lent c.walk.found.items c.walk.passed ∙ ap (option_map lent) item in
    let fragments = fragments_tree-document c.args.document.now in
    let set = subst (λ fs. given ≡ option_map (λ f. f.1) (to_enter fs names s)) (sym fragments) c.in_ok-set.ensures.set in
    let noted = subst (λ fs. new ≡ names ++ option_to_list (option_map (λ f. f.0) (to_enter fs names s))) (sym fragments) c.in_ok-set.ensures.noted in
    let over = λ (q : Option (Bor SelectionSet)). found ++ option_map_or (λ (u : TypedSet Place). always_in (meant_of_set u)) (option_map (λ (u : Bor SelectionSet). typed_set_tree u.now) q) [] in
    let same : lent_all c.match-branch-3.found.items ≡ over c.in_ok-set.field-0 =
    elim c.match-branch-3.branch [
      | in-Some+in_ok-push_staying-2 w ↦ ap (λ (v : Vec Selection Global). lent_all v.items) w.found-is ∙ w.in_ok-push_staying-2.ensures ∙ ap over (sym w.in-Some.is)
      | in_default w ↦ ap (λ (v : Vec Selection Global). lent_all v.items) w.found-is ∙ sym (append-nil found) ∙ ap over (sym w.in_default.is)
    ] in
    let many : c.walk.passed < length found = subst (λ n. c.walk.passed < n) (sym (length-lent c.walk.found.items)) within in
    subst (λ l. (length l - (c.walk.passed + 1)) + to_come (document_fragments t) new < (length found - c.walk.passed) + to_come (document_fragments t) names) (sym same)
    (walk_less t o found c.walk.passed names new s given many set noted)

pub returns : goal.returns
returns c =
    let end : length c.walk.found.items ≤ c.walk.passed = search rules in
    found_all (typed_document_tree c.args.document.now) (operation_meant c.args.operation.now) (lent_all c.walk.found.items) c.walk.passed (noted_names c.walk.entered)
    (subst (λ n. n ≤ c.walk.passed) (sym (length-lent c.walk.found.items)) end) c.walk.invariant

use Rattle.std.proofs.Common.{[], ◌∷◌, ◌++◌, map, Some, sym, ap, ◌∙◌, option_to_list}
use Rattle.std.specs.Option.{option_map}
use Rattle.std.proofs.lemmas.List.{map-append, append-nil}
use Rattle.std.proofs.lemmas.Option.{slice_get-map, slice_get-get_or, slice_get_past}
use Rattle.schema_fold_index.specs.in_fold.ListedView.{listed_view}
use Rattle.schema_fold_index.specs.in_fold.declared.numbered_definition.NumberedDefinition.{NumberedDefinition}
use Rattle.schema_fold_types.proofs.extensions.push_at.Goals as goal

pub returns-in_default : goal.returns-in_default
returns-in_default c =
    let front = map listed_view c.args.gathered.now.items in
    let none = slice_get_past c.args.texts.now c.args.position c.in_default.ensures.lookup.3 in
    sym (append-nil front) ∙ ap (λ o. front ++ option_to_list o) (sym (slice_get-map listed_view c.args.texts.now c.args.position ∙ ap (option_map listed_view) none))

pub returns : goal.returns
returns c =
    let front = map listed_view c.args.gathered.now.items in
    let here = c.in-Some.listed.now in
    let found = c.in-Some.ensures.lookup.3 in
    let at = slice_get-get_or c.args.texts.now c.args.position here found.0 ∙ ap Some (sym (found.1 here)) in
    let item : NumberedDefinition = record { definition = c.in_ok-definition.definition; extension = here.extension } in
    ap (map listed_view) c.in_ok-push.ensures.items ∙ map-append listed_view c.args.gathered.now.items (item ∷ [])
    ∙ ap (λ d. front ++ record (listed_view here) { definition = d } ∷ []) c.in_ok-definition.ensures.cases
    ∙ ap (λ o. front ++ option_to_list o) (sym (slice_get-map listed_view c.args.texts.now c.args.position ∙ ap (option_map listed_view) at))

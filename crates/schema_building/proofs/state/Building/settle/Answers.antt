use Rattle.std.proofs.Common.{length, map, take, drop, sym, ap, subst, ◌∙◌}
use Rattle.schema_built_in.specs.in_fold.NumberedDefinition.{definitions_of}
use Rattle.schema_built_in.specs.in_fold.ListedView.{listed_view}
use Rattle.schema_built_in.specs.Table.{built_in_definitions}
use Rattle.schema_fold_index.specs.Index.{IsIndexOf}
use Rattle.schema_building.specs.Settling.{unnumbered, settled_from}
use Rattle.schema_building.specs.SettingsView.{settings_view}
use Rattle.schema_building.specs.SourcesView.{sources_view}
use Rattle.schema_building.specs.TextsView.{texts_view}
use Rattle.schema_building.specs.Waiting.{orphan_kinds}
use Rattle.schema_building.proofs.Keeping.{from_kept, list_is, filed_first}
use Rattle.schema_building.proofs.state.Building.settle.Goals as goal

pub settled_index-requires : goal.settled_index-requires
settled_index-requires c = λ none.
    let b = c.args.self in
    let same = c.into_parts-texts.ensures.texts in
    let s = settings_view b.settings in
    let kept = from_kept b.texts (b.kept c.if-self.false) in
    let list = c.settle.new.list.items in
    let is = c.in_ok-built_in.ensures.settles ∙ ap (λ t. settled_from s (texts_view t).list (orphan_kinds t.index) (map unnumbered built_in_definitions)) same in
    let filed = filed_first b.texts s none c.in_ok-built_in.built_in list kept (list_is b.texts s (map listed_view list) kept is) c.in_ok-built_in.ensures.built_in in
    let back = c.split_at.ensures.back ∙ ap (drop c.in_ok-built_in.built_in) c.deref.ensures.value in
    subst (λ t. IsIndexOf (take (length t.list.items) (definitions_of (map listed_view c.split_at.result.1.now))) t.index) (sym same)
    (subst (λ l. IsIndexOf (take (length b.texts.list.items) (definitions_of (map listed_view l))) b.texts.index) (sym back) filed)

pub returns-clause-list : goal.returns-clause-list
returns-clause-list c =
    let b = c.args.self in
    let s = settings_view b.settings in
    let list = map listed_view c.settle.new.list.items in
    list_is b.texts s list (from_kept b.texts (b.kept c.if-self.false))
    (c.in_ok-built_in.ensures.settles ∙ ap (λ t. settled_from s (texts_view t).list (orphan_kinds t.index) (map unnumbered built_in_definitions)) c.into_parts-texts.ensures.texts)

pub returns-clause-index : goal.returns-clause-index
returns-clause-index c =
    subst (λ l. IsIndexOf (definitions_of (map listed_view l)) c.in_ok-index.index)
    (c.split_at.ensures.back ∙ ap (drop c.in_ok-built_in.built_in) c.deref.ensures.value) c.in_ok-index.ensures

pub returns-clause-sources : goal.returns-clause-sources
returns-clause-sources c = ap sources_view c.into_parts-texts.ensures.sources

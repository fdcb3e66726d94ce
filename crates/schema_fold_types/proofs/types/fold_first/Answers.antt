use Rattle.std.proofs.Common.{◌++◌, [], ◌∷◌, map, sym, ap, ◌∙◌}
use Rattle.std.proofs.lemmas.List.{map-append}
use Rattle.std.proofs.lemmas.Result.{IfOk-weaker}
use Rattle.indexmap.specs.IndexMap.{get}
use Rattle.schema_fold_index.specs.in_components.Names.{same_text}
use Rattle.schema_fold_index.specs.in_schema_types.TypeView.{name_text}
use Rattle.schema_fold_index.specs.in_schema_types.SchemaView.{types_view}
use Rattle.schema_fold_index.specs.in_fold.FaultView.{faults_of}
use Rattle.schema_fold_index.specs.in_fold.Fold.{folded_type}
use Rattle.schema_fold_index.specs.in_fold.ListedView.{listed_view}
use Rattle.schema_fold_index.specs.in_fold.Made.{defined_view}
use Rattle.schema_fold_types.specs.TypeFaults.{faults_of_type}
use Rattle.schema_fold_index.specs.Index.{extensions_under}
use Rattle.schema_fold_types.proofs.Seeing.{is_absent}
use Rattle.schema_fold_types.proofs.Folding.{entry_view, folds_seen, folds_new}
use Rattle.schema_fold_types.proofs.types.fold_first.Goals as goal

pub returns-then-contains_key : goal.returns-then-contains_key
returns-then-contains_key c =
    folds_seen (extensions_under (map listed_view c.args.extended.now.texts.now) c.args.extended.now.filed.now.entries) c.args.types.now.entries (defined_view c.args.defined.now) (faults_of c.args.faults.now)
    (sym c.contains_key.ensures ∙ c.if-contains_key.true)

pub insert_new-requires : goal.insert_new-requires
insert_new-requires c = is_absent (get (same_text name_text) c.args.types.now c.args.defined.now.parts.name.now) (sym c.contains_key.ensures ∙ c.if-contains_key.false)

pub returns : goal.returns
returns c =
    let es = c.args.types.now.entries in
    let t = defined_view c.args.defined.now in
    let name = c.args.defined.now.parts.name.now in
    let faults = faults_of c.args.faults.now in
    let given = ap (map listed_view) c.deref.ensures.value ∙ c.in_ok-extensions.ensures in
    let absent = sym c.contains_key.ensures ∙ c.if-contains_key.false in
    IfOk-weaker _ _ _ (λ _ h. folds_new (extensions_under (map listed_view c.args.extended.now.texts.now) c.args.extended.now.filed.now.entries) es t (types_view c.insert_new.new.map) faults (faults_of c.fold_type.new.faults) absent
    (ap (map entry_view) h ∙ map-append entry_view es ((name, c.in_ok-folded.folded) ∷ []) ∙ ap (λ x. map entry_view es ++ (name.text, x) ∷ []) (c.in_ok-folded.ensures.folded ∙ ap (λ l. folded_type l t) given))
    (c.in_ok-folded.ensures.faults ∙ ap (λ l. faults ++ faults_of_type l t) given)) c.insert_new.ensures

use Rattle.std.proofs.Common.{◌≡◌, ◌<◌, ◌++◌, [], ◌∷◌, map, take, length, is_some, sym, ap, ◌∙◌, arith}
use Rattle.std.specs.Map.{lookup}
use Rattle.std.specs.Str.{bytes_eq}
use Rattle.std.proofs.lemmas.List.{map_more, map-append, take_all}
use Rattle.graphql_names.specs.NameValue.{NameValue}
use Rattle.graphql_names.specs.Node.{content}
use Rattle.schema_types.specs.in_components.Lists.{repeats}
use Rattle.schema_types.specs.in_components.Names.{entries_of}
use Rattle.schema_types.specs.in_components.Given.{component_tree, origin_tree}
use Rattle.schema_types.specs.TypeView.{name_text}
use Rattle.schema_fold.specs.FaultView.{faults_of, repeat_breach}
use Rattle.schema_fold.specs.PartsView.{itself, given_contents}
use Rattle.schema_fold.specs.Keeping.{content_key, component_fault}
use Rattle.schema_fold.proofs.Keeping.{keeps_seen, keeps_new, kept_on, told_on}
use Rattle.schema_fold.proofs.keep.keep_components.Goals as goal
use Rattle.schema_fold.proofs.keep.keep_components.Goals.{then-contains_key+in_ok-note_repeat, else-contains_key+in_ok-shared+in_ok-insert_new}

pub loop-component-preserved : goal.loop-component-preserved
loop-component-preserved g c =
    let view = component_tree (itself {A = g.row.T.Denot}) in
    let key = content_key g.T.Keyed.key_of in
    let type_name = c.args.type_name.now.text in
    let note = component_fault g.T.Keyed.key_of c.args.repeat type_name in
    let xs = c.args.all.now in
    let i = c.loop-component.component-index in
    let x = c.component-item.result in
    let h : i < length xs = omega arith in
    let front = map_more view xs i x h ∙ ap (λ y. map view (take i xs) ++ view y ∷ []) (sym c.component-item.is) in
    let so_far = c.loop-component.invariant in
    let es = c.loop-component.kept.entries in
    let faults = faults_of c.loop-component.faults in
    let named : c.key-name.result.now ≡ g.T.Keyed.key_of (content x.node) = c.key-name.ensures ∙ ap g.T.Keyed.key_of c.content.ensures in
    let found = ap (λ (n : NameValue). is_some (lookup (λ k. bytes_eq n.text k.text) es)) (sym named) ∙ sym c.contains_key.ensures in
    elim c.if-contains_key.branch [
      | then-contains_key+in_ok-note_repeat w ↦
          let step = keeps_seen key note view es (view x) faults (faults_of w.note_repeat.new.faults) (found ∙ w.if-contains_key.true)
          (w.in_ok-note_repeat.ensures ∙ (λ i. faults ++ record { place = w.location.ensures i; breach = repeat_breach c.args.repeat type_name (named i).text } ∷ [])) in
          record {
            kept = ap (entries_of name_text view) w.kept-is ∙ kept_on key note (map view (take i xs)) (view x) _ front _ _ _ _ so_far.kept step;
            told = ap faults_of w.faults-is ∙ told_on key note (map view (take i xs)) (view x) _ front _ _ _ _ _ so_far.kept so_far.told step;
          }
      | else-contains_key+in_ok-shared+in_ok-insert_new w ↦
          let clone = w.in_ok-shared.ensures.cases in
          let same : view w.in_ok-shared.shared ≡ view x = (λ i. record { extension = origin_tree (clone.0 i); it = record { it = clone.1 i; place = clone.2 i } }) in
          let step = keeps_new key note view es (view x) (entries_of name_text view w.insert_new.new.map) faults (found ∙ w.if-contains_key.false)
          (ap (map (λ e. (name_text e.0, view e.1))) w.in_ok-insert_new.ensures ∙ map-append (λ e. (name_text e.0, view e.1)) es ((c.key-name.result.now, w.in_ok-shared.shared) ∷ [])
          ∙ (λ i. entries_of name_text view c.loop-component.kept ++ ((named i).text, same i) ∷ [])) in
          record {
            kept = ap (entries_of name_text view) w.kept-is ∙ kept_on key note (map view (take i xs)) (view x) _ front _ _ _ _ so_far.kept step;
            told = ap faults_of w.faults-is ∙ told_on key note (map view (take i xs)) (view x) _ front _ _ _ _ _ so_far.kept so_far.told step;
          }
    ]

pub returns-clause-faults : goal.returns-clause-faults
returns-clause-faults g c =
    let key = content_key g.T.Keyed.key_of in
    let note = component_fault g.T.Keyed.key_of c.args.repeat c.args.type_name.now.text in
    c.loop-component.invariant.told ∙ ap (λ xs. faults_of c.args.faults.now ++ map note (repeats key (given_contents xs))) (take_all c.loop-component.component-index c.args.all.now c.loop-component-test.false)

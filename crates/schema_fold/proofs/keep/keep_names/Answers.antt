use Rattle.std.proofs.Common.{◌≡◌, ◌<◌, ◌++◌, [], ◌∷◌, map, take, length, sym, ap, ◌∙◌, cond, arith}
use Rattle.std.specs.List.{list_any}
use Rattle.std.specs.Str.{bytes_eq}
use Rattle.std.proofs.lemmas.List.{map_more, map-append}
use Rattle.graphql_names.specs.NameValue.{NameValue}
use Rattle.graphql_names.specs.Placed.{name_tree}
use Rattle.schema_types.specs.in_components.Given.{component_name_tree, given_name, origin_tree}
use Rattle.schema_fold.specs.FaultView.{faults_of, repeat_breach}
use Rattle.schema_fold.specs.Keeping.{name_fault}
use Rattle.schema_fold.proofs.Keeping.{names_seen, names_new, names_on, names_told_on}
use Rattle.schema_fold.proofs.keep.keep_names.Goals as goal
use Rattle.schema_fold.proofs.keep.keep_names.Goals.{then-contains+in_ok-note_repeat, else-contains+in_ok-clone+in_ok-insert}

pub loop-component-preserved : goal.loop-component-preserved
loop-component-preserved c =
    let type_name = c.args.type_name.now.text in
    let note = name_fault c.args.repeat type_name in
    let xs = c.args.all.now in
    let i = c.loop-component.component-index in
    let x = c.component-item.result in
    let h : i < length xs = omega arith in
    let before = map component_name_tree (take i xs) in
    let front = map_more component_name_tree xs i x h ∙ ap (λ y. before ++ component_name_tree y ∷ []) (sym c.component-item.is) in
    let so_far = c.loop-component.invariant in
    let ks = c.loop-component.kept.keys in
    let faults = faults_of c.loop-component.faults in
    elim c.if-contains.branch [
      | then-contains+in_ok-note_repeat w ↦
          let step = names_seen given_name note component_name_tree ks (component_name_tree x) faults (faults_of w.note_repeat.new.faults) (sym c.contains.ensures ∙ w.if-contains.true)
          (w.in_ok-note_repeat.ensures ∙ (λ i. faults ++ record { place = w.location.ensures.value i; breach = repeat_breach c.args.repeat type_name x.name.text } ∷ [])) in
          record {
            kept = ap (λ (k : _). map component_name_tree k.keys) w.kept-is ∙ names_on given_name note before (component_name_tree x) _ front _ _ _ _ so_far.kept step;
            told = ap faults_of w.faults-is ∙ names_told_on given_name note before (component_name_tree x) _ front _ _ _ _ _ so_far.kept so_far.told step;
          }
      | else-contains+in_ok-clone+in_ok-insert w ↦
          let copy = w.in_ok-clone.field-0 in
          let clone = w.in_ok-clone.ensures.cases in
          let absent = sym c.contains.ensures ∙ w.if-contains.false in
          let unseen = ap (λ (n : NameValue). list_any (λ k. bytes_eq n.text k.name.text) ks) clone.1 ∙ absent in
          let same : component_name_tree copy ≡ component_name_tree x = (λ i. record { extension = origin_tree (clone.0 i); it = name_tree (clone.1 i) }) in
          let added = ap (map component_name_tree) (w.in_ok-insert.ensures.keys ∙ ap (λ b. cond b ks (ks ++ copy ∷ [])) unseen) ∙ map-append component_name_tree ks (copy ∷ []) ∙ ap (λ t. map component_name_tree ks ++ t ∷ []) same in
          let step = names_new given_name note component_name_tree ks (component_name_tree x) (map component_name_tree w.insert.new.self.keys) faults absent added in
          record {
            kept = ap (λ (k : _). map component_name_tree k.keys) w.kept-is ∙ names_on given_name note before (component_name_tree x) _ front _ _ _ _ so_far.kept step;
            told = ap faults_of w.faults-is ∙ names_told_on given_name note before (component_name_tree x) _ front _ _ _ _ _ so_far.kept so_far.told step;
          }
    ]

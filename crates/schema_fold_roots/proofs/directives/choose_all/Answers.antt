use Rattle.std.proofs.Common.{◌<◌, ◌+◌, [], ◌∷◌, None, Some, map, take, length, sym, ◌∙◌, arith, subst}
use Rattle.std.proofs.lemmas.List.{append-nil}
use Rattle.schema_fold.specs.NumberedDefinition.{directives_in, definitions_of}
use Rattle.schema_fold.specs.ListedView.{listed_view}
use Rattle.schema_fold_roots.specs.DirectiveFold.{Chooses}
use Rattle.schema_fold_roots.specs.DirectivesView.{directive_view, entries_view}
use Rattle.schema_fold_roots.proofs.Choosing.{directives_more, chooses_none, chooses_then}
use Rattle.schema_fold_roots.proofs.directives.choose_all.Goals as goal
use Rattle.schema_fold_roots.proofs.directives.choose_all.Goals.{in-Some+in_ok-choose, in_default}

pub loop-listed-init : goal.loop-listed-init
loop-listed-init c = chooses_none (entries_view c.args.own.now) (entries_view c.args.chosen.now)

pub loop-listed-preserved : goal.loop-listed-preserved
loop-listed-preserved c =
    let xs = c.args.list.now in
    let i = c.loop-listed.listed-index in
    let x = c.listed-item.result in
    let h : i < length xs = omega arith in
    let own = entries_view c.args.own.now in
    let start = entries_view c.args.chosen.now in
    let so_far = entries_view c.loop-listed.chosen in
    let before = directives_in (definitions_of (map listed_view (take i xs))) in
    elim c.match-directive_definition.branch [
      | in-Some+in_ok-choose w ↦
          let d = directive_view w.in-Some.node.now in
          let front = directives_more xs i x (Some d) h c.listed-item.is w.in-Some.ensures in
          let step = chooses_then own start so_far (entries_view w.choose.new.chosen) before (d ∷ []) c.loop-listed.invariant w.in_ok-choose.ensures in
          subst (λ m. Chooses own (directives_in (definitions_of (map listed_view (take (i + 1) xs)))) start (entries_view m)) (sym w.chosen-is) (subst (λ ds. Chooses own ds start (entries_view w.choose.new.chosen)) (sym front) step)
      | in_default w ↦
          let front = directives_more xs i x None h c.listed-item.is w.in_default.ensures ∙ append-nil before in
          subst (λ m. Chooses own (directives_in (definitions_of (map listed_view (take (i + 1) xs)))) start (entries_view m)) (sym w.chosen-is) (subst (λ ds. Chooses own ds start so_far) (sym front) c.loop-listed.invariant)
    ]

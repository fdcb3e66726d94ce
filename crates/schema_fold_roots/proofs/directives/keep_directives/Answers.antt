use Rattle.std.proofs.Common.{◌<◌, ◌++◌, None, Some, map, take, length, sym, ap, ◌∙◌, arith}
use Rattle.std.proofs.lemmas.List.{append-nil}
use Rattle.schema_fold.specs.Components.{keyed_firsts}
use Rattle.schema_fold.specs.FaultView.{faults_of}
use Rattle.schema_fold.specs.NumberedDefinition.{directive_name, directives_in, definitions_of}
use Rattle.schema_fold.specs.ListedView.{listed_view}
use Rattle.schema_fold.proofs.Keeping.{told_more}
use Rattle.schema_fold_roots.specs.DirectiveFold.{directive_fault, directive_faults}
use Rattle.schema_fold_roots.specs.DirectivesView.{directive_view, entries_view}
use Rattle.schema_fold_roots.proofs.Choosing.{directives_more}
use Rattle.schema_fold_roots.proofs.directives.keep_directives.Goals as goal
use Rattle.schema_fold_roots.proofs.directives.keep_directives.Goals.{in-Some+in_ok-keep_directive, in_default}

pub loop-listed-preserved : goal.loop-listed-preserved
loop-listed-preserved c =
    let xs = c.args.list.now in
    let i = c.loop-listed.listed-index in
    let x = c.listed-item.result in
    let h : i < length xs = omega arith in
    let start = faults_of c.args.faults.now in
    let before = directives_in (definitions_of (map listed_view (take i xs))) in
    elim c.match-directive_definition.branch [
      | in-Some+in_ok-keep_directive w ↦
          let d = directive_view w.in-Some.node.now in
          let front = directives_more xs i x (Some d) h c.listed-item.is w.in-Some.ensures in
          let step = w.in_ok-keep_directive.ensures before c.loop-listed.invariant.kept in
          record {
            kept = ap entries_view w.kept-is ∙ step.0 ∙ ap (keyed_firsts directive_name) (sym front);
            told = ap faults_of w.faults-is ∙ told_more directive_name directive_fault before d start (faults_of c.loop-listed.faults) (faults_of w.keep_directive.new.faults) c.loop-listed.invariant.told step.1
                ∙ ap (λ ds. start ++ directive_faults ds) (sym front);
          }
      | in_default w ↦
          let front = directives_more xs i x None h c.listed-item.is w.in_default.ensures ∙ append-nil before in
          record {
            kept = ap entries_view w.kept-is ∙ c.loop-listed.invariant.kept ∙ ap (keyed_firsts directive_name) (sym front);
            told = ap faults_of w.faults-is ∙ c.loop-listed.invariant.told ∙ ap (λ ds. start ++ directive_faults ds) (sym front);
          }
    ]

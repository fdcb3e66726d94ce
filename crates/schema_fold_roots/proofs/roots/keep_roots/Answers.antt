use Rattle.std.proofs.Common.{◌<◌, ◌∷◌, [], ◌++◌, take, length, sym, ap, ◌∙◌, arith}
use Rattle.std.proofs.lemmas.List.{map_more}
use Rattle.schema_fold.specs.in_definitions.DefinitionTree.{root_tree}
use Rattle.schema_components.specs.Given.{component_tree}
use Rattle.schema_fold.specs.FaultView.{faults_of}
use Rattle.schema_fold.specs.SchemaFold.{root_key}
use Rattle.schema_fold.proofs.Keeping.{told_more}
use Rattle.schema_fold_roots.specs.ListFold.{root_fault, root_faults}
use Rattle.schema_fold_roots.specs.RootFold.{first_roots}
use Rattle.schema_fold_roots.specs.RootsView.{roots_given_by}
use Rattle.schema_fold_roots.proofs.roots.keep_roots.Goals as goal

pub loop-root-preserved : goal.loop-root-preserved
loop-root-preserved c =
    let xs = c.args.all.now in
    let i = c.loop-root.root-index in
    let x = c.root-item.result in
    let h : i < length xs = omega arith in
    let before = roots_given_by (take i xs) in
    let front = map_more (component_tree root_tree) xs i x h ∙ ap (λ y. before ++ component_tree root_tree y ∷ []) (sym c.root-item.is) in
    let step = c.in_ok-keep_root.ensures before c.loop-root.invariant.kept in
    record {
      kept = step.0 ∙ ap first_roots (sym front);
      told = told_more root_key root_fault before (component_tree root_tree x) (faults_of c.args.faults.now) (faults_of c.loop-root.faults) (faults_of c.keep_root.new.faults) c.loop-root.invariant.told step.1
          ∙ ap (λ gs. faults_of c.args.faults.now ++ root_faults gs) (sym front);
    }

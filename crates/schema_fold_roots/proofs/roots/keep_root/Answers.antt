use Rattle.std.proofs.Common.{◌++◌, [], ◌∷◌, is_some, sym, ap, ◌∙◌}
use Rattle.std.proofs.lemmas.Result.{IfOk-weaker}
use Rattle.graphql_names.specs.Placed.{name_tree}
use Rattle.schema_fold.specs.in_definitions.DefinitionTree.{root_tree}
use Rattle.schema_components.specs.Given.{component_tree, origin_tree}
use Rattle.schema_fold.specs.BuildErrors.{DuplicateRootOperation}
use Rattle.schema_fold.specs.FaultView.{faults_of}
use Rattle.schema_fold_roots.specs.RootFold.{root_for, with_root}
use Rattle.schema_fold_roots.specs.RootsView.{root_names}
use Rattle.schema_fold_roots.proofs.KeepingRoots.{keeps_seen, keeps_new}
use Rattle.schema_fold_roots.proofs.roots.keep_root.Goals as goal

pub returns-then-has : goal.returns-then-has
returns-then-has c =
    let kept = root_names c.args.kept.now in
    let faults = faults_of c.args.faults.now in
    let operation_is = ap (λ r. r.0) c.content.ensures in
    let there = ap (λ o. is_some (root_for o kept)) (sym operation_is) ∙ sym c.has.ensures ∙ c.if-has.true in
    IfOk-weaker _ _ _ (λ _ h. keeps_seen (component_tree root_tree c.args.root.now) kept faults (faults_of c.duplicate_root_operation.new.faults) there
    (h ∙ (λ i. faults ++ record { place = c.location.ensures i; breach = DuplicateRootOperation (operation_is i) } ∷ []))) c.duplicate_root_operation.ensures

pub returns : goal.returns
returns c =
    let kept = root_names c.args.kept.now in
    let operation_is = ap (λ r. r.0) c.content.ensures in
    let name_is = c.new.ensures.name ∙ c.in_ok-name.ensures.same ∙ ap (λ r. r.1) c.content.ensures in
    let absent = ap (λ o. is_some (root_for o kept)) (sym operation_is) ∙ sym c.has.ensures ∙ c.if-has.false in
    keeps_new (component_tree root_tree c.args.root.now) kept (faults_of c.args.faults.now) (root_names c.set.new.self) absent
    (c.set.ensures ∙ (λ i. with_root (operation_is i) (record { extension = origin_tree (c.new.ensures.origin i); it = name_tree (name_is i) }) kept))

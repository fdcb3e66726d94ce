use Rattle.std.proofs.Common.{◌≡◌, ◌∙◌, Some, sym, ap, subst, arith}
use Rattle.std.proofs.lemmas.Option.{slice_get-get_or}
use Rattle.fault_data.specs.FaultView.{faults_of}
use Rattle.rule_cycles.specs.Telling.{TellsRoots}
use Rattle.rule_cycles.proofs.Telling.{TellsRoots-none, TellsRoots-more, TellsRoot-found}
use Rattle.rule_reach.specs.NotedNames.{noted_names}
use Rattle.rule_fragments.specs.SpreadViews.{fragment_entries, lent_at}
use Rattle.rule_fragments.specs.CycleFaults.{used_at, TellsRecursive, TellsDeep}
use Rattle.rule_fragments.proofs.CyclesTold.{found_same}
use Rattle.rule_fragments.proofs.cycles.tell_cycles.Goals as goal

pub loop-root-init : goal.loop-root-init
loop-root-init c =
    let r = c.args.references.now in
    let o = used_at (fragment_entries c.args.fragments.now) (noted_names c.args.used.now) in
    TellsRoots-none (TellsRecursive r o) (TellsDeep r o) r.graph (faults_of c.args.faults.now)

pub loop-root-preserved : goal.loop-root-preserved
loop-root-preserved c =
    let r = c.args.references.now in
    let root = c.loop-root.root in
    let o = used_at (fragment_entries c.args.fragments.now) (noted_names c.args.used.now) in
    let found = c.index-all-root.result in
    let there = slice_get-get_or c.args.all.now root found (omega arith) ∙ ap (λ x. Some x) (sym c.index-all-root.is) in
    let finds = c.requires.each root found there in
    let added = c.in_ok-tell_found.ensures in
    let told = found_same r (lent_at c.used_fragment-fragment.result) o root found added.0 c.used_fragment-fragment.ensures added.1.0 in
    TellsRoots-more (TellsRecursive r o) (TellsDeep r o) r.graph root (faults_of c.args.faults.now) (faults_of c.loop-root.faults) (faults_of c.tell_found.new.faults) c.loop-root.invariant
    (TellsRoot-found (TellsRecursive r o) (TellsDeep r o) r.graph root found added.0 (faults_of c.loop-root.faults) (faults_of c.tell_found.new.faults) finds told added.1.1)

pub returns : goal.returns
returns c =
    let r = c.args.references.now in
    let names = noted_names c.args.used.now in
    let m = c.args.fragments.now in
    let whole : c.loop-root.root ≡ r.graph.roots = omega (arith, c.requires.long) in
    subst (λ n. TellsRoots (TellsRecursive r (used_at (fragment_entries m) names)) (TellsDeep r (used_at (fragment_entries m) names)) r.graph n (faults_of c.args.faults.now) (faults_of c.loop-root.faults)) whole c.loop-root.invariant

use Rattle.std.proofs.Common.{◌≡◌, ◌∙◌, sym, subst}
use Rattle.std.proofs.lemmas.Result.{on_ok_weaker}
use Rattle.fault_data.specs.FaultView.{faults_of}
use Rattle.rule_reach.specs.NotedNames.{noted_names}
use Rattle.rule_fragments.specs.SpreadViews.{fragment_entries}
use Rattle.rule_fragments.specs.SpreadGraph.{AreSpreadReferences}
use Rattle.rule_fragments.specs.CycleFaults.{TellsSpreads}
use Rattle.rule_fragments.proofs.Named.{at_once}
use Rattle.rule_fragments.proofs.CyclesTold.{cycles_told}
use Rattle.rule_fragments.proofs.cycles.check_cycles.Goals as goal

pub returns : goal.returns
returns c =
    let r = c.in_ok-references.references in
    let m = c.args.fragments.now in
    let names = noted_names c.args.used.now in
    let old = faults_of c.args.faults.now in
    let new = faults_of c.tell_cycles.new.faults in
    on_ok_weaker c.tell_cycles.result
    (λ (told : TellsSpreads r (fragment_entries m) names old new) d is own used.
    let same : d.fragments ≡ fragment_entries m = is ∙ at_once m in
    cycles_told d own names used r (subst (λ es. AreSpreadReferences es r) (sym same) c.in_ok-references.ensures) old new (subst (λ es. TellsSpreads r es names old new) (sym same) told))
    c.tell_cycles.ensures

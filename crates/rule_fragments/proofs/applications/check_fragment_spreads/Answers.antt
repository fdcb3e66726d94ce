use Rattle.std.proofs.Common.{◌≡◌, ◌<◌, [], Option, map, length, sym, ap, ◌∙◌, arith}
use Rattle.std.specs.List.{flat_map}
use Rattle.std.specs.Option.{option_map, option_map_or}
use Rattle.rule_cycles.specs.in_schema.SchemaOf.{schema_tree}
use Rattle.fault_data.specs.FaultView.{faults_of}
use Rattle.rule_definitions.specs.Room.{◌⊕◌}
use Rattle.rule_reach.specs.Reach.{member_of, meant_fragments}
use Rattle.rule_fragments.specs.Applied.{ApplicationTree, application_tree, application_fault, invalid_fragment_spread}
use Rattle.rule_fragments.proofs.Telling.{told_more, told_all}
use Rattle.rule_fragments.proofs.applications.check_fragment_spreads.Goals.{in-Some+in_ok-invalid_fragment_spread, in_default}
use Rattle.rule_fragments.proofs.applications.check_fragment_spreads.Goals as goal

pub loop-parent-preserved : goal.loop-parent-preserved
loop-parent-preserved c =
    let tells = invalid_fragment_spread (schema_tree c.args.schema.now) c.args.possible.now (meant_fragments c.args.fragments.now) in
    let xs = c.deref-parent-items.result.now in
    let i = c.loop-parent.parent-index in
    let h : i < length xs = omega arith in
    let parent = (member_of c.loop-parent-item.result).0 in
    let so_far = faults_of c.loop-parent.faults in
    let told = λ (o : Option ApplicationTree). so_far ⊕ option_map_or (application_fault (schema_tree c.args.schema.now) c.args.possible.now parent) o [] in
    let step : faults_of c.match-application_of.faults ≡ so_far ⊕ tells (member_of c.loop-parent-item.result) =
    elim c.match-application_of.branch [
      | in-Some+in_ok-invalid_fragment_spread w ↦ ap faults_of w.faults-is ∙ w.in_ok-invalid_fragment_spread.ensures.told
          ∙ (λ k. so_far ⊕ application_fault (schema_tree c.args.schema.now) (c.loop-parent.invariant.1 k) parent (application_tree w.in-Some.application)) ∙ ap told (ap (option_map application_tree) (sym w.in-Some.is) ∙ c.application_of.ensures)
      | in_default w ↦ ap faults_of w.faults-is ∙ ap told (ap (option_map application_tree) (sym w.in_default.is) ∙ c.application_of.ensures)
    ] in
    let same : c.match-application_of.possible ≡ c.args.possible.now = elim c.match-application_of.branch [
      | in-Some+in_ok-invalid_fragment_spread w ↦ w.possible-is ∙ w.invalid_fragment_spread.ensures.same ∙ c.loop-parent.invariant.1
      | in_default w ↦ w.possible-is ∙ c.loop-parent.invariant.1
    ] in (
      told_more member_of tells (faults_of c.args.faults.now) so_far (faults_of c.match-application_of.faults) xs i c.loop-parent-item.result h c.loop-parent-item.is c.loop-parent.invariant.0 step,
      same,
    )

pub returns-clause-told : goal.returns-clause-told
returns-clause-told c =
    let tells = invalid_fragment_spread (schema_tree c.args.schema.now) c.args.possible.now (meant_fragments c.args.fragments.now) in
    told_all member_of tells (faults_of c.args.faults.now) (faults_of c.loop-parent.faults) c.deref-parent-items.result.now c.loop-parent.parent-index c.loop-parent-test.false c.loop-parent.invariant.0
    ∙ ap (λ l. faults_of c.args.faults.now ⊕ flat_map tells (map member_of l)) c.deref-parent-items.ensures.value

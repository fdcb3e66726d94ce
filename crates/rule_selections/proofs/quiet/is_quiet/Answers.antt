use Rattle.std.proofs.Common.{◌==◌, ◌∙◌, map, sym, ap}
use Rattle.fault_data.specs.FaultView.{fault_of, faults_of}
use Rattle.rule_definitions.proofs.Listing.{empty_is}
use Rattle.rule_selections.specs.Settled.{AppliesIn, IsNoted}
use Rattle.rule_selections.specs.Telling.{terms_of, member_there}
use Rattle.rule_selections.proofs.Members.{enters_by}
use Rattle.rule_selections.proofs.Thinning.{nothing_breaks}
use Rattle.rule_selections.proofs.quiet.is_quiet.Goals as goal

pub returns : goal.returns
returns c = λ empty.
    let s = terms_of c.args.common.now in
    let all = c.check_selection.new.faults in
    let e = member_there c.args.ty.now c.args.selection.now in
    record {
      enters = enters_by (IsNoted c.args.common.now.applying.now) (AppliesIn s.schema) c.requires e (c.enters_well.ensures c.if-not-enters_well.false);
      keeps = λ typed f. nothing_breaks (faults_of c.new-faults.result) (faults_of c.check_selection.new.faults) (c.in_ok-check_selection.ensures typed)
          (ap (map fault_of) (empty_is all.items (ap (λ n. n == 0) (sym all.ok.0) ∙ sym c.is_empty.ensures ∙ empty))) f;
    }

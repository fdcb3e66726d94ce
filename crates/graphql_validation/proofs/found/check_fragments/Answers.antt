use Rattle.std.proofs.Common.{◌∙◌, refl, sym, subst, true≢false}
use Rattle.fault_data.specs.FaultView.{faults_of}
use Rattle.rule_fragments.specs.FragmentCycles.{TellsFragmentCycles}
use Rattle.rule_fragments.specs.in_typed_operations.DocumentView.{document_meant}
use Rattle.graphql_validation.proofs.found.check_fragments.Goals as goal

-- where the list is full, nothing is added
pub returns-then-is_full : goal.returns-then-is_full
returns-then-is_full c = (λ full. refl, λ some own used. absurd (some (c.is_full.ensures.0 c.if-is_full.true)))

pub returns : goal.returns
returns c = (
  λ full. absurd (true≢false (sym (c.is_full.ensures.1 full) ∙ c.if-is_full.false)),
  λ some own used.
      let d = document_meant c.args.document.now in
      let unused = c.in_ok-check_unused.ensures d refl own used in
      (unused.0, (unused.1.1, subst (λ l. TellsFragmentCycles d l (faults_of c.check_cycles.new.faults)) unused.1.0 (c.in_ok-check_cycles.ensures d refl own used))),
)

use Rattle.verdict_laws.proofs.Permuting.{permuted_rearranged, rearranged_permuted, equivalence}
use Rattle.verdict_laws.proofs.rearranging.permuted_lists_are_rearranged.Goals as goal

pub returns-clause-rearranged : goal.returns-clause-rearranged
returns-clause-rearranged c = permuted_rearranged

pub returns-clause-permuted : goal.returns-clause-permuted
returns-clause-permuted c = rearranged_permuted

pub returns-clause-equivalence : goal.returns-clause-equivalence
returns-clause-equivalence c = equivalence

use Rattle.verdict_laws.proofs.WrittenSorts.{writes_rearranged, writes_permuted}
use Rattle.verdict_laws.proofs.rearranging.rearranged_lists_write_alike.Goals as goal

pub returns-clause-rearranged : goal.returns-clause-rearranged
returns-clause-rearranged c = writes_rearranged

pub returns-clause-permuted : goal.returns-clause-permuted
returns-clause-permuted c = writes_permuted

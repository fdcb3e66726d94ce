use Rattle.verdict_laws.proofs.Depth.{out_fits}
use Rattle.verdict_laws.proofs.written_again.nests_no_deeper.Goals as goal

pub returns : goal.returns
returns c bound some built_in first texts table own rules deep = out_fits bound some built_in first texts table own rules deep

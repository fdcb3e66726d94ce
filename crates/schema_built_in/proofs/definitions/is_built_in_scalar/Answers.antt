use Rattle.std.proofs.Common.{◌∙◌}
use Rattle.schema_built_in.proofs.Scalars.{scalar_is_built_in}
use Rattle.schema_built_in.proofs.definitions.is_built_in_scalar.Goals as goal

pub returns : goal.returns
returns c = c.has_scalar.ensures ∙ scalar_is_built_in c.args.name.now

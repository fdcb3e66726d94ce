-- The rows of the table say what is built in.
use Rattle.schema_built_in.specs.Table.{built_in_definitions}
use Rattle.schema_built_in.proofs.definitions.built_in_definitions.Goals as goal

pub returns : goal.returns
unfolding built_in_definitions
returns c = c.definitions_of.ensures

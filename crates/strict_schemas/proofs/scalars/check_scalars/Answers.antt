use Rattle.std.proofs.Common.{map, subst}
use Rattle.std.proofs.lemmas.Result.{on_ok_weaker}
use Rattle.graphql_schema.specs.SchemaOf.{schema_tree}
use Rattle.graphql_schema.specs.declared.schema.Schema.{Schema}
use Rattle.fault_data.specs.Adds.{Adds}
use Rattle.strict_schemas.specs.FaultsIn.{ScalarsIn}
use Rattle.strict_schemas.specs.Told.{type_entry}
use Rattle.strict_schemas.proofs.scalars.check_scalars.Goals as goal

pub returns : goal.returns
returns c =
    on_ok_weaker c.check_types.result
    (subst (λ (x : Schema). Adds c.args.faults.now c.check_types.new.faults (ScalarsIn (schema_tree c.args.schema.now) (map type_entry x.types.entries))) c.schema.ensures)
    c.check_types.ensures

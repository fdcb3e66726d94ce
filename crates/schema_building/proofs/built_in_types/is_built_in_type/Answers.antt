use Rattle.std.proofs.Common.{sym, ap, ◌∙◌}
use Rattle.schema_components.specs.Lists.{is_among}
use Rattle.schema_built_in.specs.Table.{built_in_definitions}
use Rattle.schema_building.proofs.Awaited.{some_named}
use Rattle.schema_building.proofs.Schemas.{built_in_names}
use Rattle.schema_building.proofs.built_in_types.is_built_in_type.Goals as goal

pub returns : goal.returns
returns c = c.is_among.ensures ∙ ap (is_among c.args.name.now) (sym built_in_names) ∙ sym (some_named c.args.name.now built_in_definitions)

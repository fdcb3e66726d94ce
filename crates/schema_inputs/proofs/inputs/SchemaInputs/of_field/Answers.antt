use Rattle.std.proofs.Common.{IfSome, Some}
use Rattle.schema_types.specs.TypeView.{extended_type}
use Rattle.schema_inputs.proofs.Lookups.{type_known, of_found_type}
use Rattle.schema_inputs.proofs.inputs.SchemaInputs.of_field.Goals as goal

pub of_field-requires : goal.of_field-requires
of_field-requires c =
    type_known c.args.parent.now c.args.types.now c.args.self.now.types.items c.in-Some.index c.in-Some.field-0-1.now c.in-Some.ty.now c.requires c.in-Some.ensures.entry c.deref.result.now c.deref.ensures.value (Some c.in-Some-type_at.known) c.in-Some-type_at.ensures

pub returns-in-Some-type_at : goal.returns-in-Some-type_at
returns-in-Some-type_at c = of_found_type c.args.parent.now c.args.types.now c.in-Some.ty.now c.in-Some.ensures.value c.args.name.now.text c.of_field.result c.of_field.ensures

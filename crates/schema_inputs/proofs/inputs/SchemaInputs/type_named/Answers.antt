use Rattle.std.proofs.Common.{sym, ap, subst, ◌∙◌, Some}
use Rattle.schema_components.specs.Names.{entries_of}
use Rattle.schema_types.specs.TypeView.{extended_type, name_text}
use Rattle.schema_inputs.proofs.Lookups.{found_under, absent_under, type_known}
use Rattle.schema_inputs.proofs.inputs.SchemaInputs.type_named.Goals as goal

pub found-requires : goal.found-requires
found-requires c =
    type_known c.args.name.now c.args.types.now c.args.self.now.types.items c.in-Some.index c.in-Some.field-0-1.now c.in-Some.ty.now c.requires c.in-Some.ensures.entry c.deref.result.now c.deref.ensures.value c.type_at.result c.type_at.ensures

pub returns-in-None : goal.returns-in-None
returns-in-None c = absent_under extended_type c.args.name.now c.args.types.now c.in-None.ensures.value

pub returns-in-Some : goal.returns-in-Some
returns-in-Some c = ap (λ t. Some (extended_type t)) c.found.ensures ∙ sym (found_under extended_type c.args.name.now c.args.types.now c.in-Some.ty.now c.in-Some.ensures.value)

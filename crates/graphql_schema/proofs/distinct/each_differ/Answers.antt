use Rattle.graphql_names.specs.NameValue.{NameValue}
use Rattle.schema_building.specs.in_schema_types.TypeView.{extended_type}
use Rattle.schema_building.specs.in_schema_types.declared.extended_type.ExtendedType.{ExtendedType}
use Rattle.schema_building.specs.in_schema_types.Distinct.{ArePartsDistinct}
use Rattle.graphql_schema.proofs.DistinctFacts.{each_push}
use Rattle.graphql_schema.proofs.distinct.each_differ.Goals as goal

pub loop-ty-preserved : goal.loop-ty-preserved
loop-ty-preserved c =
    each_push (λ x. (x.0.now, x.1.now)) (λ (e : NameValue × ExtendedType). ArePartsDistinct (extended_type e.1)) c.loop-ty.yielded (c.in-Some.field-0-0, c.in-Some.ty)
    c.loop-ty.invariant c.parts_differ.ensures

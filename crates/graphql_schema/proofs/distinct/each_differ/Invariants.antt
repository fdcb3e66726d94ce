use Rattle.std.proofs.Common.{map, Contains}
use Rattle.graphql_names.specs.NameValue.{NameValue}
use Rattle.schema_building.specs.in_schema_types.TypeView.{extended_type}
use Rattle.schema_building.specs.in_schema_types.declared.extended_type.ExtendedType.{ExtendedType}
use Rattle.schema_building.specs.in_schema_types.Distinct.{ArePartsDistinct}
use Rattle.graphql_schema.proofs.distinct.each_differ.Given as goal

abbrev pub invariant-loop-ty : goal.invariant-loop-ty
invariant-loop-ty l = (e : NameValue × ExtendedType) → Contains (map (λ x. (x.0.now, x.1.now)) l.yielded) e → ArePartsDistinct (extended_type e.1)

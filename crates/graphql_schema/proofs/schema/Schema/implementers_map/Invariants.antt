use Rattle.std.proofs.Common.{◌≡◌, map}
use Rattle.std.specs.List.{flat_map}
use Rattle.graphql_names.specs.NameValue.{NameValue}
use Rattle.schema_building.specs.in_schema_types.TypeView.{name_text, extended_type}
use Rattle.schema_building.specs.in_schema_types.declared.extended_type.ExtendedType.{ExtendedType}
use Rattle.graphql_schema.specs.Noting.{noted_in, namings_of}
use Rattle.graphql_schema.specs.ImplementersView.{implementers_at}
use Rattle.graphql_schema.proofs.schema.Schema.implementers_map.Given as goal

abbrev pub invariant-loop-name : goal.invariant-loop-name
invariant-loop-name l = (i : NameValue) → implementers_at l.noted i ≡ noted_in (flat_map namings_of (map (λ (e : NameValue × ExtendedType). (name_text e.0, extended_type e.1)) (map (λ e. (e.0.now, e.1.now)) l.yielded))) i.text

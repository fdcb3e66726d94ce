use Rattle.std.proofs.Common.{◌≡◌, ℕ, List, map, length}
use Rattle.graphql_names.specs.NameValue.{NameValue}
use Rattle.graphql_names.specs.Placed.{Place}
use Rattle.schema_types.specs.declared.extended_type.ExtendedType.{ExtendedType}
use Rattle.schema_types.specs.SchemaTree.{SchemaType}
use Rattle.schema_types.specs.TypeView.{name_text, extended_type}
use Rattle.schema_inputs.specs.Inputs.{AreEach, IsKnownType}
use Rattle.schema_inputs.proofs.known.known_types.Given as goal

abbrev pub invariant-loop-ty : goal.invariant-loop-ty
invariant-loop-ty l = record {
  each : AreEach (λ (e : List ℕ × SchemaType Place) kept. IsKnownType e.1 kept) (map (λ (e : NameValue × ExtendedType). (name_text e.0, extended_type e.1)) (map (λ e. (e.0.now, e.1.now)) l.yielded)) l.known.items;
  long : length l.known.items ≡ length l.yielded;
}

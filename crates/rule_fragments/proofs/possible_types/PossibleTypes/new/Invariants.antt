use Rattle.std.proofs.Common.{[], map}
use Rattle.std.specs.List.{flat_map}
use Rattle.graphql_names.specs.NameValue.{NameValue}
use Rattle.schema_types.specs.TypeView.{name_text, extended_type}
use Rattle.schema_types.specs.declared.extended_type.ExtendedType.{ExtendedType}
use Rattle.rule_cycles.specs.in_schema.SchemaOf.{schema_tree}
use Rattle.rule_fragments.specs.Held.{AddsEntries}
use Rattle.rule_fragments.specs.Noting.{type_notes}
use Rattle.rule_fragments.proofs.possible_types.PossibleTypes.new.Given as goal

abbrev pub invariant-loop-name : goal.invariant-loop-name
invariant-loop-name l = AddsEntries [] l.objects.entries (flat_map (type_notes (schema_tree l.schema)) (map (λ (e : NameValue × ExtendedType). (name_text e.0, extended_type e.1)) (map (λ e. (e.0.now, e.1.now)) l.yielded)))

use Rattle.std.proofs.Common.{◌≡◌, map}
use Rattle.std.specs.Prelude.{fold}
use Rattle.graphql_names.specs.NameValue.{NameValue}
use Rattle.schema_types.specs.declared.extended_type.ExtendedType.{ExtendedType}
use Rattle.schema_types.specs.SchemaView.{types_view}
use Rattle.schema_types.specs.TypeView.{name_text, extended_type}
use Rattle.rule_cycles.specs.in_schema.SchemaOf.{schema_tree}
use Rattle.graphql_rules.specs.Putting.{and_kept}
use Rattle.graphql_rules.proofs.kept.keep_types.Given as goal

abbrev pub invariant-loop-name : goal.invariant-loop-name
invariant-loop-name l = types_view l.kept ≡ fold (and_kept (schema_tree l.schema)) (types_view l.fn.kept) (map (λ (e : NameValue × ExtendedType). (name_text e.0, extended_type e.1)) (map (λ e. (e.0.now, e.1.now)) l.yielded))

use Rattle.std.proofs.Common.{◌≡◌, drop, map}
use Rattle.std.specs.List.{list_any}
use Rattle.schema_types.specs.TypeView.{extended_type}
use Rattle.rule_definitions.specs.Kept.{is_inside_type}
use Rattle.graphql_rules.proofs.references.is_inside_types.Given as goal

abbrev pub invariant-loop-ty : goal.invariant-loop-ty
invariant-loop-ty l = list_any (is_inside_type l.name) (map extended_type l.types) ≡ list_any (is_inside_type l.name) (map extended_type (drop l.ty-index l.types))

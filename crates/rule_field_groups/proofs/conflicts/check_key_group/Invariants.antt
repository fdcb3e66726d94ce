use Rattle.std.proofs.Common.{◌≤◌, ◌+◌, map, take, drop}
use Rattle.std.specs.List.{sum}
use Rattle.rule_field_sets.specs.in_schema.SchemaOf.{schema_tree}
use Rattle.rule_selection_queries.specs.in_definitions.Judged.{judged}
use Rattle.rule_field_groups.specs.Members.{fields_of}
use Rattle.rule_field_groups.specs.Compared.{compared}
use Rattle.rule_field_groups.specs.KeyGroups.{compared_in}
use Rattle.rule_field_groups.specs.Passes.{AddsEach}
use Rattle.rule_field_groups.proofs.Telling.{with_first}
use Rattle.rule_field_groups.proofs.conflicts.check_key_group.Given as goal

abbrev pub invariant-loop-own : goal.invariant-loop-own
invariant-loop-own l = record {
  told : AddsEach l.fn.pass (judged (schema_tree l.schema)) (with_first l.fn.pass (judged (schema_tree l.schema)) (fields_of l.group.shared.items) (map (λ o. fields_of o.items) (take l.own-index l.own-items))) l.fn.breaches l.breaches;
  more : l.fn.comparisons ≤ l.comparisons;
  counted : l.comparisons + sum (map (λ o. compared l.fn.pass o.items) (drop l.own-index l.own-items)) ≤ l.fn.comparisons + compared_in l.fn.pass l.group;
}

use Rattle.std.proofs.Common.{◌≡◌, ◌≤◌, map, flat_map, length}
use Rattle.std.specs.List.{sum}
use Rattle.rule_field_sets.specs.in_schema.SchemaOf.{schema_tree}
use Rattle.rule_selection_queries.specs.in_definitions.Judged.{judged}
use Rattle.rule_field_groups.specs.Compared.{compared}
use Rattle.rule_field_groups.specs.KeyGroups.{parts_in, lists_in_group, compared_in}
use Rattle.rule_field_groups.proofs.Sharing.{ArePartsOfEach, ArePartsOfOne}
use Rattle.rule_field_groups.proofs.groups.groups_of.Given as goal

abbrev pub invariant-loop-fields : goal.invariant-loop-fields
invariant-loop-fields l = record {
  parts : ArePartsOfEach l.pass (judged (schema_tree l.schema)) (map (λ v. v.items) l.yielded) (parts_in l.groups.items);
  counted : sum (map (compared_in l.pass) l.groups.items) ≤ sum (map (compared l.pass) (map (λ v. v.items) l.yielded));
  ordered : ArePartsOfOne (map (λ v. v.items) l.yielded) (flat_map lists_in_group l.groups.items);
  once : sum (map length (flat_map lists_in_group l.groups.items)) ≡ sum (map length (map (λ v. v.items) l.yielded));
}

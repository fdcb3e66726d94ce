use Rattle.std.proofs.Common.{◌≡◌, ◌≤◌, ◌+◌, ◌++◌, List, map, take, drop}
use Rattle.std.specs.List.{sum}
use Rattle.graphql_names.specs.Placed.{Place}
use Rattle.rule_field_groups.specs.in_document_definitions.DocumentFaults.{Broken}
use Rattle.rule_field_groups.specs.in_sets.in_reach.Broken.{brokens_of}
use Rattle.rule_field_groups.specs.Members.{fields_of}
use Rattle.rule_field_groups.specs.Compared.{compared}
use Rattle.rule_field_groups.specs.KeyGroups.{parts_in, compared_in}
use Rattle.rule_field_groups.specs.Under.{Sets, sets_in}
use Rattle.rule_merging.specs.Examined.{GroupsExamined, schema_of, document_of, sets_of}
use Rattle.rule_merging.proofs.examination.Examination.examine_list.Given as goal

abbrev pub invariant-loop-group : goal.invariant-loop-group
invariant-loop-group l = record {
  examined : (added : List (Broken Place)) × ((below : List Sets) × ((brokens_of l.breaches ≡ brokens_of l.fn.breaches ++ added) × ((sets_in (sets_of l.self) l.next ≡ sets_in (sets_of l.self) l.fn.next ++ below)
      × GroupsExamined l.self.pass (schema_of l.self) (document_of l.self) (map fields_of (parts_in (take l.group-index l.group-items))) added below)));
  more : l.fn.comparisons ≤ l.comparisons;
  counted : l.comparisons + sum (map (compared_in l.self.pass) (drop l.group-index l.group-items)) ≤ l.fn.comparisons + compared l.self.pass l.list;
}

use Rattle.std.proofs.Common.{◌≡◌, ℕ, List, filter, take}
use Rattle.rule_field_groups.specs.Grouped.{items_under, count_in, has}
use Rattle.rule_field_groups.specs.KeyGroups.{filed_name}
use Rattle.rule_field_groups.proofs.groups.index_of.Given as goal

abbrev pub invariant-loop-field : goal.invariant-loop-field
invariant-loop-field l = record {
  under : (n : List ℕ) → items_under n l.index ≡ filter (has (filed_name l.filing) n) (take l.field-index l.list);
  counted : count_in l.index ≡ l.field-index;
}

use Rattle.std.proofs.Common.{◌≡◌, ◌++◌, codes, flat_map, take, string_bytes}
use Rattle.report_forms.specs.Objects.{field_member}
use Rattle.report_forms.proofs.json_form.push_members.Given as goal

abbrev pub invariant-loop-field : goal.invariant-loop-field
invariant-loop-field l = string_bytes l.out ≡ string_bytes l.initial.out ++ flat_map (λ field. codes "," ++ field_member field) (take l.field-index l.others)

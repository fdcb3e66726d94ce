use Rattle.std.proofs.Common.{◌≡◌, ◌++◌, codes, flat_map, take, string_bytes}
use Rattle.report_forms.specs.Objects.{related_object}
use Rattle.report_forms.proofs.json_form.push_others.Given as goal

abbrev pub invariant-loop-other : goal.invariant-loop-other
invariant-loop-other l = string_bytes l.out ≡ string_bytes l.initial.out ++ flat_map (λ other. codes "," ++ related_object other) (take l.other-index l.others)

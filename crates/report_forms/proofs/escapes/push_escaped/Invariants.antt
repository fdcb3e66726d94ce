use Rattle.std.proofs.Common.{◌≡◌, ◌++◌, string_bytes}
use Rattle.std.specs.List.{flat_map}
use Rattle.std.specs.Str.{encode_utf8_all}
use Rattle.report_forms.specs.Escapes.{escaped_character}
use Rattle.report_forms.proofs.escapes.push_escaped.Given as goal

abbrev pub invariant-loop-character : goal.invariant-loop-character
invariant-loop-character l = string_bytes l.out ≡ string_bytes l.fn.out ++ l.fn.head ++ encode_utf8_all (flat_map (escaped_character l.in_property) l.yielded)

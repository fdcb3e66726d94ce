use Rattle.std.proofs.Common.{◌≡◌, string_bytes}
use Rattle.std.specs.List.{flat_map}
use Rattle.std.specs.Str.{encode_utf8_all}
use Rattle.report_forms.specs.Shown.{shown_character}
use Rattle.report_forms.proofs.showing.shown.Given as goal

abbrev pub invariant-loop-character : goal.invariant-loop-character
invariant-loop-character l = string_bytes l.shown ≡ encode_utf8_all (flat_map shown_character l.yielded)

use Rattle.std.proofs.Common.{flat_map, string_bytes, sym, ap, ◌∙◌, map-id}
use Rattle.std.proofs.lemmas.Iterator.{YieldsList-from_chars}
use Rattle.std.proofs.lemmas.Iterator.Consumers.{YieldsList-end}
use Rattle.std.proofs.lemmas.Str.{IsUtf8-string_bytes}
use Rattle.std.specs.Str.{encode_utf8_all}
use Rattle.report_forms.specs.Shown.{shown_character}
use Rattle.report_forms.proofs.ShownTexts.{shown_more, shown-clean}
use Rattle.report_forms.proofs.showing.shown.Goals as goal

pub loop-character-preserved : goal.loop-character-preserved
loop-character-preserved c =
    shown_more (string_bytes c.push_shown.new.shown) (string_bytes c.loop-character.shown) c.loop-character.yielded c.in-Some.character c.in_ok-push_shown.ensures c.loop-character.invariant

pub returns-clause-value : goal.returns-clause-value
returns-clause-value c =
    let end = YieldsList-end (YieldsList-from_chars c.args.text.now c.utf8.text cc) c.loop-character.yielded _ c.loop-character.yielded_by _ _ c.in-None.is c.next.ensures.steps in
    c.loop-character.invariant ∙ ap (λ cs. encode_utf8_all (flat_map shown_character cs)) (sym (map-id c.loop-character.yielded) ∙ end.0)

pub returns-clause-clean : goal.returns-clause-clean
returns-clause-clean c = shown-clean (string_bytes c.loop-character.shown) c.loop-character.yielded (IsUtf8-string_bytes c.loop-character.shown) c.loop-character.invariant

use Rattle.std.proofs.Common.{◌++◌, flat_map, string_bytes, sym, ap, ◌∙◌, map-id}
use Rattle.std.proofs.lemmas.Iterator.{YieldsList-from_chars}
use Rattle.std.proofs.lemmas.Iterator.Consumers.{YieldsList-end}
use Rattle.std.specs.Str.{encode_utf8_all}
use Rattle.report_forms.specs.Escapes.{escaped_character}
use Rattle.report_forms.proofs.EscapedTexts.{mapped_more}
use Rattle.report_forms.proofs.escapes.push_escaped.Goals as goal

pub loop-character-preserved : goal.loop-character-preserved
loop-character-preserved c =
    mapped_more (string_bytes c.args.out.now ++ c.args.head.now) (escaped_character c.args.in_property) (string_bytes c.push_escape.new.out) (string_bytes c.loop-character.out) c.loop-character.yielded
    c.in-Some.character c.in_ok-push_escape.ensures c.loop-character.invariant

pub returns : goal.returns
returns c =
    let end = YieldsList-end (YieldsList-from_chars c.args.text.now c.utf8.text cc) c.loop-character.yielded _ c.loop-character.yielded_by _ _ c.in-None.is c.next.ensures.steps in
    c.loop-character.invariant
    ∙ ap (λ cs. string_bytes c.args.out.now ++ c.args.head.now ++ encode_utf8_all (flat_map (escaped_character c.args.in_property) cs)) (sym (map-id c.loop-character.yielded) ∙ end.0)

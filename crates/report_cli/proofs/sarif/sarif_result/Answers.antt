use Rattle.std.proofs.Common.{◌≡◌, string_bytes, rules, sym, ap, ◌∙◌}
use Rattle.std.specs.Prelude.{None, Some}
use Rattle.json.specs.Print.{quoted}
use Rattle.report_cli.specs.Sarif.{level_word, location_of, message_words, related_list, result_text}
use Rattle.report_cli.proofs.SarifTexts.{result_of, result_made}
use Rattle.report_cli.proofs.Texts.{made_as}
use Rattle.report_cli.proofs.sarif.sarif_result.Goals.{in-Error, in-Warning, in-None+in_ok-location-in-None, in-Some+in_ok-location-in-Some}
use Rattle.report_cli.proofs.sarif.sarif_result.Goals as goal

pub returns : goal.returns
returns c =
    let e = c.args.entry.now in
    let rule = string_bytes c.in_ok-rule.rule in
    let level = c.match-entry.level.now in
    let message = string_bytes c.in_ok-message.message in
    let location = string_bytes c.match-entry-2.location in
    let related = string_bytes c.in_ok-related.related in
    let rule_is : rule ≡ quoted e.rule.now = search rules in
    let level_is : level ≡ level_word e.severity = elim c.match-entry.branch [
      | in-Error w ↦ ap (λ t. t.now) w.level-is ∙ ap level_word (sym w.in-Error.is)
      | in-Warning w ↦ ap (λ t. t.now) w.level-is ∙ ap level_word (sym w.in-Warning.is)
    ] in
    let message_is : message ≡ quoted (message_words e) = search rules in
    let location_is : location ≡ location_of (string_bytes e.path) e.place = elim c.match-entry-2.branch [
      | in-None+in_ok-location-in-None w ↦ ap string_bytes w.location-is ∙ w.in_ok-location-in-None.ensures ∙ ap (λ p. location_of p None) w.deref-in-None.ensures ∙ ap (location_of (string_bytes e.path)) (sym w.in-None.is)
      | in-Some+in_ok-location-in-Some w ↦ ap string_bytes w.location-is ∙ w.in_ok-location-in-Some.ensures ∙ ap (λ p. location_of p (Some w.in-Some.place)) w.deref-in-Some.ensures ∙ ap (location_of (string_bytes e.path)) (sym w.in-Some.is)
    ] in
    let related_is : related ≡ related_list e.related.items = search rules in
    made_as c.format.result (result_of rule level message location related) (result_text e)
    (result_made rule level message location related rule_is level_is message_is location_is related_is) c.format.ensures.ok

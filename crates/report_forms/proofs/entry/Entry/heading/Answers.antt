use Rattle.std.proofs.Common.{◌≡◌, ◌++◌, codes, string_bytes, ap, sym, ◌∙◌, rules}
use Rattle.std.specs.Option.{option_map}
use Rattle.report_forms.specs.declared.entry.Place.{Place}
use Rattle.report_forms.specs.Forms.{start_of, position_text, heading}
use Rattle.report_forms.proofs.Texts.{seven, made_as}
use Rattle.report_forms.proofs.entry.Entry.heading.Goals.{in-None, in-Some}
use Rattle.report_forms.proofs.entry.Entry.heading.Goals as goal

pub returns : goal.returns
returns c =
    let e = c.args.self.now in
    let start : c.match-self.start ≡ start_of e = elim c.match-self.branch [
      | in-None w ↦ w.start-is ∙ ap (option_map (λ (p : Place). p.start)) (sym w.in-None.is)
      | in-Some w ↦ w.start-is ∙ ap (option_map (λ (p : Place). p.start)) (sym w.in-Some.is)
    ] in
    let place : string_bytes c.in_ok-place.place ≡ string_bytes e.path ++ position_text c.match-self.start = search rules in
    let word = c.word-severity.result.now in
    made_as c.format.result (string_bytes c.in_ok-place.place ++ (codes ": " ++ (word ++ (codes "[" ++ (e.rule.now ++ (codes "]: " ++ string_bytes e.message)))))) (heading e)
    (seven (string_bytes c.in_ok-place.place) (codes ": ") word (codes "[") e.rule.now (codes "]: ") (string_bytes e.message)
    ∙ ap (λ l. l ++ codes ": " ++ word ++ codes "[" ++ e.rule.now ++ codes "]: " ++ string_bytes e.message) (place ∙ ap (λ s. string_bytes e.path ++ position_text s) start)
    ∙ ap (λ w. string_bytes e.path ++ position_text (start_of e) ++ codes ": " ++ w ++ codes "[" ++ e.rule.now ++ codes "]: " ++ string_bytes e.message) c.word-severity.ensures)
    c.format.ensures.ok

use Rattle.std.proofs.Common.{◌≡◌, ◌++◌, codes, flat_map, string_bytes, ap, ◌∙◌, rules, ◌∷◌, []}
use Rattle.std.specs.Str.Lines.{lines}
use Rattle.report_forms.specs.Colours.{code, coloured_line}
use Rattle.report_forms.specs.Forms.{heading}
use Rattle.report_forms.specs.Shown.{shown_text, HasOnlyLineFeeds}
use Rattle.report_forms.proofs.Clean.{clean-nothing}
use Rattle.report_forms.proofs.Texts.{four}
use Rattle.report_forms.proofs.entry.Entry.coloured.Goals as goal

pub push_below-requires : goal.push_below-requires
push_below-requires c = clean-nothing (string_bytes c.new-below.result) c.new-below.ensures.bytes

pub returns : goal.returns
returns c =
    let e = c.args.self.now in
    let below = string_bytes c.push_below.new.out in
    let shown : string_bytes c.in_ok-heading-2.heading ≡ shown_text (heading e) = search rules in
    let parts = four (code (codes "1")) (string_bytes c.in_ok-heading-2.heading) (code (codes "0")) (10 ∷ []) in
    let first : string_bytes c.in_ok-out.out ≡ code (codes "1") ++ shown_text (heading e) ++ code (codes "0") ++ 10 ∷ [] =
    c.in_ok-out.ensures.ok ∙ parts ∙ ap (λ h. code (codes "1") ++ h ++ code (codes "0") ++ 10 ∷ []) shown in
    let added : string_bytes c.push_coloured.new.out ≡ string_bytes c.in_ok-out.out ++ flat_map (coloured_line e.severity) (lines below) = search rules in
    let clean : HasOnlyLineFeeds below = search rules in
    record { below = below; clean = clean; lines_are = added ∙ ap (λ l. l ++ flat_map (coloured_line e.severity) (lines below)) first }

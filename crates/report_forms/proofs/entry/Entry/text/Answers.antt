use Rattle.std.proofs.Common.{◌≡◌, ◌++◌, string_bytes, sym, subst, rules}
use Rattle.std.proofs.lemmas.Result.{IfOk-weaker}
use Rattle.std.proofs.lemmas.Str.{IsUtf8-string_bytes}
use Rattle.report_forms.specs.Shown.{HasOnlyLineFeeds}
use Rattle.report_forms.proofs.Clean.{clean-nothing, clean-both}
use Rattle.report_forms.proofs.entry.Entry.text.Goals as goal

pub push_below-requires : goal.push_below-requires
push_below-requires c = clean-nothing (string_bytes c.new-below.result) c.new-below.ensures.bytes

pub returns-clause-clean : goal.returns-clause-clean
returns-clause-clean c =
    let heading = c.in_ok-heading.heading in
    let below = string_bytes c.push_below.new.out in
    let clean : HasOnlyLineFeeds below = search rules in
    IfOk-weaker c.format.result (λ made. string_bytes made ≡ string_bytes heading ++ below) (λ made. HasOnlyLineFeeds (string_bytes made))
    (λ made e. subst HasOnlyLineFeeds (sym e) (clean-both (string_bytes heading) below (IsUtf8-string_bytes heading) c.in_ok-heading.ensures.clean clean)) c.format.ensures.ok

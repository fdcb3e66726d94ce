use Rattle.std.proofs.Common.{None, Some, ◌∙◌, ap, sym}
use Rattle.rule_fragments.specs.Held.{possible_in, objects_at, share_one}
use Rattle.rule_fragments.proofs.Seen.{entry_at}
use Rattle.rule_fragments.proofs.Sharing.{shares_none}
use Rattle.rule_fragments.proofs.possible_types.common_at.Goals as goal

pub returns-in-None : goal.returns-in-None
returns-in-None c =
    let es = c.args.objects.now.entries in
    let here = objects_at (possible_in es) c.args.here in
    sym (ap (share_one here) (entry_at es c.args.there None c.in-None.ensures.entry) ∙ shares_none here)

pub returns-in-Some-get_index : goal.returns-in-Some-get_index
returns-in-Some-get_index c =
    let es = c.args.objects.now.entries in
    let here = entry_at es c.args.here (Some (c.in-Some.field-0-0.now, c.in-Some.here.now)) c.in-Some.ensures.entry in
    let there = entry_at es c.args.there (Some (c.in-Some-get_index.field-0-0.now, c.in-Some-get_index.there.now)) c.in-Some-get_index.ensures.entry in
    c.share_one.ensures ∙ (λ k. share_one (sym here k) (sym there k))

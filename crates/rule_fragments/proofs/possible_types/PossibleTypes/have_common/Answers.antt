use Rattle.std.proofs.Common.{◌≡◌, ◌∙◌, subst}
use Rattle.rule_fragments.specs.Held.{possible_in, share_at}
use Rattle.rule_fragments.proofs.Seen.{kept, one_more}
use Rattle.rule_fragments.proofs.possible_types.PossibleTypes.have_common.Goals as goal

pub returns-in-Some-clause-common : goal.returns-in-Some-clause-common
returns-in-Some-clause-common c =
    let p = possible_in c.self.inside.objects.value.entries in
    subst (λ p. c.in-Some.known.now ≡ share_at p c.args.here c.args.there) c.self.view_is
    (kept p c.self.inside.common c.args.here c.args.there c.in-Some.known.now c.self.invariant c.in-Some.ensures.value)

pub invariant_of-self-2 : goal.invariant_of-self-2
invariant_of-self-2 c =
    let p = possible_in c.self.inside.objects.value.entries in
    one_more p c.self.inside.common c.insert.new.self c.args.here c.args.there c.common_at-found.result c.self.invariant c.in_ok-insert.ensures.updates
    (c.common_at-found.ensures ∙ (λ i. share_at (possible_in (c.as_ref.ensures i).entries) c.args.here c.args.there))

use Rattle.std.proofs.Common.{◌-◌, length, take, drop, get_or, refl, subst}
use Rattle.std.proofs.lemmas.Bool.Decides.{Decides-eqb}
use Rattle.std.proofs.lemmas.Slice.Eq.{starts_is}
use Rattle.checker_calls.specs.Parts.{LiesAt}
use Rattle.checker_calls.proofs.InParts.{found}
use Rattle.checker_calls.proofs.parts.Parts.find.Goals as goal

pub returns-in-loop-start : goal.returns-in-loop-start
returns-in-loop-start c =
    let text = c.args.text.now in
    let first = c.saturating_sub-first.result in
    let start = get_or (take (length c.deref.result.now - first) (drop first c.deref.result.now)) c.loop-start.start-index 0 in
    let look = c.in-Some.ensures.lookup in
    let begins = (starts_is Decides-eqb c.in-Some.kept.now text c.starts_with.result c.starts_with.ensures.value).0 c.if-starts_with.true in
    subst (λ kept. LiesAt kept text start) c.deref-in-loop-start.ensures.value
    (found c.deref-in-loop-start.result.now text c.in-Some.kept.now start look.0.0 look.0.2 look.0.3 (c.if-starts_with.ensures.bound refl) begins)

use Rattle.std.proofs.Common.{◌≡◌, ℕ, subst, List, false}
use Rattle.std.specs.Prelude.{Contains}
use Rattle.rule_cycle_search.specs.declared.steps.Step.{Step}
use Rattle.rule_cycle_search.specs.Graph.{listed}
use Rattle.rule_cycle_search.specs.NodeSteps.{is_in, IsIn}
use Rattle.rule_cycle_search.proofs.Parting.{in_center, none_back}
use Rattle.rule_cycle_search.proofs.found.look_back.Goals as goal

pub way_round-requires-clause-root_in : goal.way_round-requires-clause-root_in
way_round-requires-clause-root_in c =
    let a = c.in-Some.ensures.lookup in
    subst (λ (l : List Step). IsIn l c.in-Some.step.now.center c.args.root) c.deref.ensures.value (in_center c.deref.result.now c.args.root c.in-Some.step.now a.3.0 a.1)

pub returns-in-None-2 : goal.returns-in-None-2
returns-in-None-2 c =
    let from = c.args.divided.now.parts.now.from.items in
    let a = c.in-Some.ensures.lookup in
    let inside = subst (λ (l : List Step). IsIn l c.in-Some.step.now.center c.args.root) c.deref.ensures.value (in_center c.deref.result.now c.args.root c.in-Some.step.now a.3.0 a.1) in
    let none : (n : ℕ) → Contains (listed c.args.referrers.now c.args.root) n → is_in from c.in-Some.step.now.center n ≡ false =
    subst (λ l. (n : ℕ) → Contains l n → is_in from c.in-Some.step.now.center n ≡ false) c.listed.ensures (subst (λ (s : List Step). (n : ℕ) → Contains c.listed.result.now n → is_in s c.in-Some.step.now.center n ≡ false) c.deref-2.ensures.value c.in-None-2.ensures) in
    none_back c.args.divided.now.graph.now c.args.referrers.now c.requires.referrers c.args.divided.now.parts.now.toward.items from c.in-Some.step.now.center c.args.root c.requires.whole inside none

use Rattle.std.proofs.Common.{◌<◌, ◌∙◌, ℕ, List, map, length, Contains, sym, subst, arith}
use Rattle.std.proofs.lemmas.List.{take_all}
use Rattle.graphql_names.specs.NameValue.{NameValue}
use Rattle.rule_reach.specs.NotedNames.{noted_names}
use Rattle.rule_selections.proofs.Names.{next_in}
use Rattle.rule_selections.proofs.used.are_in.Goals as goal

pub loop-name-preserved : goal.loop-name-preserved
loop-name-preserved c =
    let xs = c.as_slice-name-items.result.now in
    let i = c.loop-name.name-index in
    let h : i < length xs = omega arith in
    next_in (noted_names c.args.set.now) xs i c.name-item.result h c.name-item.is (sym c.has_name.ensures ∙ c.if-not-has_name.false) c.loop-name.invariant

pub returns : goal.returns
returns c = λ yes n k.
    let xs = c.as_slice-name-items.result.now in
    subst (λ (l : List NameValue). (n : List ℕ) → Contains (map (λ k. k.text) l) n → Contains (noted_names c.args.set.now) n)
    (take_all c.loop-name.name-index xs c.loop-name-test.false ∙ c.as_slice-name-items.ensures.keys) c.loop-name.invariant n k

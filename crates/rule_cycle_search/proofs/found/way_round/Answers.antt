use Rattle.std.proofs.Common.{◌≡◌, drop, take, [], ◌∷◌, ◌++◌, sym, ap, subst, ◌∙◌}
use Rattle.std.specs.Prelude.{Contains}
use Rattle.std.proofs.lemmas.List.Elements.{Contains-push}
use Rattle.rule_cycle_search.specs.NodeSteps.{IsIn}
use Rattle.rule_cycle_search.specs.Graph.{IsCycleThrough, AreTooMany}
use Rattle.rule_cycle_search.specs.Ways.{Follows, Joins}
use Rattle.rule_cycle_search.proofs.Parting.{part_of}
use Rattle.rule_cycle_search.specs.Depths.{Chain}
use Rattle.rule_cycle_search.proofs.Chains.{Chain-drop, Refers}
use Rattle.rule_cycle_search.proofs.Rounds.{no_ahead, not_after, joined, deep_count, cycle_through_of}
use Rattle.rule_cycle_search.proofs.found.way_round.Goals as goal

pub returns-in_default : goal.returns-in_default
returns-in_default c =
    let g = c.args.divided.now.graph.now in
    let from = c.args.divided.now.parts.now.from.items in
    let p = part_of g c.args.divided.now.parts.now.toward.items from c.args.center c.args.root c.requires.whole c.requires.root_in in
    let f = subst (λ o. Follows c.args.divided.now.parts.now.toward.items (c.args.center ∷ []) g.bound c.args.root o) c.in_default.is (subst (λ s. Follows s (c.args.center ∷ []) g.bound c.args.root c.in_ok-ahead.field-0) c.deref.ensures.value c.in_ok-ahead.ensures) in
    no_ahead g c.args.root (IsIn from c.args.center) c.args.divided.now.parts.now.toward.items from c.args.center p.onward p.back c.args.last c.requires.root_in c.requires.last_in c.requires.refers f.0 f.1.0 f.1.1.0 f.1.1.1

pub returns-in_default-2 : goal.returns-in_default-2
returns-in_default-2 c =
    let g = c.args.divided.now.graph.now in
    let to = c.args.divided.now.parts.now.toward.items in
    let from = c.args.divided.now.parts.now.from.items in
    let p = part_of g to from c.args.center c.args.root c.requires.whole c.requires.root_in in
    let f = subst (λ o. Follows to (c.args.center ∷ []) g.bound c.args.root o) c.in-Some.is (subst (λ s. Follows s (c.args.center ∷ []) g.bound c.args.root c.in_ok-ahead.field-0) c.deref.ensures.value c.in_ok-ahead.ensures) in
    let h1 = subst (λ s. Follows s c.deref-3.result.now c.args.divided.now.graph.now.bound c.args.last c.in_ok-following.field-0) c.deref-2.ensures.value c.in_ok-following.ensures in
    let h2 = subst (λ s. Follows from s c.args.divided.now.graph.now.bound c.args.last c.in_ok-following.field-0) c.deref-3.ensures.value h1 in
    let h = subst (λ o. Follows from c.in-Some.ahead.items c.args.divided.now.graph.now.bound c.args.last o) c.in_default-2.is h2 in
    not_after g c.args.root (IsIn from c.args.center) to from c.args.center p.onward p.back c.args.last c.requires.root_in c.requires.last_in c.requires.refers c.in-Some.ahead f h

pub join-requires : goal.join-requires
join-requires c =
    let from = c.args.divided.now.parts.now.from.items in
    let h1 = subst (λ s. Follows s c.deref-3.result.now c.args.divided.now.graph.now.bound c.args.last c.in_ok-following.field-0) c.deref-2.ensures.value c.in_ok-following.ensures in
    let h2 = subst (λ s. Follows from s c.args.divided.now.graph.now.bound c.args.last c.in_ok-following.field-0) c.deref-3.ensures.value h1 in
    let h = subst (λ o. Follows from c.in-Some.ahead.items c.args.divided.now.graph.now.bound c.args.last o) c.in-Some-2.is h2 in
    (h.1.0, (h.1.1.1.0, subst (λ l. Contains l h.1.0) (sym (c.deref_mut.ensures.value ∙ h.1.1.1.1)) (Contains-push h.0 h.1.0)))

pub returns-then-is_long : goal.returns-then-is_long
returns-then-is_long c =
    let g = c.args.divided.now.graph.now in
    let to = c.args.divided.now.parts.now.toward.items in
    let from = c.args.divided.now.parts.now.from.items in
    let p = part_of g to from c.args.center c.args.root c.requires.whole c.requires.root_in in
    let f = subst (λ o. Follows to (c.args.center ∷ []) g.bound c.args.root o) c.in-Some.is (subst (λ s. Follows s (c.args.center ∷ []) g.bound c.args.root c.in_ok-ahead.field-0) c.deref.ensures.value c.in_ok-ahead.ensures) in
    let h1 = subst (λ s. Follows s c.deref-3.result.now c.args.divided.now.graph.now.bound c.args.last c.in_ok-following.field-0) c.deref-2.ensures.value c.in_ok-following.ensures in
    let h2 = subst (λ s. Follows from s c.args.divided.now.graph.now.bound c.args.last c.in_ok-following.field-0) c.deref-3.ensures.value h1 in
    let h = subst (λ o. Follows from c.in-Some.ahead.items c.args.divided.now.graph.now.bound c.args.last o) c.in-Some-2.is h2 in
    let j = subst (λ s. Joins c.in-Some.ahead.items s c.join.new.ahead.items) c.deref_mut.ensures.value c.in_ok-join.ensures in
    let r = joined g c.args.root (IsIn from c.args.center) to from c.args.center p.onward p.back c.args.last c.requires.root_in c.requires.last_in c.requires.refers c.in-Some.ahead c.in-Some-2.following f h c.join.new.ahead.items j in
    let many = subst (AreTooMany g) c.deref-4.ensures.value (c.is_long.ensures c.if-is_long.true) in
    deep_count g c.args.root c.join.new.ahead.items r.rest r.is (Chain-drop (Refers g) c.join.new.ahead.items c.args.root r.chain) r.apart many

pub returns : goal.returns
returns c =
    let g = c.args.divided.now.graph.now in
    let to = c.args.divided.now.parts.now.toward.items in
    let from = c.args.divided.now.parts.now.from.items in
    let p = part_of g to from c.args.center c.args.root c.requires.whole c.requires.root_in in
    let f = subst (λ o. Follows to (c.args.center ∷ []) g.bound c.args.root o) c.in-Some.is (subst (λ s. Follows s (c.args.center ∷ []) g.bound c.args.root c.in_ok-ahead.field-0) c.deref.ensures.value c.in_ok-ahead.ensures) in
    let h1 = subst (λ s. Follows s c.deref-3.result.now c.args.divided.now.graph.now.bound c.args.last c.in_ok-following.field-0) c.deref-2.ensures.value c.in_ok-following.ensures in
    let h2 = subst (λ s. Follows from s c.args.divided.now.graph.now.bound c.args.last c.in_ok-following.field-0) c.deref-3.ensures.value h1 in
    let h = subst (λ o. Follows from c.in-Some.ahead.items c.args.divided.now.graph.now.bound c.args.last o) c.in-Some-2.is h2 in
    let j = subst (λ s. Joins c.in-Some.ahead.items s c.join.new.ahead.items) c.deref_mut.ensures.value c.in_ok-join.ensures in
    let r = joined g c.args.root (IsIn from c.args.center) to from c.args.center p.onward p.back c.args.last c.requires.root_in c.requires.last_in c.requires.refers c.in-Some.ahead c.in-Some-2.following f h c.join.new.ahead.items j in
    let rotated : c.rotate_left.new.self.items ≡ r.rest ++ c.args.root ∷ [] = c.rotate_left.ensures.items ∙ ap (λ l. drop 1 l ++ take 1 l) r.is in
    subst (IsCycleThrough g c.args.root) (sym rotated) (cycle_through_of g c.args.root r.rest (subst (λ l. Chain (Refers g) (l ++ c.args.root ∷ [])) r.is r.chain))

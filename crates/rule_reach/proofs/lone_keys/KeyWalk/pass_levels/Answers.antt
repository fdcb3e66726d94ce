use Rattle.std.proofs.Common.{◌≡◌, ◌∙◌, ◌==◌, ℕ, [], sym, ap, subst}
use Rattle.rule_definitions.proofs.Listing.{empty_is}
use Rattle.rule_reach.specs.Passed.{sets_read, map_read, IsPassed}
use Rattle.rule_reach.proofs.Leveling.{level_passed, levels_ended}
use Rattle.rule_reach.proofs.lone_keys.KeyWalk.pass_levels.Goals as goal

pub loop-init : goal.loop-init
loop-init c = λ s led. led

pub loop-preserved : goal.loop-preserved
loop-preserved c = λ s led.
    let fs = map_read c.args.fragments.now in
    let level = sets_read c.loop.level.items in
    level_passed fs s level (sets_read c.swap.new.x.items)
    (subst (λ l. IsPassed fs level (sets_read l)) (ap (λ v. v.items) (sym c.swap.ensures.x_after)) (c.in_ok-passed.ensures c.if-not-passed.false)) (c.loop.invariant s led)

pub returns-then-is_empty : goal.returns-then-is_empty
returns-then-is_empty c = λ is s led.
    let none : c.loop.level.items ≡ [] = empty_is c.loop.level.items (ap (λ (n : ℕ). n == 0) (sym c.loop.level.ok.0) ∙ sym c.is_empty.ensures ∙ c.if-is_empty.true) in
    levels_ended (map_read c.args.fragments.now) s (sets_read c.loop.level.items) (ap sets_read none) (c.loop.invariant s led)

pub returns : goal.returns
returns c = λ is s led.
    let none : c.loop.level.items ≡ [] = empty_is c.loop.level.items (ap (λ (n : ℕ). n == 0) (sym c.loop.level.ok.0) ∙ sym c.is_empty-2.ensures ∙ is) in
    levels_ended (map_read c.args.fragments.now) s (sets_read c.loop.level.items) (ap sets_read none) (c.loop.invariant s led)

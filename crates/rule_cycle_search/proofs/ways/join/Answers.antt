use Rattle.std.proofs.Common.{◌∙◌, [], ◌∷◌, ◌++◌, arith, sym, ap, subst, inl, inr}
use Rattle.std.specs.Prelude.{Contains, option_to_list}
use Rattle.std.proofs.lemmas.Result.{on_ok_weaker}
use Rattle.std.proofs.lemmas.List.{nil_from_length}
use Rattle.std.proofs.lemmas.List.Elements.{Contains-append_cases}
use Rattle.rule_cycle_search.proofs.Lists.{not_in_nil, only}
use Rattle.rule_cycle_search.proofs.Members.{contains_true, contains_false, popped, on_ok_if}
use Rattle.rule_cycle_search.proofs.ways.join.Goals as goal
use Rattle.rule_cycle_search.proofs.ways.join.Goals.{in-Some+then-contains, in_default}

pub loop-node-preserved : goal.loop-node-preserved
loop-node-preserved c =
    let i = c.loop-node.invariant in
    let out : Contains c.args.following.now c.in-Some.node → ⊥ = contains_false c.args.following.now c.in-Some.node (sym c.contains.ensures.value ∙ c.if-contains.false) in
    let was = c.pop.ensures.items ∙ ap (λ o. c.pop.new.self.items ++ option_to_list o) c.in-Some.is in (
      c.in-Some.node ∷ i.0,
      (
        popped c.args.ahead.now.items c.loop-node.ahead.items c.pop.new.self.items i.0 c.pop.result c.in-Some.node c.pop.ensures.items c.in-Some.is i.1.0,
        (
          i.1.1.0,
          (
            elim (Contains-append_cases c.pop.new.self.items (c.in-Some.node ∷ []) i.1.1.0 (subst (λ l. Contains l i.1.1.0) was i.1.1.1.0)) [
              | inl a ↦ a
              | inr b ↦ absurd (out (subst (Contains c.args.following.now) (only c.in-Some.node i.1.1.0 b) i.1.1.1.1))
            ],
            i.1.1.1.1,
          ),
        ),
      ),
    )

pub returns : goal.returns
returns c =
    let i = c.loop-node.invariant in
    on_ok_weaker c.extend_from_slice.result
    (λ is. elim c.match-pop.branch [
      | in-Some+then-contains w ↦ (
        c.pop.new.self.items,
        (
          w.in-Some.node,
          (
            i.0,
            (
              popped c.args.ahead.now.items c.loop-node.ahead.items c.pop.new.self.items i.0 c.pop.result w.in-Some.node c.pop.ensures.items w.in-Some.is i.1.0,
              (contains_true c.args.following.now w.in-Some.node (sym w.contains.ensures.value ∙ w.if-contains.true), is ∙ ap (λ l. c.pop.new.self.items ++ l) c.reverse.ensures.after),
            ),
          ),
        ),
      )
      | in_default w ↦ let none = nil_from_length c.loop-node.ahead.items (omega (arith, w.in_default.ensures.cases.0)) in not_in_nil i.1.1.0 (subst (λ l. Contains l i.1.1.0) none i.1.1.1.0)
    ])
    (on_ok_if c.extend_from_slice.result c.extend_from_slice.new.self.items (c.pop.new.self.items ++ c.reverse.new.self) c.pop.new.self.items c.extend_from_slice.ensures.items)

use Rattle.std.proofs.Common.{◌≡◌, ◌∙◌, ◌<◌, ◌+◌, ◌∷◌, ◌++◌, [], take, length, get_or, refl, sym, ap, subst, arith}
use Rattle.std.proofs.lemmas.List.{take_all, get_or_default, map-append}
use Rattle.graphql_names.specs.Placed.{Place}
use Rattle.rule_selection_queries.specs.in_spec_document.MeantTree.{MeantSet}
use Rattle.rule_field_sets.specs.Read.{set_at}
use Rattle.rule_field_groups.specs.Members.{meant_sets}
use Rattle.rule_field_groups.specs.MergeState.{kept_of}
use Rattle.rule_field_groups.specs.Pairs.{with_each}
use Rattle.rule_field_groups.specs.Pairs.{Looks}
use Rattle.rule_field_groups.proofs.Looking.{looks_none, looks_both, one_more_of}
use Rattle.rule_field_groups.proofs.merge_state.MergeState.look_before_each.Goals as goal

pub loop-node-init : goal.loop-node-init
loop-node-init c = record { looks = looks_none (kept_of c.args.sets.now c.args.self.now); beside = refl }

pub returns-in_err-look_at_pair-clause-beside : goal.returns-in_err-look_at_pair-clause-beside
returns-in_err-look_at_pair-clause-beside c = c.in_err-look_at_pair.ensures.beside ∙ c.loop-node.invariant.beside

pub loop-node-preserved : goal.loop-node-preserved
loop-node-preserved c =
    let w = c.args.sets.now in
    let v = set_at w c.args.one in
    let xs = c.args.nodes.now in
    let i = c.loop-node.node-index in
    let h : i < length xs = omega arith in
    let x = get_or xs i 0 in
    let is : x ≡ get_or xs i x = get_or_default xs i 0 x h in
    let before = meant_sets w (take i xs) in
    let front : with_each v (meant_sets w (take (i + 1) xs)) ≡ with_each v (before) ++ (v ∷ set_at w x ∷ []) ∷ [] =
    ap (λ l. with_each v (l)) (one_more_of (set_at w) xs i x h is) ∙ map-append (λ (u : MeantSet Place). v ∷ u ∷ []) before (set_at w x ∷ []) in
    record {
      looks = subst (λ l. Looks l (kept_of w c.args.self.now) (kept_of w c.look_at_pair.new.self)) (sym front)
          (looks_both (with_each v (before)) ((v ∷ set_at w x ∷ []) ∷ []) (kept_of w c.args.self.now) (kept_of w c.loop-node.self) (kept_of w c.look_at_pair.new.self)
          c.loop-node.invariant.looks c.in_ok-look_at_pair.ensures.looks);
      beside = c.in_ok-look_at_pair.ensures.beside ∙ c.loop-node.invariant.beside;
    }

pub returns-clause-looks : goal.returns-clause-looks
returns-clause-looks c =
    let w = c.args.sets.now in
    let v = set_at w c.args.one in
    subst (λ l. Looks (with_each v (meant_sets w l)) (kept_of w c.args.self.now) (kept_of w c.loop-node.self)) (take_all c.loop-node.node-index c.args.nodes.now c.loop-node-test.false) c.loop-node.invariant.looks

pub returns-clause-beside : goal.returns-clause-beside
returns-clause-beside c = c.loop-node.invariant.beside
